-- The words and bytes of a day file as its writer makes them, put together from the definitions of `rules`.
pub mod Write
