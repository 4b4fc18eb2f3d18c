-- What the code of this crate names by itself, put together from the definitions of `rules`.
pub mod Names
