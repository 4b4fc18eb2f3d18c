-- What the code of this crate stores by itself, put together from the definitions of `rules`.
pub mod Stored
