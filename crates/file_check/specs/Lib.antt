-- What the code of this crate checks by itself, put together from the definitions of `rules`.
pub mod Check
