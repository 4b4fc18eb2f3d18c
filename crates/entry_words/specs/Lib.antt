-- What the code tests by itself, put together from the definitions of `rules`, and an entry's words in code.
pub mod Parts
pub mod Words
