-- What the code reads out of a day file's bytes, put together from the definitions of `rules`.
pub mod Walk
pub mod Read
