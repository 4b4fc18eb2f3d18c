-- Laws of bytes and words, and of a call on a book's bytes; the folders hold the proof of a function each.
pub mod BytesLaws
pub mod CodingLaws
pub mod CallLaws
