-- Laws of checking a file; the folders hold the proof of a function each.
pub mod CheckLaws
pub mod AnswerLaws
