-- Laws of what is written; the folders hold the proof of a function each.
pub mod WriteLaws
