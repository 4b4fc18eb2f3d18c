-- Laws of posting what a file holds; the folders hold the proof of a function each.
pub mod PostLaws
pub mod FileLaws
