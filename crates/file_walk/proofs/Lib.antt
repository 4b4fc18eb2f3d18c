-- Laws of a reader of a file and of the walks over it; the folders hold the proof of a function each.
pub mod ReadLaws
pub mod WalkLaws
