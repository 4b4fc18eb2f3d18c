-- Laws of an argument's number; the folders hold the proof of a function each.
pub mod LongerLaws
pub mod ArgumentFigures
