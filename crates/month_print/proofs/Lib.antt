-- Laws and figures of what the program `month` prints; the folders hold the proof of a function each.
pub mod ReadLaws
pub mod TextFigures
