-- Laws of the table's text; the folders hold the proof of a function each.
pub mod LineLaws
