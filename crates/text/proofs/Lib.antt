-- Laws of text; the folders hold the proof of a function each.
pub mod TextLaws
