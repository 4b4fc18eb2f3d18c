-- Laws of a month's tables out of bytes; the folders hold the proof of a function each.
pub mod FigureLaws
