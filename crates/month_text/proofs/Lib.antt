-- Laws and figures of a month report's text; the folders hold the proof of a function each.
pub mod LineLaws
pub mod LineFigures
