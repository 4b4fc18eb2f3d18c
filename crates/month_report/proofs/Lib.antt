-- Laws that the proofs of this crate share; the folders hold the proof of a function each.
pub mod LineLaws
pub mod ReportLaws
