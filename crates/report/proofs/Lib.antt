-- Laws of the report; the folders hold the proof of a function each.
pub mod ReportLaws
pub mod PairLaws
pub mod LengthLaws
