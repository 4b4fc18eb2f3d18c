-- The laws of this crate's loops; the folders hold the proof of a function each.
pub mod ScanLaws
pub mod BitLaws
pub mod RangeLaws
pub mod RowLaws
pub mod TableLaws
