-- Laws that the crates above share.
pub mod CellLaws
pub mod ScanLaws
