-- The laws of this crate's definitions; the folders hold the proof of a function each.
pub mod SumLaws
pub mod TestLaws
pub mod ListLaws
pub mod CauseLaws
pub mod RoundingLaws
pub mod SignedLaws
