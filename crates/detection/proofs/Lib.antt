pub mod TableLaws
pub mod BelowLaws
pub mod DetectLaws
pub mod SecondLaws
