pub mod Flags
pub mod Pairs
pub mod Periods
