pub mod Sums
pub mod Tests
pub mod Causes
pub mod Rounding
pub mod Signed
