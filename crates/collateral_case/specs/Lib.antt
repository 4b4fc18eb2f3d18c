-- What the C calls take as numbers.
pub mod Cases
