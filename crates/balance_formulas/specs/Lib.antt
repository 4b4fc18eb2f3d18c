pub mod Bounded
pub mod Sides
