pub mod Passes
pub mod Tables
