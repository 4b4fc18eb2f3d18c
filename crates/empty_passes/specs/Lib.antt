pub mod Sought
