pub mod Cells
pub mod Reordered
