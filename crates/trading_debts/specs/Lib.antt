pub mod Window
pub mod Walk
