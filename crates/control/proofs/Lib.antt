pub mod ControlLaws
pub mod CancelLaws
pub mod RunLaws
pub mod NobodyLaws
