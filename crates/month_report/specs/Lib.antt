-- The lines of a month report (02, T-01).
pub mod Lines
pub mod Reports
