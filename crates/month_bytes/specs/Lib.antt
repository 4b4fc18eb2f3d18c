-- A month's tables as bytes, for calls from C (01, 'Month step').
pub mod Tables
