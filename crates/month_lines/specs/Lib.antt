-- What the program `month_table` prints (02, T-08).
pub mod Lines
