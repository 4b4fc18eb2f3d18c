-- What the program `month` prints (02, T-01).
pub mod MonthText
