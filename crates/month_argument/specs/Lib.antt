-- The month that the arguments of the program `month` name (02, T-01).
pub mod Argument
pub mod Longer
