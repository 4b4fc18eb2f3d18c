-- What the program `balance` prints (01, 'Day file').
pub mod Report
pub mod Asked
