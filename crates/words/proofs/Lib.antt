pub mod BookCode
