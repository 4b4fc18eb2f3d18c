pub mod CaseFigures
