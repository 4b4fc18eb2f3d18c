-- How the tests of older copies stand to today's, what is promised of such copies, and worked figures of both.
pub mod CopyLaws
pub mod PromiseLaws
pub mod FormerFigures
