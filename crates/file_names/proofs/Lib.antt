-- Laws of the tables of parties and days that a file names; the folders hold the proof of a function each.
pub mod NameLaws
