-- Any call on a book in lent bytes.
pub mod Calls
