-- `Book::coefficient` meets its contract. Assumes nothing.
use native.Mathlib.Omega.{arith}
use Rattle.words.proofs.BookCode.{book-long}
use Rattle.words.proofs.Book.coefficient.Goals as goal

pub bounds-self-inside-1 : goal.bounds-self-inside-1
bounds-self-inside-1 c = omega (arith, book-long _ c.self.invariant)
