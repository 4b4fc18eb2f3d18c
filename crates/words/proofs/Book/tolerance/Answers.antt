-- `Book::tolerance` meets its contract. Assumes nothing.
use native.Mathlib.Omega.{arith}
use Rattle.words.proofs.BookCode.{book-long}
use Rattle.words.proofs.Book.tolerance.Goals as goal

pub bounds-self-inside-2 : goal.bounds-self-inside-2
bounds-self-inside-2 c = omega (arith, book-long _ c.self.invariant)
