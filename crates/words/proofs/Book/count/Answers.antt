-- `Book::count` meets its contract. Assumes nothing.
use Rattle.words.proofs.BookCode.{book-long}
use Rattle.words.proofs.Book.count.Goals as goal

pub count_of-requires : goal.count_of-requires
count_of-requires c = book-long _ c.self.invariant
