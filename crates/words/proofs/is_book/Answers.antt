-- `is_book` meets its contract. Assumes nothing.
use native.Mathlib.Omega.{arith}
use Rattle.words.proofs.BookCode.{too_short, head-fails, head-holds}
use Rattle.words.proofs.is_book.Goals as goal

pub returns-then-words-lt-HEAD_WORDS : goal.returns-then-words-lt-HEAD_WORDS
returns-then-words-lt-HEAD_WORDS c = search too_short

pub returns-then-not-head : goal.returns-then-not-head
returns-then-not-head c = search (head-fails, arith)

pub returns : goal.returns
returns c = search (head-holds, arith)
