-- `dayfile::read_file` meets its contract. Assumes nothing.
use mathlib.Core.Path.{refl, ap, ◌∙◌}
use Prim.Native.Nat.{◌+◌, ◌*◌}
use native.Mathlib.Omega.{arith}
use Rattle.rules.specs.DayFile.{items}
use Rattle.rules.proofs.RefusalLaws.{number-not_zero}
use Rattle.dayfile.specs.Stored.{stored_from}
use Rattle.words.proofs.BookCode.{book-long}
use Rattle.dayfile.proofs.FileLaws.{left-as-was, done-passes, done-within, done-legal, done-count, done-stores}
use Rattle.dayfile.proofs.read_file.Goals as goal

pub returns-in_err-lines-clause-words : goal.returns-in_err-lines-clause-words
returns-in_err-lines-clause-words c = left-as-was _ _ c.in_err-lines.ensures (number-not_zero _)

pub count_of-count-requires : goal.count_of-count-requires
count_of-count-requires c = book-long _ (done-passes _ _ c.in_ok-lines.ensures refl).is-book

pub store_lines-requires-clause-file_in_bounds : goal.store_lines-requires-clause-file_in_bounds
store_lines-requires-clause-file_in_bounds c =
    rw c.count_of-count.ensures (done-within _ _ c.in_ok-lines.ensures refl)

pub store_lines-requires-clause-file_value : goal.store_lines-requires-clause-file_value
store_lines-requires-clause-file_value c = done-legal _ _ c.in_ok-lines.ensures refl

-- the count is a number of entries
pub overflow_add-book : goal.overflow_add-book
overflow_add-book c = omega (arith, c.count_of-count.ensures, done-count _ _ c.in_ok-lines.ensures refl)

pub overflow_add-book-2 : goal.overflow_add-book-2
overflow_add-book-2 c = omega (arith, c.count_of-count.ensures, done-count _ _ c.in_ok-lines.ensures refl)

pub bounds-book-0 : goal.bounds-book-0
bounds-book-0 c = omega (arith, c.store_lines.auto.book, done-within _ _ c.in_ok-lines.ensures refl)

pub returns-clause-words : goal.returns-clause-words
returns-clause-words c =
    let a = c.args in
    let n = c.count_of-count in
    let w = c.store_lines.ensures ∙ ap (λ m. stored_from a.book.now (3 + 5 * m) (items a.file.now)) n.ensures in
    rw n.ensures (done-stores _ _ c.in_ok-lines.ensures refl w)
