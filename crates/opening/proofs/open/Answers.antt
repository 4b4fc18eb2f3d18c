-- `open` meets its contract. Assumes nothing.
use mathlib.Core.Path.{sym, ◌∙◌}
use native.Mathlib.Omega.{arith}
use lib.ListN.{length, length-set}
use Rattle.rules.proofs.BookLaws.{OpenLimits, open-limits, open-refused}
use Rattle.rules.proofs.RefusalLaws.{number-not_zero}
use Rattle.opening.proofs.Opened.{open-leaves}
use Rattle.opening.proofs.open.Goals as goal
use Rattle.opening.proofs.open.Goals.{In_ok-check}

pub returns-in_err-check-clause-words : goal.returns-in_err-check-clause-words
returns-in_err-check-clause-words c =
    sym (open-refused _ _ _ (λ z. number-not_zero c.in_err-check.field-0.0 (c.in_err-check.ensures ∙ z)))

within : (c : In_ok-check) →
    let a = c.args in
    OpenLimits (length a.book.now) a.coefficient a.tolerance
within c = open-limits _ _ _ (sym c.in_ok-check.ensures)

pub overflow_add-book : goal.overflow_add-book
overflow_add-book c = let l = within c in omega arith

pub bounds-book-1 : goal.bounds-book-1
bounds-book-1 c = let l = within c in omega arith

pub overflow_add-book-2 : goal.overflow_add-book-2
overflow_add-book-2 c = let l = within c in omega arith

pub bounds-book-2 : goal.bounds-book-2
bounds-book-2 c = let l = within c in simp length-set (omega arith)

pub bounds-book-0 : goal.bounds-book-0
bounds-book-0 c = let l = within c in simp length-set (omega arith)

pub returns-clause-words : goal.returns-clause-words
returns-clause-words c = open-leaves _ _ _ (sym c.in_ok-check.ensures)
