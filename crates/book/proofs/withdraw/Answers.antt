-- `book::withdraw` meets its contract. Assumes nothing.
use mathlib.Core.Path.{refl}
use Rattle.rules.proofs.RefusalLaws.{number-not_zero}
use Rattle.book.proofs.Calls.{withdraw-refuses, withdraw-place, withdraw-leaves}
use Rattle.book.proofs.withdraw.Goals as goal

pub returns-in_err-check_withdrawal-clause-words : goal.returns-in_err-check_withdrawal-clause-words
returns-in_err-check_withdrawal-clause-words c =
    (withdraw-refuses _ _ c.in_err-check_withdrawal.ensures (number-not_zero _)).1

pub set_status-requires-clause-number_in_bounds : goal.set_status-requires-clause-number_in_bounds
set_status-requires-clause-number_in_bounds c = (withdraw-place _ _ c.in_ok-check_withdrawal.ensures refl).within

pub set_status-requires-clause-book_value : goal.set_status-requires-clause-book_value
set_status-requires-clause-book_value c = (withdraw-place _ _ c.in_ok-check_withdrawal.ensures refl).ok

pub returns-clause-words : goal.returns-clause-words
returns-clause-words c = (withdraw-leaves _ _ c.in_ok-check_withdrawal.ensures refl c.set_status.ensures).1
