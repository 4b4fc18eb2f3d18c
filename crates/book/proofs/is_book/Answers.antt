-- `book::is_book` meets its contract. Assumes nothing.
use Rattle.std.proofs.Common.{◌≡◌, Bool, true, false, Result, Ok, Err, OnOk, OnErr, is_ok, sym, ◌∙◌}
use Rattle.book.proofs.is_book.Goals as goal

by_result : {T E : Type 0} (r : Result T E) {b : Bool} → OnOk r (b ≡ true) → OnErr r (b ≡ false) → is_ok r ≡ b
by_result (Ok x) h n = sym h
by_result (Err e) h n = sym n

pub returns : goal.returns
returns c = c.is_ok.ensures.value ∙ by_result c.of.result c.of.ensures.book c.of.ensures.no_book
