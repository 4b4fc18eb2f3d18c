-- `book::next_number` meets its contract. Assumes nothing.
use mathlib.Core.Path.{◌≡◌, sym}
use mathlib.Core.Bool.{true, false}
use mathlib.Core.List.{List}
use Prim.Native.Nat.{ℕ, ◌+◌}
use lib.Dec.{leb}
use lib.ListN.{length}
use native.Mathlib.Omega.{arith}
use borrow.Author.Tests.{lt-ltb, le-ltb, leb-true, leb-false}
use Rattle.std.proofs.lemmas.Result.{err_from_is_err_and}
use Rattle.numbers.proofs.CauseLaws.{else-stop}
use Rattle.rules.specs.Entry.{Key, fault}
use Rattle.rules.specs.Words.{is_book, entries, count_of, room_in}
use Rattle.rules.specs.Book.{shut_to}
use Rattle.rules.specs.Calls.{post, cause_of}
use Rattle.rules.proofs.CallLaws.{post-cause}
use Rattle.rules.proofs.RefusalLaws.{number-not_zero}
use Rattle.entry_checks.proofs.Ladder.{passed, failed}
use Rattle.book.proofs.next_number.Goals as goal

-- why it comes back
module _ (ws : List ℕ) (k : Key) (a : ℕ) where
  cause-book : is_book ws ≡ false → 1 ≡ cause_of ws (post k a)
  cause-book b = rw (post-cause, b)

  cause-fault : {f : ℕ} → is_book ws ≡ true → f ≡ fault k a → (f ≡ 0 → ⊥) → f ≡ cause_of ws (post k a)
  cause-fault b e n = rw (post-cause, b, ← e) (sym (else-stop _ _ n))

  cause-shut : is_book ws ≡ true → fault k a ≡ 0 → shut_to k (entries ws) ≡ true → 8 ≡ cause_of ws (post k a)
  cause-shut b f s = rw (post-cause, b, f, s)

  cause-room : is_book ws ≡ true → fault k a ≡ 0 → shut_to k (entries ws) ≡ false → leb (count_of ws + 1) (room_in (length ws)) ≡ false → 9 ≡ cause_of ws (post k a)
  cause-room b f s h = rw (post-cause, b, f, s, le-ltb (count_of ws) (room_in (length ws)) (let q = leb-false _ _ h in omega arith))

  cause-none : is_book ws ≡ true → fault k a ≡ 0 → shut_to k (entries ws) ≡ false → leb (count_of ws + 1) (room_in (length ws)) ≡ true → 0 ≡ cause_of ws (post k a)
  cause-none b f s h = rw (post-cause, b, f, s, lt-ltb (count_of ws) (room_in (length ws)) (let q = leb-true _ _ h in omega arith))

pub returns-in_err-book-clause-answer : goal.returns-in_err-book-clause-answer
returns-in_err-book-clause-answer c =
    let p = err_from_is_err_and c.from_residual.result c.from_residual.ensures.1 in
    rw (p.1, p.2, c.in_err-book.ensures.err) (cause-book _ _ _ c.in_err-book.ensures.no_book)

pub returns-in_err-check-clause-answer : goal.returns-in_err-check-clause-answer
returns-in_err-check-clause-answer c =
    let p = err_from_is_err_and c.from_residual-in_err-check.result c.from_residual-in_err-check.ensures.1 in
    rw (p.1, p.2) (cause-fault _ _ _ c.in_ok-book.ensures.book c.in_err-check.ensures (number-not_zero _))

pub returns-then-shut_to-clause-answer : goal.returns-then-shut_to-clause-answer
returns-then-shut_to-clause-answer c =
    cause-shut _ _ _ c.in_ok-book.ensures.book (sym c.in_ok-check.ensures) (rw c.in_ok-book.ensures.ok at (passed c.shut_to.ensures c.if-shut_to.true))

pub returns-then-not-has_room-clause-answer : goal.returns-then-not-has_room-clause-answer
returns-then-not-has_room-clause-answer c =
    cause-room _ _ _ c.in_ok-book.ensures.book (sym c.in_ok-check.ensures) (rw c.in_ok-book.ensures.ok at (failed c.shut_to.ensures c.if-shut_to.false)) (rw c.in_ok-book.ensures.ok at (failed c.has_room.ensures c.if-not-has_room.true))

pub returns-clause-answer : goal.returns-clause-answer
returns-clause-answer c =
    cause-none _ _ _ c.in_ok-book.ensures.book (sym c.in_ok-check.ensures) (rw c.in_ok-book.ensures.ok at (failed c.shut_to.ensures c.if-shut_to.false)) (rw c.in_ok-book.ensures.ok at (passed c.has_room.ensures c.if-not-has_room.false))
