-- Cancelling and the lines of a file, on records: they stay legal, and how many they are. Assumes nothing.
use mathlib.Core.Path.{◌≡◌, refl, ap, ◌∙◌}
use mathlib.Core.Bool.{true}
use mathlib.Core.List.{List, [], ◌∷◌, map}
use Prim.Native.Nat.{ℕ, ◌+◌, ◌≤◌}
use lib.Dec.{eqb}
use lib.ListN.{length}
use borrow.Author.Tests.{eqb-true}
use Rattle.numbers.specs.Tests.{all}
use Rattle.numbers.specs.Causes.{first_of}
use Rattle.numbers.proofs.TestLaws.{and-join, every_holds, all_append}
use Rattle.numbers.proofs.CauseLaws.{else-split}
use Rattle.rules.specs.Entry.{Record, key, record_of, legal, fault, is_standing, is_bilateral, standing, cancelled}
use Rattle.rules.specs.Control.{Parties, is_to_cancel, cancel_of, first_pass, second_pass, after_first, after_second, mark_of, controlled_records}
use Rattle.rules.specs.DayFile.{Item, line, empty_block, item_cause, lines_of}
use Rattle.rules.proofs.BookLaws.{cancel-legal, mark-legal, new-legal, length-snoc}
use Rattle.rules.proofs.StatusLaws.{Changes, where-length, where-legals}

-- the day's standing bilateral sales, counterparty above 0
pub record IsSale (d : ℕ) (r : Record) : Type 0 where
  pub stands : r.label.status ≡ 0
  pub day : (key r).day ≡ d
  pub bilateral : is_bilateral (key r) ≡ true

module _ (who : Parties) (d : ℕ) where
  pub to-cancel-is-sale : (r : Record) → is_to_cancel who d r ≡ true → IsSale d r
  unfolding is_to_cancel
  to-cancel-is-sale r e =
      let h = every_holds (is_standing r ∷ eqb (key r).day d ∷ is_bilateral (key r) ∷ who (key r).party ∷ []) e in
      record { stands = eqb-true _ _ h.0; day = eqb-true _ _ h.1.0; bilateral = h.1.1.0 }

  -- cancelling is a change of status
  pub cancels : Changes (is_to_cancel who d) cancelled
  cancels =
      record {
        stands = λ r e. (to-cancel-is-sale r e).stands;
        keeps = λ r l e. cancel-legal r l (to-cancel-is-sale r e).bilateral;
      }

  pub cancel-length : (rs : List Record) → length (cancel_of who d rs) ≡ length rs
  unfolding cancel_of
  cancel-length rs = where-length (is_to_cancel who d) cancelled rs

  pub cancel-legals : (rs : List Record) → all legal rs ≡ true → all legal (cancel_of who d rs) ≡ true
  unfolding cancel_of
  cancel-legals rs e = where-legals (is_to_cancel who d) cancelled cancels rs e

module _ (R TM d : ℕ) (rs : List Record) where
  pub second-length : length (after_second R TM d rs) ≡ length rs
  unfolding after_second after_first
  second-length = cancel-length (second_pass R TM d rs) d (after_first R TM d rs) ∙ cancel-length (first_pass R TM d rs) d rs

  second-legals : all legal rs ≡ true → all legal (after_second R TM d rs) ≡ true
  unfolding after_second after_first
  second-legals l = cancel-legals (second_pass R TM d rs) d (after_first R TM d rs) (cancel-legals (first_pass R TM d rs) d rs l)

  pub controlled-length : length (controlled_records R TM d rs) ≡ length rs + 1
  unfolding controlled_records
  controlled-length = length-snoc (after_second R TM d rs) (mark_of d) ∙ ap (λ n. n + 1) second-length

  pub controlled-legals : all legal rs ≡ true → d ≤ 36524 → all legal (controlled_records R TM d rs) ≡ true
  unfolding controlled_records mark_of all
  controlled-legals l h = rw (all_append legal (after_second R TM d rs) (mark_of d ∷ []), second-legals l, mark-legal d h)

-- the lines of a file that no cause refuses
pub lines-legal : (rs : List Record) (is : List Item) → first_of (map (item_cause rs) is) ≡ 0 → all legal (lines_of is) ≡ true
unfolding lines_of all item_cause
lines-legal rs [] e = refl
lines-legal rs (line k a ∷ is) e =
    let s = else-split (item_cause rs (line k a)) (first_of (map (item_cause rs) is)) e in
    let f = else-split (fault k a) _ s.0 in
    and-join (legal (record_of k standing a)) (all legal (lines_of is)) (new-legal k a f.0) (lines-legal rs is s.1)
lines-legal rs (empty_block p d ∷ is) e =
    lines-legal rs is (else-split (item_cause rs (empty_block p d)) (first_of (map (item_cause rs) is)) e).1
