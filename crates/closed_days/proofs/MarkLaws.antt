-- Laws of marks among a book's entries and of their days in a table. Assumes nothing.
use mathlib.Core.Path.{◌≡◌, sym, ◌∙◌}
use mathlib.Core.Logic.{inl, inr}
use mathlib.Core.Bool.{Bool, true, false, ◌||◌, or-false, or-true, or_assoc}
use mathlib.Core.List.{List}
use Prim.Native.Nat.{ℕ, ◌+◌, ◌-◌, ◌*◌, ◌<◌}
use lib.Dec.{eqb}
use lib.ListN.{length, get_or, drop, set}
use lib.Seq.{get_or-set_same, get_or-set_other}
use borrow.Author.Tests.{eq-eqb, ne_eqb, eqb-true, eqb-false}
use Rattle.numbers.specs.Tests.{any}
use Rattle.numbers.proofs.TestLaws.{bool_cases}
use Rattle.rules.specs.Entry.{Record, key, is_mark}
use Rattle.rules.specs.Words.{read_entries}
use Rattle.rules.specs.Book.{entry_at, is_mark_of, is_closed}
use Rattle.words.proofs.BookCode.{entry-from}

-- entry i of a book's words and those after it: one of them is a mark
pub mark-from : (n : ℕ) (ws : List ℕ) (i : ℕ) → i < n → any is_mark (read_entries (n - i) (drop (3 + 5 * i) ws)) ≡ is_mark (entry_at ws i) || any is_mark (read_entries (n - (i + 1)) (drop (3 + 5 * (i + 1)) ws))
unfolding any
mark-from n ws i h = rw (entry-from n ws i h)

-- one of them closes a day
pub day-from : (d n : ℕ) (ws : List ℕ) (i : ℕ) → i < n → is_closed d (read_entries (n - i) (drop (3 + 5 * i) ws)) ≡ is_mark_of d (entry_at ws i) || is_closed d (read_entries (n - (i + 1)) (drop (3 + 5 * (i + 1)) ws))
unfolding is_closed any
day-from d n ws i h = rw (entry-from n ws i h)

-- a table of flags in a walk: one entry more in the table, one fewer to come
pub table_step : (a m rest : Bool) {whole before after : Bool} → whole ≡ a || before → before ≡ m || rest → after ≡ a || m → whole ≡ after || rest
table_step a m rest w b e = w ∙ rw (b, e, or_assoc a m rest)

-- one entry's mark in the table
module _ (cs : List Bool) (r : Record) {t : ℕ} (type : t ≡ (key r).type) where
  pub no-mark : (t ≡ 21 → ⊥) → (d : ℕ) → get_or cs d false ≡ get_or cs d false || is_mark_of d r
  no-mark n d = rw (← type, ne_eqb t 21 n, or-false (get_or cs d false))

  pub mark_set : {day : ℕ} → day ≡ (key r).day → t ≡ 21 → day < length cs → (d : ℕ) → get_or (set cs day true) d false ≡ get_or cs d false || is_mark_of d r
  mark_set {day} e y h d =
      elim (bool_cases (eqb day d)) [
        | inl s ↦ rw (← type, ← e, eq-eqb t 21 y, s, ← eqb-true day d s, get_or-set_same cs day true false h, or-true (get_or cs day false))
        | inr s ↦ rw (← type, ← e, eq-eqb t 21 y, s, or-false (get_or cs d false)) (get_or-set_other cs day d true false (λ q. eqb-false day d s (sym q)))
      ]
