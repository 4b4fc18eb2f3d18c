-- The parties that the table detects are those of the definition. Assumes nothing.
use mathlib.Core.Path.{◌≡◌, fun_ext}
use mathlib.Core.Logic.{inl, inr}
use mathlib.Core.Bool.{Bool, true, false, and-false}
use mathlib.Core.List.{List}
use Prim.Native.Nat.{ℕ, ◌<◌}
use native.Mathlib.Nat.{le_refl}
use lib.Dec.{ltb}
use lib.ListN.{get_or-replicate}
use borrow.Author.Tests.{ltb-true, ltb-false}
use Rattle.numbers.proofs.TestLaws.{bool_cases}
use Rattle.rules.specs.Entry.{party_ok, party_places}
use Rattle.rules.specs.Words.{is_book, entries, count_of, coefficient_of, tolerance_of}
use Rattle.rules.specs.Control.{detected_in}
use Rattle.rules.proofs.WordLaws.{within-true}
use Rattle.cells.specs.Cells.{AtMost}
use Rattle.cells.proofs.ScanLaws.{table_to}
use Rattle.balance_formulas.specs.Bounded.{most_sum}
use Rattle.repeated_pairs.specs.Flags.{flagged, all_flags}
use Rattle.detection.specs.Tables.{table_cells, table_of, detected_among, checked, of_pass}
use Rattle.detection.proofs.BelowLaws.{no-party}
use Rattle.detection.proofs.TableLaws.{day-limited, ahead-is}

module _ (ws : List ℕ) (b : is_book ws ≡ true) (d : ℕ) where
  pub table-within : AtMost most_sum (table_of d (entries ws))
  unfolding table_of entries
  table-within = table_to ws b (day-limited d) table_cells (count_of ws) (le_refl (count_of ws))

  pub table-detects : (cells : List ℕ) (among : List Bool) → cells ≡ table_of d (entries ws) → detected_among cells (coefficient_of ws) (tolerance_of ws) among ≡ checked ws d among
  unfolding detected_among checked detected_in
  table-detects cells among e = fun_ext at
    where
      at : (p : ℕ) → detected_among cells (coefficient_of ws) (tolerance_of ws) among p ≡ checked ws d among p
      at p =
          elim (bool_cases (party_ok p)) [
            | inl k ↦ let r = within-true 1 999 p k in rw (e, ahead-is d (entries ws) p r.0 r.1 (coefficient_of ws) (tolerance_of ws))
            | inr k ↦ rw k
          ]

-- the first pass asks everyone
pub asked : {among : List Bool} → among ≡ all_flags → (p : ℕ) → p < party_places → flagged among p ≡ true
unfolding all_flags
asked q p h = rw q (get_or-replicate party_places p true false h)

module _ (ws : List ℕ) (d : ℕ) where
  pub all_asked : {among : List Bool} → among ≡ all_flags → checked ws d among ≡ of_pass false ws d
  unfolding checked of_pass detected_in
  all_asked {among} q = fun_ext at
    where
      at : (p : ℕ) → checked ws d among p ≡ of_pass false ws d p
      at p =
          elim (bool_cases (ltb p party_places)) [
            | inl l ↦ rw (asked q p (ltb-true p party_places l))
            | inr l ↦ rw (no-party p (ltb-false p party_places l)) (and-false (flagged among p))
          ]
