-- The places of sums by type: a volume's in a tally, and any type's in a line of a month report. Assumes nothing.
use mathlib.Core.Path.{◌≡◌, refl, sym, ap, ◌∙◌}
use mathlib.Core.Logic.{inl, inr}
use mathlib.Core.Bool.{Bool, true, not, ◌&&◌, ◌||◌}
use mathlib.Core.List.{List}
use Prim.Native.Nat.{ℕ, ◌<◌}
use native.Mathlib.Omega.{arith}
use lib.Dec.{eqb, ltb}
use lib.ListN.{get_or}
use borrow.Author.Tests.{eqb-true, ltb-true}
use Rattle.numbers.specs.Tests.{all_below}
use Rattle.numbers.proofs.TestLaws.{and_split, all_below-at}
use Rattle.rules.specs.Entry.{is_volume, is_type}
use Rattle.rules.specs.Balance.{volume_types, sum_count, sum_place}
use Rattle.rules.specs.MonthReport.{report_types, line_sums, line_place}
use Rattle.rules.proofs.WordLaws.{volume-range, type-range}

-- n types in the order of their places: the places and the types are gone through one by one
pub record Places (types : List ℕ) (n : ℕ) (named : ℕ → Bool) (place : ℕ → ℕ) : Type 0 where
  pub of_places : all_below n (λ k. named (get_or types k 0) && eqb (place (get_or types k 0)) k) ≡ true
  pub of_types : all_below 23 (λ k. not (named k) || (ltb (place k) n && eqb (get_or types (place k) 0) k)) ≡ true
  pub few : (t : ℕ) → named t ≡ true → t < 23

-- a place, and the type whose sum stands there
pub record TypeAt (n : ℕ) (named : ℕ → Bool) (place : ℕ → ℕ) (i t : ℕ) : Type 0 where
  pub is-named : named t ≡ true
  pub stands_at_lem : place t ≡ i
  pub below : i < n

module _ {types : List ℕ} {n : ℕ} {named : ℕ → Bool} {place : ℕ → ℕ} (p : Places types n named place) where
  pub type-at : (i : ℕ) → i < n → TypeAt n named place i (get_or types i 0)
  type-at i h =
      let s = and_split (named (get_or types i 0)) _ (all_below-at n _ p.of_places i h) in
      record { is-named = s.0; stands_at_lem = eqb-true _ _ s.1; below = h }

  placed : (t : ℕ) → named t ≡ true → ltb (place t) n && eqb (get_or types (place t) 0) t ≡ true
  placed t e = rw e at (all_below-at 23 (λ k. not (named k) || (ltb (place k) n && eqb (get_or types (place k) 0) k)) p.of_types t (p.few t e))

  pub place_of : (t : ℕ) → named t ≡ true → TypeAt n named place (place t) t
  place_of t e = record { is-named = e; stands_at_lem = refl; below = ltb-true _ _ (and_split (ltb (place t) n) _ (placed t e)).0 }

  -- each type has a place of its own
  pub type-back : (t : ℕ) → named t ≡ true → get_or types (place t) 0 ≡ t
  type-back t e = eqb-true _ _ (and_split (ltb (place t) n) _ (placed t e)).1

  type-of : {i t : ℕ} → TypeAt n named place i t → t ≡ get_or types i 0
  type-of {i} {t} s = sym (type-back t s.is-named) ∙ ap (λ k. get_or types k 0) s.stands_at_lem

  pub one_type : {i t u : ℕ} → TypeAt n named place i t → TypeAt n named place i u → t ≡ u
  one_type a b = type-of a ∙ sym (type-of b)

-- the sums of a tally
pub sum-places : Places volume_types sum_count is_volume sum_place
unfolding all_below
sum-places = record { of_places = refl; of_types = refl; few = λ t e. elim (volume-range t e) [ inl h ↦ omega arith | inr q ↦ omega arith ] }

abbrev pub type_at : ℕ → ℕ
type_at i = get_or volume_types i 0

-- the sums of a line
pub line-places : Places report_types line_sums is_type line_place
unfolding all_below
line-places = record { of_places = refl; of_types = refl; few = λ t e. omega (arith, type-range t e) }
