-- Laws of the tables of parties and days that a file names. Assumes nothing.
use mathlib.Core.Path.{◌≡◌, refl, sym, ◌∙◌}
use mathlib.Core.Logic.{inl, inr}
use mathlib.Core.Bool.{Bool, true, false, ◌||◌, or-false, or-true, or_assoc, and-false}
use mathlib.Core.List.{List, [], ◌∷◌}
use Prim.Native.Nat.{ℕ, ◌<◌}
use native.Mathlib.Nat.{pos_of_ne-zero}
use lib.Dec.{eqb}
use lib.ListN.{length, get_or, set, length-set}
use lib.Seq.{get_or-set_same, get_or-set_other}
use borrow.Author.Tests.{eqb-true, eqb-false, lt-ltb}
use Rattle.numbers.specs.Tests.{any}
use Rattle.numbers.proofs.TestLaws.{bool_cases, or-false-split}
use Rattle.rules.specs.DayFile.{Item, line, empty_block, items, item_names, file_names}
use Rattle.file_names.specs.Names.{is_named, item_has, names_party}

-- one mark
pub marked : (t : List Bool) (n d : ℕ) → d < length t → get_or (set t n true) d false ≡ get_or t d false || eqb n d
marked t n d h =
    elim (bool_cases (eqb n d)) [
      | inl s ↦ rw (s, eqb-true n d s, get_or-set_same t d true false h, or-true (get_or t d false))
      | inr s ↦ rw (s, or-false (get_or t d false)) (get_or-set_other t n d true false (λ q. eqb-false n d s (sym q)))
    ]

pub both-marked : (t : List Bool) (a q p : ℕ) → (q ≡ 0 → ⊥) → p < length t → get_or (set (set t a true) q true) p false ≡ get_or t p false || is_named a q p
both-marked t a q p n h =
    marked (set t a true) q p (rw (length-set t a true) h)
    ∙ rw (marked t a p h, lt-ltb 0 q (pos_of_ne-zero n), or_assoc (get_or t p false) (eqb a p) (eqb q p))

-- a table in a walk: what the whole file names is what the table has, or what is left names
pub record Marks (names : ℕ → Item → Bool) (is : List Item) (whole t : List Bool) (left : List Item) : Type 0 where
  pub long : length t ≡ length whole
  pub has : (n : ℕ) → n < length whole → get_or whole n false || any (names n) is ≡ get_or t n false || any (names n) left

module _ {names : ℕ → Item → Bool} {is left : List Item} {whole t : List Bool} (w : Marks names is whole t left) where
  -- one item
  pub marks-step : {i : Item} {next : List Item} {u : List Bool} → left ≡ i ∷ next → length u ≡ length t →
      ((n : ℕ) → n < length t → get_or u n false ≡ get_or t n false || names n i) → Marks names is whole u next
  unfolding any
  marks-step {i} {next} e l h =
      record {
        long = l ∙ w.long;
        has = λ n b. w.has n b ∙ rw (e, h n (rw w.long b)) (sym (or_assoc (get_or t n false) (names n i) (any (names n) next)));
      }

  pub marks-end : left ≡ [] → (n : ℕ) → n < length whole → get_or t n false ≡ get_or whole n false || any (names n) is
  unfolding any
  marks-end e n b = sym (w.has n b ∙ rw (e, or-false (get_or t n false)))

-- a party that is not named is named on no day
not-on-day : (p d : ℕ) (i : Item) → item_has p i ≡ false → item_names p d i ≡ false
unfolding item_has item_names
not-on-day p d (line k a) e = rw (e, and-false (eqb k.day d))
not-on-day p d (empty_block q day) e = rw e

pub not_named : (bs : List ℕ) (p : ℕ) → names_party bs p ≡ false → (d : ℕ) → file_names bs p d ≡ false
unfolding names_party file_names any
not_named bs p e d = go (items bs) e
  where
    go : (is : List Item) → any (item_has p) is ≡ false → any (item_names p d) is ≡ false
    go [] e = refl
    go (i ∷ is) e =
        let s = or-false-split (item_has p i) (any (item_has p) is) e in
        rw (not-on-day p d i s.0) (go is s.1)
