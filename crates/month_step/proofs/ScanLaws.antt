-- A test over a list, place by place: what is found so far and what is left decide. Assumes nothing.
use mathlib.Core.Path.{◌≡◌, sym, ◌∙◌}
use mathlib.Core.Bool.{Bool, ◌&&◌, and-true, and_assoc}
use mathlib.Core.List.{List}
use Prim.Native.Nat.{ℕ, suc, ◌+◌, ◌≤◌, ◌<◌}
use native.Mathlib.Nat.{le_antisymm}
use native.Mathlib.Numerals.{add-one}
use lib.ListN.{length, drop, get_or}
use lib.Seq.{drop-cons, drop-length}
use Rattle.numbers.specs.Tests.{all}

module _ {A : Type 0} (ok : A → Bool) (xs : List A) where
  -- the figure at a place, read from there, is tested next
  pub all_more : (found t : Bool) (i : ℕ) (x : A) → i < length xs → ((none : A) → x ≡ get_or xs i none) → t ≡ ok x → all ok xs ≡ found && all ok (drop i xs) →
      all ok xs ≡ (found && t) && all ok (drop (i + 1) xs)
  unfolding all
  all_more found t i x h here test e =
      e ∙ rw (add-one, drop-cons xs i x, ← here x, test) (sym (and_assoc found (ok x) (all ok (drop (suc i) xs))))

  pub all_end : (found : Bool) (i : ℕ) → i ≤ length xs → length xs ≤ i → all ok xs ≡ found && all ok (drop i xs) → found ≡ all ok xs
  unfolding all
  all_end found i low high e = sym (e ∙ rw (le_antisymm low high, drop-length) (and-true found))
