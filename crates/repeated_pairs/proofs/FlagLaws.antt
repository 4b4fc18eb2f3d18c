-- Flags of parties, set one after the other, and counted. Assumes nothing.
use mathlib.Core.Path.{◌≡◌, refl, sym, ap, ◌∙◌, fun_ext}
use mathlib.Core.Logic.{inl, inr}
use mathlib.Core.Bool.{Bool, true, false, cond, ◌&&◌, ◌||◌, and-false}
use mathlib.Core.List.{List}
use Prim.Native.Nat.{ℕ, zero, suc, ◌+◌, ◌≤◌, ◌<◌}
use native.Mathlib.Omega.{arith}
use mir.Val.{bool_byte}
use lib.Dec.{eqb, ltb}
use lib.ListN.{length, get_or, set, length-set, length-replicate}
use lib.Seq.{get_or-set_same, get_or-set_other}
use borrow.Author.Tests.{eqb-true, eqb-false, ltb-true, ltb-false, lt-ltb, le-ltb}
use Rattle.numbers.specs.Sums.{sum, count_below}
use Rattle.numbers.proofs.TestLaws.{bool_cases}
use Rattle.numbers.proofs.ListLaws.{get_or-blank}
use Rattle.rules.specs.Control.{Parties}
use Rattle.repeated_pairs.specs.Flags.{flagged, no_flags, with_flag}

-- the flags of the parties below n are those of a test, and no other is set
pub record Below (n : ℕ) (f : Parties) (flags : List Bool) : Type 0 where
  pub long : length flags ≡ 1000
  pub flag : (q : ℕ) → get_or flags q false ≡ ltb q n && f q

pub no_flag : (q : ℕ) → get_or no_flags q false ≡ false
unfolding no_flags
no_flag q = get_or-blank 1000 q false

pub length-no_flags : length no_flags ≡ 1000
unfolding no_flags
length-no_flags = length-replicate {A = Bool} 1000 false

pub length-flag : (flags : List Bool) (k : ℕ) → length (with_flag flags k) ≡ length flags
length-flag flags k = length-set flags k true

pub flag-after : (flags : List Bool) (k j : ℕ) → length flags ≡ 1000 → k < 1000 → flagged (with_flag flags k) j ≡ eqb k j || flagged flags j
flag-after flags k j long h =
    elim (bool_cases (eqb k j)) [
      | inl e ↦ let s : j ≡ k = sym (eqb-true k j e) in rw (e, s) (get_or-set_same flags k true false (rw long h))
      | inr e ↦ rw e (get_or-set_other flags k j true false (λ s. eqb-false k j e (sym s)))
    ]

module _ (f : Parties) where
  pub below-start : (flags : List Bool) → flags ≡ no_flags → f 0 ≡ false → Below 1 f flags
  below-start flags e z = record { long = ap length e ∙ length-no_flags; flag = at }
    where
      at : (q : ℕ) → get_or flags q false ≡ ltb q 1 && f q
      at zero = rw (e, no_flag 0, z)
      at (suc q) = rw (e, no_flag (suc q), le-ltb (suc q) 1 (omega arith))

  -- one party more
  below_next : (n q : ℕ) → (q ≡ n → ⊥) → ltb q (n + 1) ≡ ltb q n
  below_next n q h =
      elim (bool_cases (ltb q n)) [
        | inl e ↦ let l = ltb-true q n e in rw (e, lt-ltb q (n + 1) (omega arith))
        | inr e ↦ let l = ltb-false q n e in rw (e, le-ltb q (n + 1) (omega (arith, h)))
      ]

  module _ (n : ℕ) (flags : List Bool) (b : Below n f flags) where
    pub below_set : (v : Bool) → n < 1000 → v ≡ f n → Below (n + 1) f (set flags n v)
    below_set v h e = record { long = length-set flags n v ∙ b.long; flag = at }
      where
        at : (q : ℕ) → get_or (set flags n v) q false ≡ ltb q (n + 1) && f q
        at q =
            elim (bool_cases (eqb q n)) [
              | inl s ↦ let k : q ≡ n = eqb-true q n s in rw (k, lt-ltb n (n + 1) (omega arith), get_or-set_same flags n v false (rw b.long h)) e
              | inr s ↦ let k = eqb-false q n s in rw (get_or-set_other flags n q v false k, below_next n q k) (b.flag q)
            ]

    pub below-skip : f n ≡ false → Below (n + 1) f flags
    below-skip z = record { long = b.long; flag = at }
      where
        at : (q : ℕ) → get_or flags q false ≡ ltb q (n + 1) && f q
        at q =
            elim (bool_cases (eqb q n)) [
              | inl s ↦ let k : q ≡ n = eqb-true q n s in b.flag q ∙ rw (k, le-ltb n n (omega arith), z) (sym (and-false (ltb n (n + 1))))
              | inr s ↦ let k = eqb-false q n s in rw (below_next n q k) (b.flag q)
            ]

    pub below_end : 1000 ≤ n → ((q : ℕ) → 1000 ≤ q → f q ≡ false) → flagged flags ≡ f
    below_end h z = fun_ext at
      where
        at : (q : ℕ) → get_or flags q false ≡ f q
        at q =
            elim (bool_cases (ltb q n)) [
              | inl e ↦ b.flag q ∙ rw e
              | inr e ↦ b.flag q ∙ rw (e, z q (omega (arith, ltb-false q n e)))
            ]

-- a test as a number
pub byte-is : (b : Bool) → (bool_byte b ≡ cond b 1 0) × (bool_byte b ≤ 1)
byte-is true = (refl, omega arith)
byte-is false = (refl, omega arith)

-- where none is counted, none is set
pub unset : (b : Bool) → ◌≡◌ {A = ℕ} (cond b 1 0) 0 → b ≡ false
unset true z = absurd (omega arith)
unset false z = refl

pub count_none : (n : ℕ) (f : Parties) → count_below n f ≡ 0 → (p : ℕ) → p < n → f p ≡ false
unfolding count_below sum
count_none zero f e p h = absurd (omega arith)
count_none (suc n) f e p h =
    elim (bool_cases (eqb p n)) [
      | inl q ↦ let k = eqb-true p n q in rw k (unset (f n) (omega arith))
      | inr q ↦ let k = eqb-false p n q in count_none n f (omega arith) p (omega (arith, k))
    ]
