-- Bits of a table, 64 to a word: what is read after a bit is set. Assumes nothing.
use mathlib.Core.Path.{◌≡◌, sym, ap, ◌∙◌}
use mathlib.Core.Logic.{inl, inr}
use mathlib.Core.Bool.{Bool, true, false, ◌||◌}
use mathlib.Core.List.{List}
use Prim.Native.Nat.{ℕ, suc, ◌+◌, ◌-◌, ◌*◌, ◌/◌, ◌%◌, ◌^◌, ◌<◌, max}
use native.Mathlib.Nat.{div-eq_of_lt, mul-mod_left, max-zero, pow-suc, one-mul}
use native.Mathlib.Omega.{arith}
use lib.Bits.{bit_or, or_step, or_shr}
use lib.Pow.{pow_pos, pow-lt, pow-add, shl-shr, shl_exact}
use lib.Dec.{eqb, leb}
use lib.ListN.{length, get_or, set, length-set}
use lib.Seq.{get_or-set_same, get_or-set_other}
use borrow.Author.Tests.{eqb-true, eqb-false, eq-eqb, ne_eqb, leb-true, leb-false}
use Rattle.numbers.proofs.TestLaws.{bool_cases}
use Rattle.numbers.proofs.ListLaws.{get_or-blank}
use Rattle.cells.specs.Cells.{blank}
use Rattle.repeated_pairs.specs.Pairs.{bit_at, with_bit}

-- whether bit n of a number is set
abbrev odd : ℕ → ℕ → Bool
odd a n = eqb (a / 2 ^ n % 2) 1

or-odd : (x y : ℕ) → bit_or x y % 2 ≡ max (x % 2) (y % 2)
or-odd x y = omega (arith, or_step x y)

-- a power of two has one bit
power-low : (m n : ℕ) → m < n → 2 ^ m / 2 ^ n % 2 ≡ 0
power-low m n h = ap (λ k. k % 2) (div-eq_of_lt (pow-lt h))

power-same : (n : ℕ) → 2 ^ n / 2 ^ n % 2 ≡ 1
power-same n = ap (λ k. k / 2 ^ n % 2) (sym (one-mul (2 ^ n))) ∙ ap (λ k. k % 2) (shl-shr 1 n)

power-high : (j n : ℕ) → 2 ^ (suc j + n) / 2 ^ n % 2 ≡ 0
power-high j n =
    ap (λ k. k / 2 ^ n % 2) (pow-add 2 (suc j) n) ∙ ap (λ k. k % 2) (shl-shr (2 ^ suc j) n ∙ pow-suc 2 j)
    ∙ mul-mod_left (2 ^ j) 2

power-other : (m n : ℕ) → (m ≡ n → ⊥) → 2 ^ m / 2 ^ n % 2 ≡ 0
power-other m n h =
    elim (bool_cases (leb m n)) [
      | inl e ↦ let l = leb-true m n e in power-low m n (omega (arith, h))
      | inr e ↦ let l = leb-false m n e in let s : m ≡ suc (m - n - 1) + n = omega arith in rw s (power-high (m - n - 1) n)
    ]

or-bit : (a m n : ℕ) → odd (bit_or a (2 ^ m)) n ≡ eqb m n || odd a n
or-bit a m n = elim (bool_cases (eqb m n)) [ inl e ↦ rw e (eq-eqb _ 1 (same e)) | inr e ↦ rw e (ap (λ k. eqb k 1) (other e)) ]
  where
    parts : bit_or a (2 ^ m) / 2 ^ n % 2 ≡ max (a / 2 ^ n % 2) (2 ^ m / 2 ^ n % 2)
    parts = ap (λ k. k % 2) (or_shr a (2 ^ m) n) ∙ or-odd (a / 2 ^ n) (2 ^ m / 2 ^ n)

    same : eqb m n ≡ true → bit_or a (2 ^ m) / 2 ^ n % 2 ≡ 1
    same e =
        let q : 2 ^ m / 2 ^ n % 2 ≡ 1 = ap (λ k. 2 ^ k / 2 ^ n % 2) (eqb-true m n e) ∙ power-same n in
        parts ∙ rw q (one-most (a / 2 ^ n))
      where
        one-most : (x : ℕ) → max (x % 2) 1 ≡ 1
        one-most x = omega arith

    other : eqb m n ≡ false → bit_or a (2 ^ m) / 2 ^ n % 2 ≡ a / 2 ^ n % 2
    other e = parts ∙ rw (power-other m n (eqb-false m n e)) (max-zero (a / 2 ^ n % 2))

pub length-bit : (words : List ℕ) (k : ℕ) → length (with_bit words k) ≡ length words
unfolding with_bit
length-bit words k = length-set words (k / 64) (bit_or (get_or words (k / 64) 0) (2 ^ (k % 64)))

pub bit-after : (n : ℕ) (words : List ℕ) (k j : ℕ) → length words ≡ n → k < 64 * n → bit_at (with_bit words k) j ≡ eqb k j || bit_at words j
unfolding with_bit bit_at
bit-after n words k j long h =
    elim (bool_cases (eqb (j / 64) (k / 64))) [
      | inl e ↦
          let q : j / 64 ≡ k / 64 = eqb-true (j / 64) (k / 64) e in
          rw (q, get_or-set_same words (k / 64) (bit_or (get_or words (k / 64) 0) (2 ^ (k % 64))) 0 (rw long (omega arith)))
          (or-bit (get_or words (k / 64) 0) (k % 64) (j % 64) ∙ ap (λ b. b || odd (get_or words (k / 64) 0) (j % 64)) (in-word q))
      | inr e ↦
          let q = eqb-false (j / 64) (k / 64) e in
          rw (get_or-set_other words (k / 64) (j / 64) (bit_or (get_or words (k / 64) 0) (2 ^ (k % 64))) 0 q, ne_eqb k j (λ s. q (ap (λ x. x / 64) (sym s))))
    ]
  where
    in-word : j / 64 ≡ k / 64 → eqb (k % 64) (j % 64) ≡ eqb k j
    in-word q =
        elim (bool_cases (eqb k j)) [
          | inl e ↦ let s = eqb-true k j e in rw e (eq-eqb (k % 64) (j % 64) (omega arith))
          | inr e ↦ let s = eqb-false k j e in rw e (ne_eqb (k % 64) (j % 64) (λ t. s (omega arith)))
        ]

pub no-bit : (n j : ℕ) → bit_at (blank n) j ≡ false
unfolding bit_at blank
no-bit n j = rw (get_or-blank {A = ℕ} n (j / 64) 0) (ap (λ k. eqb (k % 2) 1) (div-eq_of_lt (pow_pos (j % 64))))

-- the word that the code stores
pub bit-stored : (words : List ℕ) (k : ℕ) → set words (k / 64) (bit_or (get_or words (k / 64) 0) (1 * 2 ^ (k % 64) % 2 ^ 64)) ≡ with_bit words k
unfolding with_bit
bit-stored words k = ap (λ b. set words (k / 64) (bit_or (get_or words (k / 64) 0) b)) (shl_exact 1 (k % 64) 64 (omega arith) (omega arith) ∙ one-mul (2 ^ (k % 64)))
