-- Laws of the roundings of Rounding.antt. Assumes nothing.
use mathlib.Core.Path.{◌≡◌, sym}
use mathlib.Core.Logic.{inl, inr}
use Prim.Native.Nat.{ℕ, ◌+◌, ◌*◌, ◌-◌, ◌/◌, ◌%◌, ◌≤◌, ◌<◌, min, zero-le}
use native.Mathlib.Nat.{le_of_suc-le-suc, mul_left_comm, add-mul, suc-mul, div-zero, div-add-mod', mod-lt, div-mul-le_self, le-div_iff_mul-le, div-lt_iff_lt-mul, div-eq_of_lt-le, eq-zero-or-pos, le-mul_of_pos_right}
use native.Mathlib.Omega.{arith}
use Rattle.std.proofs.lemmas.Grind.{div_ceil_times}
use Rattle.numbers.specs.Rounding.{half_up, round_up}

div_mono : {m n : ℕ} (k : ℕ) → m ≤ n → m / k ≤ n / k
div_mono {m} {n} k h =
    elim (eq-zero-or-pos k) [
      | inl z ↦ rw (z, div-zero m, div-zero n) zero-le
      | inr p ↦ (le-div_iff_mul-le p).1 (omega (arith, div-mul-le_self m k))
    ]

pub half_up-by-zero : (a : ℕ) → half_up a 0 ≡ 0
unfolding half_up
half_up-by-zero a = div-zero _

pub round_up-by-zero : (a : ℕ) → round_up a 0 ≡ 0
unfolding round_up
round_up-by-zero a = div-zero _

pub half_up-mono : {a a' : ℕ} (b : ℕ) → a ≤ a' → half_up a b ≤ half_up a' b
unfolding half_up
half_up-mono b h = div_mono (2 * b) (omega arith)

pub round_up-mono : {a a' : ℕ} (b : ℕ) → a ≤ a' → round_up a b ≤ round_up a' b
unfolding round_up
round_up-mono b h = div_mono b (omega arith)

-- the rounded quotient is the nearest number of times b, and of two nearest the higher one
pub half_up-nearest : (a b : ℕ) → 0 < b → (2 * a < 2 * (half_up a b * b) + b) × (2 * (half_up a b * b) ≤ 2 * a + b)
unfolding half_up
half_up-nearest a b p =
    let l : (2 * a + b) % (2 * b) < 2 * b = mod-lt _ (omega arith) in
    let e = div-add-mod' (2 * a + b) (2 * b) in
    omega (arith, mul_left_comm ((2 * a + b) / (2 * b)) 2 b)

-- and no other number is
pub half_up-is : (a b q : ℕ) → 2 * a < 2 * (q * b) + b → 2 * (q * b) ≤ 2 * a + b → half_up a b ≡ q
unfolding half_up
half_up-is a b q low high =
    div-eq_of_lt-le (2 * b)
    (omega (arith, mul_left_comm q 2 b))
    (omega (arith, mul_left_comm q 2 b, add-mul q 1 (2 * b)))

-- the rounded quotient is the least number of times b that reaches a
pub round_up-least : (a b : ℕ) → 0 < b → (a ≤ round_up a b * b) × (round_up a b * b < a + b)
unfolding round_up
round_up-least a b p =
    let l : (a + (b - 1)) % b < b = mod-lt _ p in
    omega (arith, div-add-mod' (a + (b - 1)) b)

pub round_up-is : (a b q : ℕ) → a ≤ q * b → q * b < a + b → round_up a b ≡ q
unfolding round_up
round_up-is a b q low high = div-eq_of_lt-le b (omega arith) (omega (arith, add-mul q 1 b))

pub half_up-bound : (a b k : ℕ) → a ≤ k * b → half_up a b ≤ k
unfolding half_up
half_up-bound a b k h =
    elim (eq-zero-or-pos b) [
      | inl z ↦ rw (z, div-zero) zero-le
      | inr p ↦ le_of_suc-le-suc ((div-lt_iff_lt-mul (omega arith)).1 (omega (arith, suc-mul k (2 * b), mul_left_comm k 2 b)))
    ]

pub round_up-bound : (a b k : ℕ) → a ≤ k * b → round_up a b ≤ k
unfolding round_up
round_up-bound a b k h =
    elim (eq-zero-or-pos b) [
      | inl z ↦ rw (z, div-zero) zero-le
      | inr p ↦ le_of_suc-le-suc ((div-lt_iff_lt-mul p).1 (omega (arith, suc-mul k b)))
    ]

-- the roundings by quotient and rest, as the code finds them
module _ (a b : ℕ) where
  pub half_up-down : a % b < b - a % b → a / b ≡ half_up a b
  half_up-down h = sym (half_up-is a b (a / b) (omega (arith, div-add-mod' a b)) (omega (arith, div-add-mod' a b)))

  pub half_up-up : 0 < b → b - a % b ≤ a % b → a / b + 1 ≡ half_up a b
  half_up-up p h =
      let l : a % b < b = mod-lt a p in
      sym (half_up-is a b (a / b + 1)
      (omega (arith, div-add-mod' a b, add-mul (a / b) 1 b))
      (omega (arith, div-add-mod' a b, add-mul (a / b) 1 b)))

  -- the library's `div_ceil`
  pub round_up-ceil : 0 < b → a / b + min 1 (a % b) ≡ round_up a b
  round_up-ceil p = let t = div_ceil_times a b p in sym (round_up-is a b (a / b + min 1 (a % b)) t.0 t.1)

  -- a quotient with a rest can still be raised by one
  pub quotient-below : 0 < b → (a % b ≡ 0 → ⊥) → a / b < a
  quotient-below p h = omega (arith, div-add-mod' a b, le-mul_of_pos_right (a / b) p)
