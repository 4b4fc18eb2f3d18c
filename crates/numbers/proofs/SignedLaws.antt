-- Laws of signed figures: differences of natural numbers, the order, the lower of two, and sums. Assumes nothing.
use mathlib.Core.Path.{◌≡◌, refl, ap}
use mathlib.Core.Logic.{◌⊎◌, inl, inr}
use mathlib.Core.Bool.{Bool, true, false, not, cond}
use Prim.Native.Nat.{ℕ, zero, suc, ◌+◌, ◌*◌, ◌-◌, max, ◌≤◌, ◌<◌, zero-le}
use native.Mathlib.Nat.{le_refl, le-max_left, le-max_right, suc-mul}
use native.Mathlib.Numerals.{add-one}
use native.Mathlib.Omega.{arith}
use lib.Dec.{T, le→leb}
use lib.IntN.{ℤ, pos, negsuc, nat_abs, neg_ℤ, sub_ℕ, ◌+ℤ◌}
use lib.Signed.{lt_z, ◌≤ℤ◌, ◌<ℤ◌, <ℤ_irrefl, le_z_yes}
use borrow.Author.Tests.{lt-ltb, le-ltb}
use Rattle.std.specs.Cmp.{int_chain}
use Rattle.std.proofs.lemmas.Int.{by_lt_z}
use Rattle.numbers.specs.Signed.{lower, sum_ℤ}
use Rattle.numbers.proofs.TestLaws.{below-or-above}

-- a difference by cases
pub sub-above : (a b : ℕ) → b ≤ a → sub_ℕ a b ≡ pos (a - b)
sub-above a b h = rw (le-ltb a b h)

pub sub-below : (a b : ℕ) → a < b → sub_ℕ a b ≡ negsuc (b - suc a)
sub-below a b h = rw (lt-ltb a b h)

pub pos-le : {m n : ℕ} → m ≤ n → pos m ≤ℤ pos n
pos-le h = record { le = le→leb _ _ h }

pub negsuc-le : {m n : ℕ} → n ≤ m → negsuc m ≤ℤ negsuc n
negsuc-le h = record { le = le→leb _ _ h }

pub sub-mono : {a a' c c' : ℕ} → a ≤ a' → c' ≤ c → sub_ℕ a c ≤ℤ sub_ℕ a' c'
sub-mono {a} {a'} {c} {c'} h k = go (below-or-above a c) (below-or-above a' c')
  where
    go : (a < c) ⊎ (c ≤ a) → (a' < c') ⊎ (c' ≤ a') → sub_ℕ a c ≤ℤ sub_ℕ a' c'
    go (inl p) (inl q) = rw (sub-below a c p, sub-below a' c' q) (negsuc-le (omega arith))
    go (inl p) (inr q) = rw (sub-below a c p, sub-above a' c' q) (le_z_yes tt)
    go (inr p) (inl q) = absurd (omega arith)
    go (inr p) (inr q) = rw (sub-above a c p, sub-above a' c' q) (pos-le (omega arith))

-- equal differences
pub sub-eq : (a b c d : ℕ) → a + d ≡ c + b → sub_ℕ a b ≡ sub_ℕ c d
sub-eq a b c d e = go (below-or-above a b) (below-or-above c d)
  where
    go : (a < b) ⊎ (b ≤ a) → (c < d) ⊎ (d ≤ c) → sub_ℕ a b ≡ sub_ℕ c d
    go (inl p) (inl q) = rw (sub-below a b p, sub-below c d q) (ap negsuc (omega arith))
    go (inl p) (inr q) = absurd (omega arith)
    go (inr p) (inl q) = absurd (omega arith)
    go (inr p) (inr q) = rw (sub-above a b p, sub-above c d q) (ap pos (omega arith))

pub nat_abs-sub : (a b : ℕ) → nat_abs (sub_ℕ a b) ≤ max a b
nat_abs-sub a b = go (below-or-above a b)
  where
    go : (a < b) ⊎ (b ≤ a) → nat_abs (sub_ℕ a b) ≤ max a b
    go (inl p) = rw (sub-below a b p) (omega arith)
    go (inr p) = rw (sub-above a b p) (omega arith)

-- the order
pub <ℤ-≤ℤ : {a b : ℤ} → a <ℤ b → a ≤ℤ b
<ℤ-≤ℤ {a} {b} h = by_lt_z b a (λ k. absurd (<ℤ_irrefl (int_chain a b a h k))) (λ k. k)

-- the lower of two
lower-ind : (P : ℤ → Type 0) (a b : ℤ) → (T (not (lt_z b a)) → P a) → (T (lt_z b a) → P b) → P (lower a b)
lower-ind P a b f g = go (lt_z b a) f g
  where
    go : (t : Bool) → (T (not t) → P a) → (T t → P b) → P (cond t b a)
    go true f g = g tt
    go false f g = f tt

module _ (a b : ℤ) where
  pub nat_abs-lower : nat_abs (lower a b) ≤ max (nat_abs a) (nat_abs b)
  nat_abs-lower = lower-ind (λ z. nat_abs z ≤ max (nat_abs a) (nat_abs b)) a b (λ t. le-max_left _ _) (λ t. le-max_right _ _)

-- signed sums
pub nat_abs-add : (a b : ℤ) → nat_abs (a +ℤ b) ≤ nat_abs a + nat_abs b
nat_abs-add (pos a) (pos b) = le_refl _
nat_abs-add (pos a) (negsuc b) = omega (arith, nat_abs-sub a (suc b))
nat_abs-add (negsuc a) (pos b) = omega (arith, nat_abs-sub b (suc a))
nat_abs-add (negsuc a) (negsuc b) = omega arith

pub nat_abs-neg : (z : ℤ) → nat_abs (neg_ℤ z) ≡ nat_abs z
nat_abs-neg (pos zero) = refl
nat_abs-neg (pos (suc n)) = refl
nat_abs-neg (negsuc n) = refl

-- one number more, in the code's form
pub sum_ℤ-step : (n : ℕ) (f : ℕ → ℤ) → sum_ℤ (n + 1) f ≡ sum_ℤ n f +ℤ f n
unfolding sum_ℤ
sum_ℤ-step n f = rw add-one

pub sum_ℤ-bound : (n : ℕ) (f : ℕ → ℤ) (b : ℕ) → ((k : ℕ) → k < n → nat_abs (f k) ≤ b) → nat_abs (sum_ℤ n f) ≤ n * b
unfolding sum_ℤ
sum_ℤ-bound zero f b h = zero-le
sum_ℤ-bound (suc n) f b h =
    let rest : nat_abs (sum_ℤ n f) ≤ n * b = sum_ℤ-bound n f b (λ k l. h k (omega arith)) in
    omega (arith, nat_abs-add (sum_ℤ n f) (f n), h n (omega arith), suc-mul n b)
