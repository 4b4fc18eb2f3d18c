-- Laws of the sums of Sums.antt. Assumes nothing.
use mathlib.Core.Path.{◌≡◌, refl, sym, ap, ap₂, ◌∙◌}
use mathlib.Core.Logic.{inl, inr}
use mathlib.Core.Bool.{Bool, true, false, cond, ◌&&◌, false≢true, and-true, and-false}
use mathlib.Core.List.{List, [], ◌∷◌, ◌++◌, map}
use Prim.Native.Nat.{ℕ, zero, suc, ◌+◌, ◌*◌, ◌≤◌, ◌<◌, zero-le}
use native.Mathlib.Nat.{add-le-add, le_refl, le_trans, suc-mul, mul-one, mul-add}
use native.Mathlib.Numerals.{add-one}
use native.Mathlib.Omega.{arith}
use lib.Dec.{eqb}
use lib.ListN.{length}
use borrow.Author.Tests.{eqb-true, eqb-false, ne_eqb}
use Rattle.numbers.specs.Sums.{sum, count_below, total, count}
use Rattle.numbers.specs.Tests.{every, all}
use Rattle.numbers.proofs.TestLaws.{bool_cases, and_split, every-cons}

-- one of two numbers within a limit
pub cond-limit : (b : Bool) {x y k : ℕ} → (b ≡ true → x ≤ k) → (b ≡ false → y ≤ k) → cond b x y ≤ k
cond-limit true f g = f refl
cond-limit false f g = g refl

pub cond_below : (b : Bool) (x : ℕ) → cond b x 0 ≤ x
cond_below b x = cond-limit b (λ e. le_refl x) (λ e. zero-le)

-- a test brought before the others; two tests as one
pub cond-first : (t b : Bool) (us : List Bool) (a : ℕ) → cond (every (t ∷ b ∷ us)) a 0 ≡ cond b (cond (every (t ∷ us)) a 0) 0
cond-first true true us a = refl
cond-first true false us a = rw (every-cons false us)
cond-first false true us a = refl
cond-first false false us a = rw (every-cons false us)

pub cond_both : (t b : Bool) (a : ℕ) → cond b (cond t a 0) 0 ≡ cond (t && b) a 0
cond_both t true a = rw (and-true t)
cond_both t false a = rw (and-false t)

module _ {A : Type 0} where
  pub total-append : (f : A → ℕ) (xs ys : List A) → total f (xs ++ ys) ≡ total f xs + total f ys
  unfolding total
  total-append f [] ys = omega arith
  total-append f (x ∷ xs) ys = omega (arith, total-append f xs ys)

  pub total-cong : (f g : A → ℕ) → ((x : A) → f x ≡ g x) → (xs : List A) → total f xs ≡ total g xs
  unfolding total
  total-cong f g h [] = refl
  total-cong f g h (x ∷ xs) = ap₂ ◌+◌ (h x) (total-cong f g h xs)

  -- over a list whose members pass a test
  pub total-same-where : (ok : A → Bool) (f g : A → ℕ) → ((x : A) → ok x ≡ true → f x ≡ g x) → (xs : List A) → all ok xs ≡ true → total f xs ≡ total g xs
  unfolding total all
  total-same-where ok f g h [] e = refl
  total-same-where ok f g h (x ∷ xs) e =
      let s = and_split (ok x) (all ok xs) e in
      ap₂ ◌+◌ (h x s.0) (total-same-where ok f g h xs s.1)

  pub total-bound : (f : A → ℕ) (k : ℕ) → ((x : A) → f x ≤ k) → (xs : List A) → total f xs ≤ length xs * k
  unfolding total
  total-bound f k h [] = zero-le
  total-bound f k h (x ∷ xs) = rw suc-mul (omega (arith, h x, total-bound f k h xs))

  -- over a list whose members pass a test
  pub total-le-where : (ok : A → Bool) (f g : A → ℕ) → ((x : A) → ok x ≡ true → f x ≤ g x) → (xs : List A) → all ok xs ≡ true → total f xs ≤ total g xs
  unfolding total all
  total-le-where ok f g h [] e = zero-le
  total-le-where ok f g h (x ∷ xs) e =
      let s = and_split (ok x) (all ok xs) e in
      add-le-add (h x s.0) (total-le-where ok f g h xs s.1)

  pub total-bound-where : (ok : A → Bool) (f : A → ℕ) (k : ℕ) → ((x : A) → ok x ≡ true → f x ≤ k) → (xs : List A) → all ok xs ≡ true → total f xs ≤ length xs * k
  total-bound-where ok f k h xs e =
      le_trans (total-le-where ok f (λ x. k) h xs e) (total-bound (λ x. k) k (λ x. le_refl k) xs)

  pub count-le-length : (f : A → Bool) (xs : List A) → count f xs ≤ length xs
  unfolding count
  count-le-length f xs = rw mul-one at (total-bound _ 1 (λ x. cond_below (f x) 1) xs)

  -- of two figures each, and of none
  pub total-plus : (f g : A → ℕ) (xs : List A) → total (λ x. f x + g x) xs ≡ total f xs + total g xs
  unfolding total
  total-plus f g [] = refl
  total-plus f g (x ∷ xs) = omega (arith, total-plus f g xs)

  pub total-none : (xs : List A) → total (λ x. 0) xs ≡ 0
  unfolding total
  total-none [] = refl
  total-none (x ∷ xs) = omega (arith, total-none xs)

-- sums over two lists, in either order
pub total-exchange : {A B : Type 0} (f : A → B → ℕ) (xs : List A) (ys : List B) → total (λ x. total (f x) ys) xs ≡ total (λ y. total (λ x. f x y) xs) ys
unfolding total
total-exchange f [] ys = sym (total-none ys)
total-exchange f (x ∷ xs) ys = ap (λ n. total (f x) ys + n) (total-exchange f xs ys) ∙ sym (total-plus (f x) (λ y. total (λ z. f z y) xs) ys)

-- a sum by index of totals, in either order
pub sum-total : {A : Type 0} (n : ℕ) (f : ℕ → A → ℕ) (xs : List A) → sum n (λ k. total (f k) xs) ≡ total (λ x. sum n (λ k. f k x)) xs
unfolding sum
sum-total zero f xs = sym (total-none xs)
sum-total (suc n) f xs = ap (λ s. s + total (f n) xs) (sum-total n f xs) ∙ sym (total-plus (λ x. sum n (λ k. f k x)) (f n) xs)

-- the total over a list's image
pub total-map : {A B : Type 0} (f : B → ℕ) (g : A → B) (xs : List A) → total f (map g xs) ≡ total (λ x. f (g x)) xs
unfolding total
total-map f g [] = refl
total-map f g (x ∷ xs) = ap (λ n. f (g x) + n) (total-map f g xs)

-- one number more, in the code's form
pub sum_step : (n : ℕ) (f : ℕ → ℕ) → sum (n + 1) f ≡ sum n f + f n
unfolding sum
sum_step n f = rw add-one

pub sum-cong : (n : ℕ) (f g : ℕ → ℕ) → ((k : ℕ) → k < n → f k ≡ g k) → sum n f ≡ sum n g
unfolding sum
sum-cong zero f g h = refl
sum-cong (suc n) f g h = ap₂ ◌+◌ (sum-cong n f g (λ k l. h k (omega arith))) (h n (omega arith))

-- a figure that counts where d is the number s + k: at no index, or at one
sum-miss : (n s d a : ℕ) → ((k : ℕ) → k < n → d ≡ s + k → ⊥) → sum n (λ k. cond (eqb d (s + k)) a 0) ≡ 0
unfolding sum
sum-miss zero s d a h = refl
sum-miss (suc n) s d a h =
    rw (ne_eqb d (s + n) (h n (omega arith))) (omega (arith, sum-miss n s d a (λ k l. h k (omega arith))))

sum-hit : (n s d a : ℕ) → s ≤ d → d < s + n → sum n (λ k. cond (eqb d (s + k)) a 0) ≡ a
unfolding sum
sum-hit zero s d a low high = absurd (omega arith)
sum-hit (suc n) s d a low high =
    elim (bool_cases (eqb d (s + n))) [
      | inl e ↦
          let here : d ≡ s + n = eqb-true d (s + n) e in
          rw e (omega (arith, sum-miss n s d a (λ k l q. omega arith)))
      | inr e ↦
          let other : d ≡ s + n → ⊥ = eqb-false d (s + n) e in
          rw e (omega (arith, sum-hit n s d a low (omega arith)))
    ]

-- a test that holds if d is one of the n numbers from s on, and only then
pub record Among (n s d : ℕ) (b : Bool) : Type 0 where
  pub is_among : b ≡ true → (s ≤ d) × (d < s + n)
  pub holds : s ≤ d → d < s + n → b ≡ true

pub sum-once : {n s d : ℕ} {b : Bool} → Among n s d b → (a : ℕ) → sum n (λ k. cond (eqb d (s + k)) a 0) ≡ cond b a 0
sum-once {n} {s} {d} {b = true} w a = let l = w.is_among refl in sum-hit n s d a l.0 l.1
sum-once {n} {s} {d} {b = false} w a = sum-miss n s d a (λ k l e. false≢true (w.holds (omega arith) (omega arith)))

-- the same beside other tests, of which t stands before that of d
pub sum-once-where : {n s d : ℕ} {b : Bool} → Among n s d b → (t u : Bool) (a : ℕ) → sum n (λ k. cond (every (t ∷ eqb d (s + k) ∷ u ∷ [])) a 0) ≡ cond (every (t ∷ u ∷ b ∷ [])) a 0
sum-once-where {n} {s} {d} {b} w t u a =
    sum-cong n _ _ (λ k l. cond-first t (eqb d (s + k)) (u ∷ []) a) ∙ sum-once w (cond (t && u) a 0) ∙ cond_both (t && u) b a

pub sum-le : (n : ℕ) (f g : ℕ → ℕ) → ((k : ℕ) → k < n → f k ≤ g k) → sum n f ≤ sum n g
unfolding sum
sum-le zero f g h = zero-le
sum-le (suc n) f g h = add-le-add (sum-le n f g (λ k l. h k (omega arith))) (h n (omega arith))

pub sum_bound : (n : ℕ) (f : ℕ → ℕ) (b : ℕ) → ((k : ℕ) → k < n → f k ≤ b) → sum n f ≤ n * b
unfolding sum
sum_bound zero f b h = zero-le
sum_bound (suc n) f b h = rw suc-mul (add-le-add (sum_bound n f b (λ k l. h k (omega arith))) (h n (omega arith)))

pub sum-times : (n : ℕ) (f g : ℕ → ℕ) (b : ℕ) → ((k : ℕ) → f k ≤ b * g k) → sum n f ≤ b * sum n g
unfolding sum
sum-times zero f g b h = zero-le
sum-times (suc n) f g b h = rw mul-add (add-le-add (sum-times n f g b h) (h n))

pub count_below-le : (n : ℕ) (f : ℕ → Bool) → count_below n f ≤ n
unfolding count_below
count_below-le n f = rw mul-one at (sum_bound n _ 1 (λ k l. cond_below (f k) 1))

pub count_below-step : (n : ℕ) (f : ℕ → Bool) → count_below (n + 1) f ≡ count_below n f + cond (f n) 1 0
unfolding count_below
count_below-step n f = sum_step n _
