-- The highest price and the lowest volume of month answers, as the code finds them. Assumes nothing.
use mathlib.Core.Path.{◌≡◌, refl, ◌∙◌, ap}
use mathlib.Core.Bool.{Bool, ◌&&◌}
use mathlib.Core.List.{List, [], ◌∷◌, map}
use Prim.Native.Nat.{ℕ, max, min, ◌<◌}
use native.Mathlib.Omega.{arith}
use lib.IntN.{ℤ, pos}
use lib.ListN.{length, take}
use lib.Signed.{mag}
use mir.Syntax.{w64}
use mir.Val.{to_z, of_z}
use mir.ValLaws.{to_z-of_z}
use Rattle.std.proofs.Common.{unwrap_or}
use Rattle.std.proofs.lemmas.Int.{ints}
use Rattle.std.proofs.lemmas.Grind.{common_steps}
use Rattle.std.specs.List.{fold, reduce, list_all}
use Rattle.std.specs.Ordering.{int_cmp, min_by_ordering}
use Rattle.numbers.specs.Tests.{all}
use Rattle.numbers.specs.Signed.{lower}
use Rattle.rules.specs.Collateral.{highest_price, lowest_volume}
use Rattle.case_figures.specs.declared.Month.{Month}
use Rattle.collateral.specs.Months.{lowest_of}

-- a volume, read back from its bits
pub volume-back : (z : ℤ) → mag z < 9223372036854775808 → to_z w64 (of_z w64 z) ≡ z
volume-back z h = to_z-of_z w64 z (record { sfits = h })

-- a test of each month answer
pub list_all-is : {A : Type 0} (ok : A → Bool) (xs : List A) → list_all ok xs ≡ all ok xs
unfolding all
list_all-is ok [] = refl
list_all-is ok (x ∷ xs) = ap (λ b. ok x && b) (list_all-is ok xs)

-- the highest price, found from the first answer on
highest-fold : (p : ℕ) (ms : List Month) → fold (λ a m. max a m.aosmf) p ms ≡ max p (highest_price ms)
unfolding highest_price
highest-fold p [] = omega arith
highest-fold p (m ∷ ms) = highest-fold (max p m.aosmf) ms ∙ omega arith

pub highest-is : (ms : List Month) → fold (λ a m. max a m.aosmf) 0 ms ≡ highest_price ms
highest-is ms = highest-fold 0 ms ∙ omega arith

-- the lowest volume, found from the first answer on
lower-assoc : (x y z : ℤ) → lower (lower x y) z ≡ lower x (lower y z)
lower-assoc x y z = grind (arith, ints)

lower-is : (x y : ℤ) → min_by_ordering (int_cmp x y) x y ≡ lower x y
lower-is x y = grind (arith, ints)

abbrev lowest_fold : ℤ → List Month → ℤ
lowest_fold z ms = fold (λ a b. min_by_ordering (int_cmp a b) a b) z (map (λ m. m.aedm) ms)

lowest-fold : (z : ℤ) (m : Month) (ms : List Month) → lowest_fold z (m ∷ ms) ≡ lower z (lowest_volume m ms)
unfolding lowest_volume
lowest-fold z m [] = lower-is z m.aedm
lowest-fold z m (k ∷ ms) =
    ap (λ a. lowest_fold a (k ∷ ms)) (lower-is z m.aedm) ∙ lowest-fold (lower z m.aedm) k ms ∙ lower-assoc z m.aedm (lowest_volume k ms)

pub lowest-is : (ms : List Month) → unwrap_or (reduce (λ a b. min_by_ordering (int_cmp a b) a b) (map (λ m. m.aedm) ms)) (pos 0) ≡ lowest_of ms
unfolding lowest_of lowest_volume
lowest-is [] = refl
lowest-is (m ∷ []) = refl
lowest-is (m ∷ k ∷ ms) = lowest-fold m.aedm k ms

-- no more than there are
pub take-least : {A : Type 0} (xs : List A) (n : ℕ) {k : ℕ} → k ≡ min n (length xs) → take k xs ≡ take n xs
take-least xs n e = grind (arith, common_steps)
