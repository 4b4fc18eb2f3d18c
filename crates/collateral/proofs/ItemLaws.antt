-- The imbalance item as the code works it out. Assumes nothing.
use mathlib.Core.Path.{◌≡◌, refl, sym, ◌∙◌}
use mathlib.Core.Bool.{true, false, cond}
use mathlib.Core.List.{List, [], ◌∷◌}
use Prim.Native.Nat.{ℕ, ◌*◌, ◌≤◌}
use native.Mathlib.Nat.{mul-le-mul}
use native.Mathlib.Omega.{arith}
use lib.IntN.{ℤ, nat_abs}
use borrow.Author.Tests.{eq-eqb, ne_eqb}
use Rattle.numbers.specs.Tests.{all}
use Rattle.numbers.specs.Rounding.{round_up}
use Rattle.numbers.specs.Signed.{is_negative}
use Rattle.rules.specs.Collateral.{used_months, highest_price, imbalance_over, imbalance, month_ok}
use Rattle.case_figures.specs.declared.Month.{Month}
use Rattle.case_figures.specs.declared.Case.{Case}
use Rattle.rules.proofs.Limits.{CaseRanges, highest-limit, imbalance-product}
use Rattle.collateral.specs.Months.{lowest_of}

-- over used month answers: of none, the lowest volume 0 is not negative
over-is : (rk : ℕ) (ms : List Month) →
    imbalance_over rk ms ≡ cond (is_negative (lowest_of ms)) (round_up (rk * highest_price ms * nat_abs (lowest_of ms)) 100000) 0
unfolding imbalance_over lowest_of
over-is rk [] = refl
over-is rk (m ∷ ms) = refl

product-limit : (rk : ℕ) (ms : List Month) → rk ≤ 500 → all month_ok ms ≡ true →
    rk * highest_price ms * nat_abs (lowest_of ms) ≤ 7450000000000000000
unfolding highest_price lowest_of
product-limit rk [] h e = omega arith
product-limit rk (m ∷ ms) h e = imbalance-product rk m ms h e

pub not-responsible : (c : Case) → (c.group.responsible ≡ 1 → ⊥) → 0 ≡ imbalance c
unfolding imbalance
not-responsible c h = sym (rw (ne_eqb _ _ h))

-- a lowest volume v, a highest price p and the product of both with RK
module _ (c : Case) {v : ℤ} (own : c.group.responsible ≡ 1) (ev : v ≡ lowest_of (used_months c)) where
  pub not_short : is_negative v ≡ false → 0 ≡ imbalance c
  unfolding imbalance
  not_short n = sym (rw (eq-eqb _ _ own) (over-is c.group.rk (used_months c) ∙ rw (← ev, n)))

  module _ (f : CaseRanges c) {p : ℕ} (ep : p ≡ highest_price (used_months c)) where
    pub price-fits : c.group.rk * p ≤ 500000000
    price-fits = rw ep (mul-le-mul f.rk (highest-limit (used_months c) f.months))

    pub product-fits : {m : ℕ} → m ≡ nat_abs v → c.group.rk * p * m ≤ 7450000000000000000
    product-fits em = rw (em, ev, ep) (product-limit c.group.rk (used_months c) f.rk f.months)

    pub short : {m r : ℕ} → m ≡ nat_abs v → is_negative v ≡ true → r ≡ round_up (c.group.rk * p * m) 100000 → r ≡ imbalance c
    unfolding imbalance
    short em n er = er ∙ sym (rw (eq-eqb _ _ own) (over-is c.group.rk (used_months c) ∙ rw (← ev, n, ep, em)))
