-- The order of collateral: lower purchase money, higher sale money and lower prices give no larger total (01, 'Demand 3 and its ledger'). Assumes nothing.
use mathlib.Core.Path.{◌≡◌, refl, sym, ◌∙◌, ap, ap₂, subst, fun_ext}
use mathlib.Core.Logic.{◌⊎◌, inl, inr, ◌↔◌}
use mathlib.Core.Bool.{Bool, true, false, cond}
use mathlib.Core.List.{List, [], ◌∷◌}
use Prim.Native.Nat.{ℕ, zero, suc, ◌+◌, ◌≤◌, ◌<◌, zero-le}
use native.Mathlib.Nat.{le_refl, add-le-add, eq-zero-or-pos, mul-le-mul_left, mul-le-mul_right}
use native.Mathlib.Omega.{arith}
use lib.Dec.{eqb, ltb}
use lib.IntN.{nat_abs}
use lib.ListN.{length, take}
use borrow.Author.Tests.{lt-ltb}
use Rattle.numbers.specs.Signed.{is_negative, lower}
use Rattle.numbers.proofs.SumLaws.{sum-le}
use Rattle.numbers.proofs.CauseLaws.{done-zero}
use Rattle.numbers.proofs.RoundingLaws.{half_up-mono, round_up-mono}
use Rattle.rules.specs.Entry.{Record}
use Rattle.rules.specs.Balance.{sum_of}
use Rattle.rules.specs.Month.{Tables, month_answer, month_figures, weighted_prices, weights, aosmf, aedm}
use Rattle.rules.specs.Collateral.{Money, is_active, debt_of, debts, money_of, trading_days, debt, quarters, margin, trading, highest_price, lowest_volume, imbalance_over, imbalance, risk, yek, total_of, collateral_of}
use Rattle.case_figures.specs.CaseFigures.{with_months}
use Rattle.rules.specs.Compared.{Each, Sum, IsMoney, LowerMoney, Cheaper, LowerCase}
use Rattle.case_figures.specs.declared.Month.{Month}
use Rattle.case_figures.specs.declared.Case.{Case}
use Rattle.rules.proofs.EachLaws.{each-length, each-get_or, each_take}
use Rattle.rules.proofs.SumOrder.{sum_of-money}

cond-le : (b : Bool) {x y : ℕ} → x ≤ y → cond b x 0 ≤ cond b y 0
cond-le true h = h
cond-le false h = zero-le

-- two sums of two, above zero together
positive-together : (x y x' y' : ℕ) → (x ≡ 0) ↔ (x' ≡ 0) → (y ≡ 0) ↔ (y' ≡ 0) → ltb 0 (x + y) ≡ ltb 0 (x' + y')
positive-together x y x' y' h k = go (eq-zero-or-pos (x + y)) (eq-zero-or-pos (x' + y'))
  where
    go : (x + y ≡ 0) ⊎ (0 < x + y) → (x' + y' ≡ 0) ⊎ (0 < x' + y') → ltb 0 (x + y) ≡ ltb 0 (x' + y')
    go (inl p) (inl q) = rw (p, q)
    go (inl p) (inr q) = absurd (omega (arith, h.0 (omega arith), k.0 (omega arith)))
    go (inr p) (inl q) = absurd (omega (arith, h.1 (omega arith), k.1 (omega arith)))
    go (inr p) (inr q) = rw (lt-ltb 0 _ p, lt-ltb 0 _ q)

-- sums of money f, and g with purchases no larger, sales no smaller, and zeros where f has them
module _ (f g : Money)
    (buys : (d t : ℕ) → (t ≡ 17) ⊎ (t ≡ 19) → g d t ≤ f d t)
    (sells : (d t : ℕ) → (t ≡ 18) ⊎ (t ≡ 20) → f d t ≤ g d t)
    (zeros : (d t : ℕ) → 17 ≤ t → t ≤ 20 → (f d t ≡ 0) ↔ (g d t ≡ 0)) where
  lower-debt_of : (d : ℕ) (ahead intraday : Bool) → debt_of g d ahead intraday ≤ debt_of f d ahead intraday
  unfolding debt_of
  lower-debt_of d a i =
      omega (
        arith,
        cond-le a (buys d 17 (inl refl)),
        cond-le i (buys d 19 (inr refl)),
        cond-le a (sells d 18 (inl refl)),
        cond-le i (sells d 20 (inr refl)),
      )

  active-together : (d b s : ℕ) → 17 ≤ b → b ≤ 20 → 17 ≤ s → s ≤ 20 → is_active g b s d ≡ is_active f b s d
  active-together d b s b₁ b₂ s₁ s₂ = sym (positive-together _ _ _ _ (zeros d b b₁ b₂) (zeros d s s₁ s₂))

  pub lower-debts : (n day a b : ℕ) → debts g n day a b ≤ debts f n day a b
  unfolding debts
  lower-debts zero day a b = zero-le
  lower-debts (suc n) zero a b = zero-le
  lower-debts (suc n) (suc d) a b =
      rw (
        active-together d 17 18 (omega arith) (omega arith) (omega arith) (omega arith),
        active-together d 19 20 (omega arith) (omega arith) (omega arith) (omega arith),
      )
      (add-le-add (lower-debt_of d _ _) (lower-debts n d _ _))

-- the sums that the claim compares
module _ (p : ℕ) (rs ss : List Record) (m : LowerMoney p rs ss) where
  sums : (d t : ℕ) → 17 ≤ t → Sum (IsMoney p d t) rs (sum_of p d t rs) × Sum (IsMoney p d t) ss (sum_of p d t ss)
  sums d t h = (sum_of-money p d t h rs, sum_of-money p d t h ss)

  lower-purchases : (d t : ℕ) → (t ≡ 17) ⊎ (t ≡ 19) → sum_of p d t ss ≤ sum_of p d t rs
  lower-purchases d t e =
      let s = sums d t (elim e [ inl h ↦ omega arith | inr h ↦ omega arith ]) in
      m.purchases d t _ _ e s.0 s.1

  higher-sales : (d t : ℕ) → (t ≡ 18) ⊎ (t ≡ 20) → sum_of p d t rs ≤ sum_of p d t ss
  higher-sales d t e =
      let s = sums d t (elim e [ inl h ↦ omega arith | inr h ↦ omega arith ]) in
      m.sales d t _ _ e s.0 s.1

  equal-zeros : (d t : ℕ) → 17 ≤ t → t ≤ 20 → (sum_of p d t rs ≡ 0) ↔ (sum_of p d t ss ≡ 0)
  equal-zeros d t low high = let s = sums d t low in m.zeros d t _ _ low high s.0 s.1

pub lower-trading : (c : Case) (rs ss : List Record) → LowerMoney c.asked.party rs ss → trading c ss ≤ trading c rs
unfolding trading debt
lower-trading c rs ss m =
    let p = c.asked.party in
    let D : debt c ss ≤ debt c rs =
    lower-debts (money_of p rs) (money_of p ss) (lower-purchases p rs ss m) (higher-sales p rs ss m) (equal-zeros p rs ss m) 30 _ _ _ in
    round_up-mono 80 (mul-le-mul_right (quarters c) (mul-le-mul_right (20 + c.trading.defaults) D))

-- the tables with other prices
abbrev pub with_prices : Tables → List ℕ → Tables
with_prices t ps = record { prices = ps; imbalance = t.imbalance; rows = t.rows; dm = t.dm; group = t.group }

module _ (t : Tables) (ps : List ℕ) (each : Each (λ x y. y ≤ x) t.prices ps) where
  equal-hours : length ps ≡ length t.prices
  equal-hours = each-length (λ x y. y ≤ x) t.prices ps each

  pub same-weights : weights (with_prices t ps) ≡ weights t
  unfolding weights
  same-weights = simp equal-hours

  pub same-aedm : aedm (with_prices t ps) ≡ aedm t
  unfolding aedm
  same-aedm = simp equal-hours

  pub lower-weighted : weighted_prices (with_prices t ps) ≤ weighted_prices t
  unfolding weighted_prices
  lower-weighted =
      simp equal-hours
      (sum-le _ _ _ λ row l. sum-le _ _ _ λ h k. mul-le-mul_left _ (each-get_or (λ x y. y ≤ x) 0 (le_refl 0) t.prices ps each h))

  pub lower-aosmf : aosmf (with_prices t ps) ≤ aosmf t
  unfolding aosmf
  lower-aosmf = rw same-weights (half_up-mono _ lower-weighted)

-- the month of tables not refused
month-is : (t : Tables) (m : Month) → month_answer t ≡ record { answer = 0; month = m } → m ≡ month_figures t
unfolding month_answer
month-is t m e = sym (ap (λ r. r.month) e) ∙ done-zero _ _ _ (ap (λ r. r.answer) e)

abbrev pub NoDearer : Month → Month → Type 0
NoDearer m n = (n.aosmf ≤ m.aosmf) × (n.aedm ≡ m.aedm)

pub cheaper-month : (m n : Month) → Cheaper m n → NoDearer m n
unfolding month_figures
cheaper-month m n c =
    rw (month-is _ m c.first, month-is _ n c.second)
    (lower-aosmf c.tables c.prices c.lower, same-aedm c.tables c.prices c.lower)

no-dearer : (m n : Month) → (m ≡ n) ⊎ Cheaper m n → NoDearer m n
no-dearer m n (inl e) = rw e (le_refl _, refl)
no-dearer m n (inr c) = cheaper-month m n c

-- month answers place by place equal or cheaper
abbrev pub CheaperMonths : List Month → List Month → Type 0
CheaperMonths ms ns = Each (λ m n. (m ≡ n) ⊎ Cheaper m n) ms ns

lower-highest : (ms ns : List Month) → CheaperMonths ms ns → highest_price ns ≤ highest_price ms
unfolding highest_price
lower-highest [] [] h = zero-le
lower-highest [] (n ∷ ns) h = absurd h
lower-highest (m ∷ ms) [] h = absurd h
lower-highest (m ∷ ms) (n ∷ ns) h = omega (arith, (no-dearer m n h.0).0, lower-highest ms ns h.1)

same-lowest : (m n : Month) (ms ns : List Month) → CheaperMonths (m ∷ ms) (n ∷ ns) → lowest_volume n ns ≡ lowest_volume m ms
unfolding lowest_volume
same-lowest m n [] [] h = (no-dearer m n h.0).1
same-lowest m n [] (k ∷ ns) h = absurd h.1
same-lowest m n (k ∷ ms) [] h = absurd h.1
same-lowest m n (k ∷ ms) (l ∷ ns) h = ap₂ lower (no-dearer m n h.0).1 (same-lowest k l ms ns h.1)

lower-imbalance_over : (rk : ℕ) (ms ns : List Month) → CheaperMonths ms ns → imbalance_over rk ns ≤ imbalance_over rk ms
unfolding imbalance_over
lower-imbalance_over rk [] [] h = zero-le
lower-imbalance_over rk [] (n ∷ ns) h = absurd h
lower-imbalance_over rk (m ∷ ms) [] h = absurd h
lower-imbalance_over rk (m ∷ ms) (n ∷ ns) h =
    rw (same-lowest m n ms ns h)
    (cond-le (is_negative (lowest_volume m ms))
    (round_up-mono 100000 (mul-le-mul_right (nat_abs (lowest_volume m ms)) (mul-le-mul_left rk (lower-highest (m ∷ ms) (n ∷ ns) h)))))

pub lower-imbalance : (rk k : ℕ) (ms ns : List Month) → CheaperMonths ms ns → imbalance_over rk (take k ns) ≤ imbalance_over rk (take k ms)
lower-imbalance rk k ms ns h = lower-imbalance_over rk (take k ms) (take k ns) (each_take _ k ms ns h)

lower-total-with : (c : Case) (ms : List Month) (rs ss : List Record) → CheaperMonths ms c.group.months →
    LowerMoney c.asked.party rs ss → total_of c ss ≤ total_of (with_months c ms) rs
unfolding total_of margin trading debt quarters imbalance risk yek
lower-total-with c ms rs ss h m =
    omega (
      arith,
      lower-trading c rs ss m,
      cond-le (eqb c.group.responsible 1) (lower-imbalance c.group.rk c.group.used ms c.group.months h),
    )

pub lower-total : (b c : Case) (rs ss : List Record) → LowerCase b c → LowerMoney b.asked.party rs ss → total_of c ss ≤ total_of b rs
lower-total b c rs ss l m =
    subst (λ x. total_of c ss ≤ total_of x rs) (sym l.0)
    (lower-total-with c b.group.months rs ss l.1 (subst (λ x. LowerMoney x.asked.party rs ss) l.0 m))

-- collateral looks at sums of money only
pub equal-collateral : (c : Case) (rs ss : List Record) →
    ((d t : ℕ) → sum_of c.asked.party d t rs ≡ sum_of c.asked.party d t ss) → collateral_of c rs ≡ collateral_of c ss
unfolding collateral_of total_of trading debt
equal-collateral c rs ss h =
    let D : debt c rs ≡ debt c ss =
    ap (λ f. debts f 30 c.asked.day (trading_days c.trading.nonbusiness) (trading_days c.trading.nonbusiness))
    (fun_ext λ d. fun_ext λ t. h d t) in
    rw D
