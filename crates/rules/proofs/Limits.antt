-- Sums and products over legal figures stay within what the code's integers hold. Assumes nothing.
use mathlib.Core.Path.{◌≡◌, refl}
use mathlib.Core.Logic.{◌⊎◌, inl, inr}
use mathlib.Core.Bool.{Bool, true, cond, ◌&&◌}
use mathlib.Core.List.{List, [], ◌∷◌}
use Prim.Native.Nat.{ℕ, zero, suc, ◌+◌, ◌-◌, ◌*◌, max, ◌≤◌, ◌<◌, zero-le}
use native.Mathlib.Nat.{le_refl, le_trans, add-le-add, mul-le-mul, mul-le-mul_left, mul-le-mul_right, mul_comm}
use native.Mathlib.Omega.{arith}
use lib.Dec.{eqb, leb, ltb}
use lib.IntN.{pos, nat_abs, neg_ℤ, ◌-ℤ◌}
use lib.ListN.{length}
use borrow.Author.Tests.{eqb-true, leb-true, ltb-true, ltb-false, lt-ltb, le-ltb, lt-leb}
use Rattle.numbers.specs.Sums.{total}
use Rattle.numbers.specs.Tests.{every, all}
use Rattle.numbers.specs.Causes.{unless}
use Rattle.numbers.specs.Signed.{is_negative}
use Rattle.numbers.proofs.TestLaws.{bool_cases, and_split, or_cases, every_holds, get_or-holds}
use Rattle.numbers.proofs.CauseLaws.{unless-zero, clear-all}
use Rattle.numbers.proofs.SumLaws.{cond-limit, cond_below, total-bound-where, sum_bound, sum-times}
use Rattle.numbers.proofs.SignedLaws.{nat_abs-add, nat_abs-neg, nat_abs-sub, nat_abs-lower, sum_ℤ-bound}
use Rattle.numbers.proofs.RoundingLaws.{half_up-bound, round_up-bound}
use Rattle.rules.specs.Refusals.{bad_party, bad_day, bad_type, bad_counterparty, bad_amount, bad_length, bad_figure}
use Rattle.rules.specs.Entry.{Key, Label, Record, key, most_volume, most_money, within, is_volume, is_money, is_type, is_mark, is_standing, party_ok, day_ok, counterparty_ok, amount_limit, fault, mark_ok, status_ok, legal}
use Rattle.rules.specs.Words.{most_entries, most_coefficient, most_tolerance}
use Rattle.rules.specs.Balance.{Volume, day_ahead, delivery, counted, counted_to, sum_of, bought_by, tally_of, sale_types, cover_types, program_used, sale_side, cover_side, balance_of, balance}
use Rattle.rules.specs.Month.{Tables, month_cause, weighted_prices, weights, aosmf, aedm, hours, most_hours, most_rows, most_price, volume_ok, price_at, imbalance_at, dm_at}
use Rattle.rules.specs.Collateral.{Money, debt_of, debts, money_of, trading_days, debt, quarters, generation, generation_margin, margin, trading, used_months, highest_price, lowest_volume, imbalance_over, imbalance, risk, yek, total_of, month_ok, figures_ok}
use Rattle.case_figures.specs.declared.Month.{Month}
use Rattle.case_figures.specs.declared.Case.{Case}
use Rattle.rules.proofs.SumOrder.{picked, for_tests, to_tests, CountsFor, counts-for, counts-to, sale-sums, cover-sums, program-delivery, program-ahead}
use Rattle.rules.proofs.WordLaws.{within-true, volume-range}

-- what a legal record holds is within the limit of its type
fault-facts : (k : Key) (a : ℕ) → fault k a ≡ 0 → (is_type k.type ≡ true) × (a ≤ amount_limit k.type)
unfolding fault
fault-facts k a e =
    let h =
    clear-all
    (unless (party_ok k.party) bad_party
    ∷ unless (day_ok k.day) bad_day
    ∷ unless (is_type k.type) bad_type
    ∷ unless (counterparty_ok k) bad_counterparty
    ∷ unless (leb a (amount_limit k.type)) bad_amount
    ∷ []) e in
    (unless-zero _ _ h.1.1.0, leb-true _ _ (unless-zero _ _ h.1.1.1.1.0))

pub fault-amount : (k : Key) (a : ℕ) → fault k a ≡ 0 → a ≤ amount_limit k.type
fault-amount k a e = (fault-facts k a e).1

pub mark-facts : (r : Record) → mark_ok r ≡ true → ((key r).type ≡ 21) × (r.amount ≡ 0)
unfolding mark_ok
mark-facts r e =
    let h =
    every_holds
    (is_mark r
    ∷ day_ok (key r).day
    ∷ eqb (key r).party 0
    ∷ eqb (key r).counterparty 0
    ∷ eqb r.amount 0
    ∷ is_standing r
    ∷ []) e in
    (eqb-true _ _ h.0, eqb-true _ _ h.1.1.1.1.0)

-- it is of a type, or a mark
pub legal-cases : (r : Record) → legal r ≡ true → ((is_type (key r).type ≡ true) × (r.amount ≤ amount_limit (key r).type)) ⊎ (((key r).type ≡ 21) × (r.amount ≡ 0))
unfolding legal
legal-cases r e =
    elim (or_cases (eqb (fault (key r) r.amount) 0 && status_ok r.label) (mark_ok r) e) [
      | inl h ↦ inl (fault-facts (key r) r.amount (eqb-true _ _ (and_split (eqb (fault (key r) r.amount) 0) _ h).0))
      | inr h ↦ inr (mark-facts r h)
    ]

pub legal-amount : (r : Record) → legal r ≡ true → r.amount ≤ amount_limit (key r).type
legal-amount r e = elim (legal-cases r e) [ inl h ↦ h.1 | inr h ↦ rw h.1 zero-le ]

pub money-limit : (t : ℕ) → amount_limit t ≤ most_money
unfolding amount_limit
money-limit t = cond-limit (is_money t) (λ e. le_refl most_money) (λ e. omega arith)

pub volume-limit : (t : ℕ) → is_volume t ≡ true → amount_limit t ≡ most_volume
unfolding amount_limit
volume-limit t e = elim (volume-range t e) [ inl h ↦ rw (lt-leb 17 t (omega arith)) | inr q ↦ rw q ]

-- the sums of a book
picked-limit : (f : Label → Bool) (k : ℕ) (r : Record) → (f r.label ≡ true → r.amount ≤ k) → picked f r ≤ k
picked-limit f k r h = cond-limit (f r.label) h (λ e. zero-le)

module _ (rs : List Record) (ok : all legal rs ≡ true) where
  pub sum-limit : (p d t : ℕ) → sum_of p d t rs ≤ length rs * amount_limit t
  unfolding sum_of counted
  sum-limit p d t =
      total-bound-where legal (counted p d t) (amount_limit t)
      (λ r l. picked-limit (λ x. every (for_tests p d t x)) (amount_limit t) r
      (λ e. rw (counts-for p d t r.label e).type at (legal-amount r l))) rs ok

  pub bought-limit : (p d : ℕ) → bought_by p d rs ≤ length rs * most_volume
  unfolding bought_by counted_to
  bought-limit p d =
      total-bound-where legal (counted_to p d) most_volume
      (λ r l. picked-limit (λ x. every (to_tests p d x)) most_volume r
      (λ e. rw ((counts-to p d r.label e).type, volume-limit 6 refl) at (legal-amount r l))) rs ok

-- an entry is a purchase of at most one day: debts over days stay within one sum over the entries before a day
early : ℕ → Record → ℕ
early g r = cond (ltb (key r).day g) r.amount 0

early-is : (g : ℕ) (r : Record) → (key r).day < g → early g r ≡ r.amount
unfolding early
early-is g r h = rw (lt-ltb (key r).day g h)

early-none : (g : ℕ) (r : Record) → g ≤ (key r).day → early g r ≡ 0
unfolding early
early-none g r h = rw (le-ltb (key r).day g h)

early-mono : (d : ℕ) (r : Record) → early d r ≤ early (suc d) r
early-mono d r =
    elim (bool_cases (ltb (key r).day d)) [
      | inl e ↦ let h = ltb-true (key r).day d e in omega (arith, early-is d r h, early-is (suc d) r (omega arith))
      | inr e ↦ omega (arith, early-none d r (ltb-false (key r).day d e))
    ]

pub counted-cases : (p d t : ℕ) (r : Record) → (counted p d t r ≡ 0) ⊎ (CountsFor p d t r.label × (counted p d t r ≡ r.amount))
unfolding counted
counted-cases p d t r =
    elim (bool_cases (every (for_tests p d t r.label))) [
      | inl e ↦ inr (counts-for p d t r.label e, rw e)
      | inr e ↦ inl (rw e)
    ]

bought-once : (p d : ℕ) (r : Record) → counted p d 17 r + counted p d 19 r + early d r ≤ early (suc d) r
bought-once p d r = go (counted-cases p d 17 r) (counted-cases p d 19 r)
  where
    go : (counted p d 17 r ≡ 0) ⊎ (CountsFor p d 17 r.label × (counted p d 17 r ≡ r.amount)) →
        (counted p d 19 r ≡ 0) ⊎ (CountsFor p d 19 r.label × (counted p d 19 r ≡ r.amount)) →
        counted p d 17 r + counted p d 19 r + early d r ≤ early (suc d) r
    go (inl x) (inl y) = omega (arith, early-mono d r)
    go (inl x) (inr y) = omega (arith, early-none d r (omega arith), early-is (suc d) r (omega arith))
    go (inr x) (inl y) = omega (arith, early-none d r (omega arith), early-is (suc d) r (omega arith))
    go (inr x) (inr y) = absurd (omega arith)

day-more : (p d : ℕ) (rs : List Record) → sum_of p d 17 rs + sum_of p d 19 rs + total (early d) rs ≤ total (early (suc d)) rs
unfolding sum_of total
day-more p d [] = zero-le
day-more p d (r ∷ rs) = omega (arith, bought-once p d r, day-more p d rs)

debt_of-below : (f : Money) (d : ℕ) (a i : Bool) → debt_of f d a i ≤ f d 17 + f d 19
unfolding debt_of
debt_of-below f d a i = omega (arith, cond_below a (f d 17), cond_below i (f d 19))

debts-below : (p : ℕ) (rs : List Record) (n g a b : ℕ) → debts (money_of p rs) n g a b ≤ total (early g) rs
unfolding debts
debts-below p rs zero g a b = zero-le
debts-below p rs (suc n) zero a b = zero-le
debts-below p rs (suc n) (suc d) a b =
    le_trans (add-le-add (debt_of-below (money_of p rs) d _ _) (debts-below p rs n d _ _)) (day-more p d rs)

pub debt-limit : (c : Case) (rs : List Record) → all legal rs ≡ true → debt c rs ≤ length rs * most_money
unfolding debt early
debt-limit c rs ok =
    le_trans (debts-below c.asked.party rs 30 c.asked.day _ _)
    (total-bound-where legal (early c.asked.day) most_money
    (λ r l. le_trans (cond_below (ltb (key r).day c.asked.day) r.amount) (le_trans (legal-amount r l) (money-limit (key r).type))) rs ok)

few-sales : (v : Volume) → length (sale_types v) ≤ 6
few-sales delivery = omega arith
few-sales day_ahead = omega arith

sale-volumes : (v : Volume) → all is_volume (sale_types v) ≡ true
unfolding all
sale-volumes delivery = refl
sale-volumes day_ahead = refl

cover-volumes : (v : Volume) → all is_volume (cover_types v) ≡ true
unfolding all
cover-volumes delivery = refl
cover-volumes day_ahead = refl

few-covers : (v : Volume) → length (cover_types v) ≤ 7
few-covers delivery = omega arith
few-covers day_ahead = omega arith

-- the sums of a full book, and the two sides of a balance
module _ (rs : List Record) (ok : all legal rs ≡ true) (few : length rs ≤ most_entries) where
  pub money-sum : (p d t : ℕ) → sum_of p d t rs ≤ most_entries * most_money
  money-sum p d t = le_trans (sum-limit rs ok p d t) (mul-le-mul few (money-limit t))

  pub volume-sum : (p d t : ℕ) → is_volume t ≡ true → sum_of p d t rs ≤ most_entries * most_volume
  volume-sum p d t h = le_trans (sum-limit rs ok p d t) (rw (volume-limit t h) (mul-le-mul_right most_volume few))

  pub bought-sum : (p d : ℕ) → bought_by p d rs ≤ most_entries * most_volume
  bought-sum p d = le_trans (bought-limit rs ok p d) (mul-le-mul_right most_volume few)

  pub debt-sum : (c : Case) → debt c rs ≤ most_entries * most_money
  debt-sum c = le_trans (debt-limit c rs ok) (mul-le-mul_right most_money few)

  types-sum : (p d : ℕ) (ts : List ℕ) → all is_volume ts ≡ true → total (λ t. sum_of p d t rs) ts ≤ length ts * (most_entries * most_volume)
  types-sum p d ts e = total-bound-where is_volume (λ t. sum_of p d t rs) (most_entries * most_volume) (volume-sum p d) ts e

  pub sale-limit : (v : Volume) (p d : ℕ) → sale_side v (tally_of p d rs) ≤ 18432000000000
  sale-limit v p d =
      omega (arith, sale-sums v p d rs, types-sum p d (sale_types v) (sale-volumes v), few-sales v)

  program-limit : (v : Volume) (p d : ℕ) → program_used v (tally_of p d rs) ≤ most_entries * most_volume
  program-limit delivery p d = omega (arith, program-delivery p d rs, volume-sum p d 12 refl, volume-sum p d 22 refl)
  program-limit day_ahead p d = omega (arith, program-ahead p d rs, volume-sum p d 12 refl)

  pub cover-limit : (v : Volume) (p d : ℕ) → cover_side v (tally_of p d rs) (bought_by p d rs) ≤ 30720000000000
  cover-limit v p d =
      omega (
        arith,
        cover-sums v p d (bought_by p d rs) rs,
        types-sum p d (cover_types v) (cover-volumes v),
        few-covers v,
        program-limit v p d,
        bought-sum p d,
        volume-sum p d 15 refl,
        volume-sum p d 16 refl,
      )

  pub balance-limit : (v : Volume) (R TM p d : ℕ) → R ≤ most_coefficient → TM ≤ most_tolerance →
      nat_abs (balance v R TM p d rs) ≤ 30720000000000000
  unfolding balance balance_of
  balance-limit v R TM p d h k =
      let sale : ℕ = 100 * sale_side v (tally_of p d rs) in
      let cover : ℕ = cover_side v (tally_of p d rs) (bought_by p d rs) * R in
      omega (arith, nat_abs-sub sale (max (100 * TM) cover), sale-limit v p d, mul-le-mul (cover-limit v p d) h)

-- Month step: the ranges of tables not refused
pub record MonthRanges (m : Tables) : Type 0 where
  pub hours : length m.prices ≤ 745
  pub cells : length m.imbalance ≡ m.rows * length m.prices
  pub dms : length m.dm ≡ length m.prices
  pub rows : (1 ≤ m.rows) × (m.rows ≤ 64)
  pub group : m.group < m.rows
  pub price : (h : ℕ) → price_at m h ≤ 1000000
  pub volume : (row h : ℕ) → nat_abs (imbalance_at m row h) ≤ 10000000
  pub dm : (h : ℕ) → nat_abs (dm_at m h) ≤ 10000000

pub month-ranges : (m : Tables) → month_cause m ≡ 0 → MonthRanges m
unfolding month_cause
month-ranges m e =
    let lengths : List Bool =
    leb (hours m) most_hours ∷ eqb (length m.imbalance) (m.rows * hours m) ∷ eqb (length m.dm) (hours m) ∷ [] in
    let figures : List Bool =
    within 1 most_rows m.rows
    ∷ ltb m.group m.rows
    ∷ all (λ price. leb price most_price) m.prices
    ∷ all volume_ok m.imbalance
    ∷ all volume_ok m.dm
    ∷ [] in
    let h = clear-all (unless (every lengths) bad_length ∷ unless (every figures) bad_figure ∷ []) e in
    let x = every_holds lengths (unless-zero (every lengths) _ h.0) in
    let y = every_holds figures (unless-zero (every figures) _ h.1.0) in
    record {
      hours = leb-true _ _ x.0;
      cells = eqb-true _ _ x.1.0;
      dms = eqb-true _ _ x.1.1.0;
      rows = within-true 1 most_rows m.rows y.0;
      group = ltb-true _ _ y.1.0;
      price = λ i. leb-true _ _ (get_or-holds (λ price. leb price most_price) m.prices y.1.1.0 i 0 refl);
      volume = λ row i. leb-true _ _ (get_or-holds volume_ok m.imbalance y.1.1.1.0 (row * hours m + i) (pos 0) refl);
      dm = λ i. leb-true _ _ (get_or-holds volume_ok m.dm y.1.1.1.1.0 i (pos 0) refl);
    }

module _ (m : Tables) (r : MonthRanges m) where
  pub weights-limit : weights m ≤ 476800000000
  unfolding weights
  weights-limit =
      le_trans
      (sum_bound m.rows _ (745 * 10000000)
      λ row l. le_trans (sum_bound (hours m) _ 10000000 λ h k. r.volume row h) (mul-le-mul_right 10000000 r.hours))
      (mul-le-mul_right (745 * 10000000) r.rows.1)

  -- no weighted price is above the highest price
  weighted-below : weighted_prices m ≤ 1000000 * weights m
  unfolding weighted_prices weights
  weighted-below =
      sum-times m.rows _ _ 1000000 λ row. sum-times (hours m) _ _ 1000000 λ h.
      rw (mul_comm 1000000) (mul-le-mul_left (nat_abs (imbalance_at m row h)) (r.price h))

  pub weighted-limit : weighted_prices m ≤ 476800000000000000
  weighted-limit = omega (arith, weighted-below, weights-limit)

  pub aosmf-limit : aosmf m ≤ 1000000
  unfolding aosmf
  aosmf-limit = half_up-bound (weighted_prices m) (weights m) 1000000 weighted-below

  pub hour-limit : (h : ℕ) → nat_abs (imbalance_at m m.group h -ℤ dm_at m h) ≤ 20000000
  hour-limit h =
      omega (arith, nat_abs-add (imbalance_at m m.group h) (neg_ℤ (dm_at m h)), nat_abs-neg (dm_at m h), r.volume m.group h, r.dm h)

  pub aedm-limit : nat_abs (aedm m) ≤ 14900000000
  unfolding aedm
  aedm-limit = le_trans (sum_ℤ-bound (hours m) _ 20000000 λ h k. hour-limit h) (mul-le-mul_right 20000000 r.hours)

-- Collateral: the ranges of a case not refused
pub record CaseRanges (c : Case) : Type 0 where
  pub licence : c.margin.licence ≤ 2
  pub holiday : c.trading.holiday ≤ 1
  pub responsible : c.group.responsible ≤ 1
  pub capacity : c.margin.capacity ≤ 100000000
  pub nonbusiness : c.trading.nonbusiness ≤ 29
  pub defaults : c.trading.defaults ≤ 30
  pub used : c.group.used ≤ 3
  pub months : all month_ok (used_months c) ≡ true
  pub rk : c.group.rk ≤ 500
  pub rt : c.group.rt ≤ 1000000000000000
  pub yt : c.yek.yt ≤ 100000000000000
  pub best : (1 ≤ c.yek.best) × (c.yek.best ≤ 10000)
  pub score : c.yek.score ≤ c.yek.best

pub case-ranges : (c : Case) → figures_ok c ≡ true → CaseRanges c
unfolding figures_ok
case-ranges c e =
    let h =
    every_holds
    (leb c.margin.licence generation
    ∷ leb c.trading.holiday 1
    ∷ leb c.group.responsible 1
    ∷ leb c.margin.capacity 100000000
    ∷ leb c.trading.nonbusiness 29
    ∷ leb c.trading.defaults 30
    ∷ leb c.group.used 3
    ∷ all month_ok (used_months c)
    ∷ leb c.group.rk 500
    ∷ leb c.group.rt 1000000000000000
    ∷ leb c.yek.yt 100000000000000
    ∷ within 1 10000 c.yek.best
    ∷ leb c.yek.score c.yek.best
    ∷ []) e in
    let k = h.1.1.1.1.1.1 in
    record {
      licence = leb-true _ _ h.0;
      holiday = leb-true _ _ h.1.0;
      responsible = leb-true _ _ h.1.1.0;
      capacity = leb-true _ _ h.1.1.1.0;
      nonbusiness = leb-true _ _ h.1.1.1.1.0;
      defaults = leb-true _ _ h.1.1.1.1.1.0;
      used = leb-true _ _ k.0;
      months = k.1.0;
      rk = leb-true _ _ k.1.1.0;
      rt = leb-true _ _ k.1.1.1.0;
      yt = leb-true _ _ k.1.1.1.1.0;
      best = within-true 1 10000 _ k.1.1.1.1.1.0;
      score = leb-true _ _ k.1.1.1.1.1.1.0;
    }

pub month-limit : (m : Month) → month_ok m ≡ true → (m.aosmf ≤ 1000000) × (nat_abs m.aedm ≤ 14900000000)
unfolding month_ok
month-limit m e =
    let s = and_split (leb m.aosmf most_price) (leb (nat_abs m.aedm) 14900000000) e in
    (leb-true _ _ s.0, leb-true _ _ s.1)

pub highest-limit : (ms : List Month) → all month_ok ms ≡ true → highest_price ms ≤ 1000000
unfolding highest_price all
highest-limit [] e = zero-le
highest-limit (m ∷ ms) e =
    let s = and_split (month_ok m) (all month_ok ms) e in
    omega (arith, (month-limit m s.0).0, highest-limit ms s.1)

pub lowest-limit : (m : Month) (ms : List Month) → all month_ok (m ∷ ms) ≡ true → nat_abs (lowest_volume m ms) ≤ 14900000000
unfolding lowest_volume all
lowest-limit m [] e = (month-limit m (and_split (month_ok m) true e).0).1
lowest-limit m (k ∷ ms) e =
    let s = and_split (month_ok m) (all month_ok (k ∷ ms)) e in
    omega (arith, nat_abs-lower m.aedm (lowest_volume k ms), (month-limit m s.0).1, lowest-limit k ms s.1)

pub imbalance-product : (rk : ℕ) (m : Month) (ms : List Month) → rk ≤ 500 → all month_ok (m ∷ ms) ≡ true →
    rk * highest_price (m ∷ ms) * nat_abs (lowest_volume m ms) ≤ 7450000000000000000
imbalance-product rk m ms h e = mul-le-mul (mul-le-mul h (highest-limit (m ∷ ms) e)) (lowest-limit m ms e)

imbalance_over-limit : (rk : ℕ) (ms : List Month) → rk ≤ 500 → all month_ok ms ≡ true → imbalance_over rk ms ≤ 74500000000000
unfolding imbalance_over
imbalance_over-limit rk [] h e = zero-le
imbalance_over-limit rk (m ∷ ms) h e =
    le_trans
    (cond_below (is_negative (lowest_volume m ms)) _)
    (round_up-bound _ 100000 74500000000000 (imbalance-product rk m ms h e))

pub margin-limit : (c : Case) → margin c ≤ 20000000
unfolding margin generation_margin
margin-limit c =
    let full : 20000000 ≤ 20000000 = le_refl _ in
    cond-limit (eqb c.margin.licence generation)
    (λ e. cond-limit (ltb 1000000 c.margin.capacity) (λ e. full)
    (λ e. cond-limit (leb 50000 c.margin.capacity) (λ f. omega (arith, ltb-false 1000000 c.margin.capacity e)) (λ f. omega arith)))
    (λ e. full)

module _ (c : Case) (r : CaseRanges c) where
  pub imbalance-limit : imbalance c ≤ 74500000000000
  unfolding imbalance
  imbalance-limit =
      le_trans (cond_below (eqb c.group.responsible 1) _) (imbalance_over-limit c.group.rk (used_months c) r.rk r.months)

  pub risk-limit : risk c ≤ 1000000000000000
  unfolding risk
  risk-limit = le_trans (cond_below (eqb c.group.responsible 1) _) r.rt

  pub yek-product : c.yek.yt * max (5 * (c.yek.best - c.yek.score)) c.yek.best ≤ 5000000000000000000
  yek-product = mul-le-mul {n₂ = 100000000000000} {m₂ = 50000} r.yt (omega arith)

  pub yek-limit : yek c ≤ 100000000000000
  unfolding yek
  yek-limit =
      le_trans (round_up-bound _ (5 * c.yek.best) c.yek.yt (mul-le-mul_left c.yek.yt (omega arith))) r.yt

  pub days-limit : trading_days c.trading.nonbusiness ≤ 30
  unfolding trading_days
  days-limit = cond-limit (leb c.trading.nonbusiness 2) (λ e. omega arith) (λ e. omega arith)

  pub quarters-limit : quarters c ≤ 4
  unfolding quarters
  quarters-limit =
      cond-limit (eqb c.trading.holiday 1 && ltb 3 (trading_days c.trading.nonbusiness)) (λ e. omega arith) (λ e. le_refl 4)

  module _ (rs : List Record) (ok : all legal rs ≡ true) (few : length rs ≤ most_entries) where
    -- 3,072 × 10^13 × 50 × 4, which 64 bits carry, signed or not (02, T-06)
    pub trading-product : debt c rs * (20 + c.trading.defaults) * quarters c ≤ 6144000000000000000
    trading-product = le_trans (mul-le-mul (mul-le-mul {m₂ = 50} (debt-sum rs ok few c) (omega arith)) quarters-limit) (omega arith)

    pub trading-carried : debt c rs * (20 + c.trading.defaults) * quarters c < 9223372036854775808
    trading-carried = omega (arith, trading-product)

    pub trading-limit : trading c rs ≤ 76800000000000000
    unfolding trading
    trading-limit = round_up-bound _ 80 76800000000000000 trading-product

    pub total-limit : total_of c rs ≤ 77974500000000000
    unfolding total_of
    total-limit = omega (arith, margin-limit c, trading-limit, imbalance-limit, risk-limit, yek-limit)
