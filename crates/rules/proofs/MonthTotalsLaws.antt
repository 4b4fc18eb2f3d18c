-- The totals of a month report against the book's records (02, T-01). Assumes nothing.
use mathlib.Core.Path.{◌≡◌, refl, sym, ap, ap₂, ◌∙◌}
use mathlib.Core.Logic.{inl, inr}
use mathlib.Core.Bool.{Bool, true, false, not, cond, ◌&&◌}
use mathlib.Core.List.{List, [], ◌∷◌}
use Prim.Native.Nat.{ℕ, zero, suc, ◌+◌, ◌<◌}
use native.Mathlib.Nat.{zero-add, add-zero, add_comm}
use native.Mathlib.Omega.{arith}
use lib.Dec.{eqb, ltb}
use borrow.Author.Tests.{eqb-true, eqb-false, eq-eqb, ne_eqb, ltb-true, le-leb, not-true}
use Rattle.numbers.specs.Sums.{sum, total}
use Rattle.numbers.specs.Tests.{every}
use Rattle.numbers.specs.Causes.{unless, if_done}
use Rattle.numbers.proofs.TestLaws.{bool_cases}
use Rattle.numbers.proofs.CauseLaws.{clear-all, unless-zero}
use Rattle.numbers.proofs.SumLaws.{total-same-where, total-plus, sum-cong, sum-total, Among, sum-once, sum-once-where, cond-first}
use Rattle.calendar.specs.Calendar.{months, days, month_length, month_start, month_of}
use Rattle.calendar.proofs.MonthLaws.{month-days, month-day, month-last}
use Rattle.rules.specs.Entry.{Record, key, is_standing, is_type, bilateral, last_party, last_day, legal}
use Rattle.rules.specs.Words.{is_book, entries}
use Rattle.rules.specs.Balance.{counted_to, bought_by, party_day_cause, tally_answer}
use Rattle.rules.specs.MonthReport.{month_total, month_report_cause, report_of, refused_report, month_report}
use Rattle.rules.specs.MonthTotals.{chosen, amounts, of_month, export_of, purchases, total_in, MonthTotals}
use Rattle.rules.proofs.WordLaws.{legal-bounds, book-facts}
use Rattle.rules.proofs.MonthReportLaws.{total-figure, month-over}

-- the amounts of the records chosen, as a total over all
chosen-amounts : (test : Record → Bool) (rs : List Record) → amounts (chosen test rs) ≡ total (λ r. cond (test r) r.amount 0) rs
unfolding amounts chosen total
chosen-amounts test [] = refl
chosen-amounts test (r ∷ rs) =
    elim (bool_cases (test r)) [
      | inl e ↦ rw e (ap (λ n. r.amount + n) (chosen-amounts test rs))
      | inr e ↦ rw e (omega (arith, chosen-amounts test rs))
    ]

-- what is counted without a further test and with it
parted : (s t x b : Bool) (a : ℕ) → cond (not x) (cond (every (s ∷ t ∷ b ∷ [])) a 0) 0 + cond (every (s ∷ (t && x) ∷ b ∷ [])) a 0 ≡ cond (every (s ∷ t ∷ b ∷ [])) a 0
parted s true true b a = zero-add _
parted s false true b a = zero-add _
parted true true false b a = add-zero _
parted true false false b a = refl
parted false t false b a = refl

-- the counterparty of a legal record is a party, or there is none
one-buyer : (r : Record) → legal r ≡ true → Among last_party 1 (key r).counterparty (not (eqb (key r).counterparty 0))
one-buyer r e =
    let b = legal-bounds r e in
    record {
      is_among = λ n. omega (arith, eqb-false (key r).counterparty 0 (not-true _ n));
      holds = λ low high. rw (ne_eqb (key r).counterparty 0 (λ z. omega arith));
    }

module _ (m : ℕ) (h : m < months) where
  -- the days whose month it is
  in-month : (d : ℕ) → Among (month_length m) (month_start m) d (eqb (month_of d) m)
  in-month d =
      record {
        is_among = λ e. month-days m d h (eqb-true (month_of d) m e);
        holds = λ low high. eq-eqb (month_of d) m (month-day m d h low high);
      }

  pub records-total : (rs : List Record) (t : ℕ) → month_total rs m t ≡ amounts (chosen (of_month m t) rs)
  unfolding of_month
  records-total rs t = month-over m (λ d. eqb (month_of d) m) in-month rs t ∙ sym (chosen-amounts (of_month m t) rs)

  bought-by : (p : ℕ) (r : Record) → sum (month_length m) (λ i. counted_to p (month_start m + i) r) ≡ cond (eqb (key r).counterparty p) (cond (of_month m bilateral r) r.amount 0) 0
  unfolding counted_to of_month
  bought-by p r =
      let buys = eqb (key r).counterparty p in
      let sale = eqb (key r).type bilateral in
      sum-once-where (in-month (key r).day) (is_standing r && buys) sale r.amount
      ∙ cond-first (is_standing r) buys (sale ∷ eqb (month_of (key r).day) m ∷ []) r.amount

  -- B counts a sale in its buyer's figure alone; a legal sale without a buyer is an export
  bought-in : (r : Record) → legal r ≡ true → sum last_party (λ p. sum (month_length m) (λ i. counted_to (p + 1) (month_start m + i) r)) + cond (export_of m r) r.amount 0 ≡ cond (of_month m bilateral r) r.amount 0
  unfolding export_of of_month
  bought-in r e =
      let a = cond (of_month m bilateral r) r.amount 0 in
      ap (λ n. n + cond (export_of m r) r.amount 0)
      (sum-cong last_party _ _ (λ p l. rw (add_comm p 1) (bought-by (1 + p) r)) ∙ sum-once (one-buyer r e) a)
      ∙ parted (is_standing r) (eqb (key r).type bilateral) (eqb (key r).counterparty 0) (eqb (month_of (key r).day) m) r.amount

  tally-bought : (ws : List ℕ) → is_book ws ≡ true → (p i : ℕ) → p < last_party → i < month_length m → (tally_answer ws (p + 1) (month_start m + i)).bought ≡ bought_by (p + 1) (month_start m + i) (entries ws)
  unfolding tally_answer party_day_cause
  tally-bought ws b p i l k =
      let d : month_start m + i < days = month-last m (month_start m + i) h (omega arith) in
      rw (b, le-leb 1 (p + 1) (omega arith), le-leb (p + 1) last_party (omega arith), le-leb (month_start m + i) last_day (omega arith))

  purchases-total : (ws : List ℕ) → is_book ws ≡ true → purchases ws m ≡ total (λ r. sum last_party (λ p. sum (month_length m) (λ i. counted_to (p + 1) (month_start m + i) r))) (entries ws)
  unfolding purchases bought_by
  purchases-total ws b =
      sum-cong last_party _ _ (λ p l. sum-cong (month_length m) _ _ (λ i k. tally-bought ws b p i l k) ∙ sum-total (month_length m) (λ i. counted_to (p + 1) (month_start m + i)) (entries ws))
      ∙ sum-total last_party (λ p r. sum (month_length m) (λ i. counted_to (p + 1) (month_start m + i) r)) (entries ws)

  pub bilateral-total : (ws : List ℕ) → is_book ws ≡ true → amounts (chosen (of_month m bilateral) (entries ws)) ≡ purchases ws m + amounts (chosen (export_of m) (entries ws))
  bilateral-total ws b =
      chosen-amounts (of_month m bilateral) (entries ws)
      ∙ sym (total-same-where legal _ _ bought-in (entries ws) (book-facts ws b).legals)
      ∙ total-plus _ _ (entries ws)
      ∙ ap₂ ◌+◌ (sym (purchases-total ws b)) (sym (chosen-amounts (export_of m) (entries ws)))

-- a report that is not refused
not-refused : (ws : List ℕ) (m : ℕ) → (month_report ws m).answer ≡ 0 → month_report_cause ws m ≡ 0
unfolding month_report refused_report
not-refused ws m e = go (month_report_cause ws m) e
  where
    go : (c : ℕ) → (if_done c (report_of (entries ws) m) (refused_report c)).answer ≡ 0 → c ≡ 0
    go zero e = refl
    go (suc c) e = e

pub month-totals : MonthTotals
unfolding month_report month_report_cause report_of
month-totals ws m e =
    let c = not-refused ws m e in
    let f = clear-all (unless (is_book ws) 1 ∷ unless (ltb m months) 12 ∷ []) c in
    let b = unless-zero (is_book ws) 0 f.0 in
    let h = ltb-true m months (unless-zero (ltb m months) 11 f.1.0) in
    let is : month_report ws m ≡ report_of (entries ws) m = rw c in
    let total_of : (t : ℕ) → is_type t ≡ true → total_in (month_report ws m) t ≡ amounts (chosen (of_month m t) (entries ws)) = λ t k. ap (λ r. total_in r t) is ∙ total-figure (entries ws) m t k ∙ records-total m h (entries ws) t in
    record { records = total_of; bilateral-sales = total_of bilateral refl ∙ bilateral-total m h ws b }
