-- What a month report answers, as the code goes. Assumes nothing.
use mathlib.Core.Path.{◌≡◌, refl, ap, ◌∙◌}
use mathlib.Core.Bool.{true, false}
use mathlib.Core.List.{List}
use Prim.Native.Nat.{ℕ, ◌+◌, ◌-◌, ◌≤◌, ◌<◌}
use native.Mathlib.Numerals.{add-one}
use native.Mathlib.Omega.{arith}
use borrow.Author.Tests.{le-ltb, lt-ltb}
use Rattle.calendar.specs.Calendar.{months, days, month_length, month_start}
use Rattle.calendar.proofs.MonthLaws.{month-length, start-step, start-mono, start-end}
use Rattle.std.specs.Prelude.{Err}
use Rattle.rules.specs.declared.refusal.Refusal.TheVariants.{NotABook, BadFigure}
use Rattle.rules.specs.Words.{is_book, entries}
use Rattle.rules.specs.MonthReport.{report_figures, month_report_cause, report_of, refused_report, month_report}
use Rattle.rules.specs.declared.MonthReport.{MonthReport}
use Rattle.cells.specs.Cells.{blank}
use Rattle.month_report.specs.Reports.{IsReported}
use Rattle.month_report.specs.Lines.{lines_of}
use Rattle.month_report.proofs.LineLaws.{report-lines}

-- from the first day of a month to that of the next
pub record Span (m first next : ℕ) : Type 0 where
  pub in_order : first ≤ next
  pub last : next ≤ days
  pub length-is : next - first ≡ month_length m
  pub few : next - first ≤ 31

pub month-days : (m : ℕ) {first next : ℕ} → m < months → first ≡ month_start m → next ≡ month_start (m + 1) → Span m first next
month-days m h e f =
    let g = f ∙ ap month_start (add-one m) ∙ start-step m in
    omega (arith, month-length m, rw start-end at (start-mono (m + 1) months (omega arith)))

-- the report after a refusal
pub refusing : {lent report : MonthReport} {n k : ℕ} → (lent ≡ refused_report 0) × (report ≡ refused_report k) → n ≡ k →
    ◌≡◌ {A = MonthReport} (record { answer = n; month = lent.month; first_day = lent.first_day; days = lent.days; lines = lent.lines }) report
unfolding refused_report
refusing p e = rw (p.0, p.1, e)

-- a report whose figures are zero and whose lines are blank
pub nothing-in : {lines : List ℕ} → lines ≡ blank report_figures →
    ◌≡◌ {A = MonthReport} (record { answer = 0; month = 0; first_day = 0; days = 0; lines = lines }) (refused_report 0)
unfolding refused_report blank
nothing-in e = rw e refl

-- a report without a figure has blank lines
pub none-lent : {lent : MonthReport} → lent ≡ refused_report 0 → lent.lines ≡ blank report_figures
unfolding refused_report blank
none-lent q = ap (λ r. r.lines) q

module _ (ws : List ℕ) (m : ℕ) {lent : MonthReport} (q : lent ≡ refused_report 0) where
  pub no-book : is_book ws ≡ false → IsReported (Err NotABook) lent (month_report ws m)
  unfolding month_report month_report_cause
  no-book e = rw e (q, refl)

  pub no-month : is_book ws ≡ true → months ≤ m → IsReported (Err BadFigure) lent (month_report ws m)
  unfolding month_report month_report_cause
  no-month e l = rw (e, le-ltb m months l) (q, refl)

  pub done : {first count : ℕ} {lines : List ℕ} → is_book ws ≡ true → m < months → first ≡ month_start m → count ≡ month_length m → lines ≡ lines_of first count (entries ws) →
      ◌≡◌ {A = MonthReport} (record { answer = lent.answer; month = m; first_day = first; days = count; lines = lines }) (month_report ws m)
  unfolding refused_report month_report month_report_cause report_of
  done e b f n l =
      let a : lent.answer ≡ 0 = ap (λ r. r.answer) q in
      rw (a, e, lt-ltb m months b, l, f, n) (ap (λ ls. record { answer = 0; month = m; first_day = month_start m; days = month_length m; lines = ls }) (report-lines (entries ws) m))
