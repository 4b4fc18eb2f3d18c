-- A month report that was lent, after its figures or a refusal.
use Rattle.std.specs.Prelude.{◌≡◌, Result, Ok, Err}
use Rattle.rules.specs.Refusals.{number_of}
use Rattle.rules.specs.MonthReport.{refused_report}
use Rattle.rules.specs.declared.refusal.Refusal.{Refusal}
use Rattle.rules.specs.declared.MonthReport.{MonthReport}

-- it has the figures, or has none and lacks the number of the refusal
abbrev pub IsReported : Result Unit Refusal → MonthReport → MonthReport → Type 0
IsReported (Ok u) lent report = lent ≡ report
IsReported (Err e) lent report = (lent ≡ refused_report 0) × (report ≡ refused_report (number_of e))
