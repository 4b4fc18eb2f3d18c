-- Laws of the report: its lines by what the file names, and its balances. Assumes nothing.
use mathlib.Core.Path.{◌≡◌, refl, ◌∙◌, ap}
use mathlib.Core.Bool.{Bool, true, false, cond}
use mathlib.Core.List.{List, [], ◌++◌}
use Prim.Native.Nat.{ℕ, ◌<◌}
use native.Mathlib.Omega.{arith}
use lib.IntN.{ℤ}
use lib.ListN.{get_or}
use borrow.Author.Tests.{le-leb}
use Rattle.rules.specs.DayFile.{file_names}
use Rattle.rules.specs.Calls.{file, words_after, file_answer}
use Rattle.rules.specs.declared.FileRead.{FileRead}
use Rattle.rules.proofs.CallLaws.{done-stays}
use Rattle.file_check.proofs.AnswerLaws.{cause-told, told-refused, told-done}
use Rattle.file_names.specs.Names.{names_party}
use Rattle.file_names.proofs.NameLaws.{not_named}
use Rattle.rules.specs.Words.{is_book, entries, coefficient_of, tolerance_of}
use Rattle.rules.specs.Balance.{Volume, balance_of, balance_answer, party_day_cause}
use Rattle.rules.specs.declared.PartyDay.{PartyDay}
use Rattle.tally.specs.Scan.{scanned}
use Rattle.position.proofs.AnswerLaws.{balance-done}
use Rattle.text.specs.Text.{each_from, refusal}
use Rattle.text.proofs.TextLaws.{each_same, each_none}
use Rattle.report.specs.Asked.{Asked}
use Rattle.report.specs.Report.{party_lines, all_lines, line_of, header, report_into}

-- a party that the file does not name has no line
pub no_lines : (bs ws : List ℕ) (p : ℕ) → names_party bs p ≡ false → party_lines bs ws p ≡ []
unfolding party_lines
no_lines bs ws p e = each_none _ 36525 0 (λ d. rw (not_named bs p e d))

-- the lines of a table that has the days named
pub table-lines : (bs ws : List ℕ) (p : ℕ) (days : List Bool) → ((d : ℕ) → d < 36525 → get_or days d false ≡ file_names bs p d) → each_from (λ d. cond (get_or days d false) (line_of ws p d) []) 36525 0 ≡ party_lines bs ws p
unfolding party_lines
table-lines bs ws p days t = each_same _ _ 36525 0 (λ d h. rw (t d (omega arith)))

-- the report by the answer to the file
module _ (ws bs : List ℕ) {r : FileRead} (e : r ≡ file_answer ws bs) where
  pub report-refused : (r.answer ≡ 0 → ⊥) → report_into ws bs ≡ refusal r.answer
  unfolding report_into
  report-refused n = told-refused ws bs e _ refusal n

  pub report-done : r.answer ≡ 0 → report_into ws bs ≡ header ++ all_lines bs (words_after ws (file bs))
  unfolding report_into
  report-done z = told-done ws bs e _ refusal z

  pub report-book : r.answer ≡ 0 → is_book (words_after ws (file bs)) ≡ true
  report-book z = (done-stays ws (file bs) (cause-told ws bs e ∙ z)).is-book

-- a balance asked of a book, for a party and a day in their ranges, is not refused
pub asked-cause : {ws : List ℕ} {p d : ℕ} → Asked ws p d → 0 ≡ party_day_cause ws p d
unfolding party_day_cause
asked-cause {ws} {p} {d} a =
    rw (a.is-book, le-leb 1 p a.party-above, le-leb p 999 a.party, le-leb d 36524 a.day)

-- its balance is that of what the scan read
pub asked-balance : {ws : List ℕ} {p d : ℕ} → Asked ws p d → (v : Volume) {x : PartyDay} {R TM : ℕ} {z : ℤ} → x ≡ scanned p d (entries ws) → R ≡ coefficient_of ws → TM ≡ tolerance_of ws →
    z ≡ balance_of v R TM x.tally x.bought → z ≡ (balance_answer v ws p d).balance
asked-balance {ws} {p} {d} a v f g h e = ap (λ b. b.balance) (balance-done ws p d v (asked-cause a) f g h e)
