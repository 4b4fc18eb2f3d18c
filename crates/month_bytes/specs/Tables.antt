-- A month's tables as bytes, for hosts in C (01, 'Month step' and 'Day file').
use Rattle.std.specs.Prelude.{cond, List, [], ◌∷◌, map, ℕ, ◌-◌, ltb, ℤ, pos, negsuc}
use Rattle.numbers.specs.Tests.{every}
use Rattle.rules.specs.Refusals.{bad_length}
use Rattle.rules.specs.DayFile.{words_of}
use Rattle.rules.specs.Month.{Tables, tables_of, month_answer}
use Rattle.case_figures.specs.CaseFigures.{no_month}
use Rattle.rules.specs.declared.MonthAnswer.{MonthAnswer}
use Rattle.word_bytes.specs.Bytes.{is_whole}

-- a word as a signed figure, two's complement
unfoldable pub signed_of : ℕ → ℤ
signed_of w = cond (ltb w 2147483648) (pos w) (negsuc (4294967295 - w))

unfoldable pub figures_of : List ℕ → List ℤ
figures_of bs = map signed_of (words_of bs)

abbrev pub tables_in : List ℕ → List ℕ → ℕ → List ℕ → ℕ → Tables
tables_in prices imbalance rows dm group =
    tables_of (words_of prices) (figures_of imbalance) rows (figures_of dm) group

abbrev pub refused_month : ℕ → MonthAnswer
refused_month cause = record { answer = cause; month = no_month }

-- the month step on bytes: as on the tables, or 11 where a length is no multiple of 4 (01, 'Why a call comes back')
unfoldable pub month_on_bytes : List ℕ → List ℕ → ℕ → List ℕ → ℕ → MonthAnswer
month_on_bytes prices imbalance rows dm group =
    cond (every (is_whole prices ∷ is_whole imbalance ∷ is_whole dm ∷ []))
    (month_answer (tables_in prices imbalance rows dm group))
    (refused_month bad_length)
