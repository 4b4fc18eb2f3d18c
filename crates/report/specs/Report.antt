-- The report on a day file: a header and a line for each party and day named, or a refusal (01, 'Day file').
use Rattle.std.specs.Prelude.{Bool, cond, List, [], ◌∷◌, ◌++◌, ℕ, ℤ, replicate}
use Rattle.rules.specs.Words.{book_words}
use Rattle.rules.specs.Entry.{last_party, day_places}
use Rattle.numbers.specs.Causes.{if_done}
use Rattle.rules.specs.Refusals.{bad_file}
use Rattle.rules.specs.Book.{open_default_words}
use Rattle.rules.specs.Balance.{balance_answer, day_ahead, delivery}
use Rattle.rules.specs.DayFile.{file_names}
use Rattle.rules.specs.Calls.{file, cause_of, words_after}
use Rattle.text.specs.Text.{decimal, signed, each_from, refusal}

-- party day ahead delivery
abbrev pub header : List ℕ
header =
    112 ∷ 97 ∷ 114 ∷ 116 ∷ 121 ∷ 32 ∷ 100 ∷ 97 ∷ 121 ∷ 32 ∷ 97 ∷ 104 ∷ 101 ∷ 97 ∷ 100 ∷ 32 ∷ 100 ∷ 101 ∷ 108 ∷ 105 ∷ 118 ∷ 101 ∷ 114 ∷ 121 ∷ 10 ∷ []

-- party, day and two balances, with a space between them
unfoldable pub line_text : ℕ → ℕ → ℤ → ℤ → List ℕ
line_text p d ahead due =
    decimal p ++ (32 ∷ []) ++ (decimal d ++ (32 ∷ [])) ++ (signed ahead ++ (32 ∷ [])) ++ (signed due ++ (10 ∷ []))

unfoldable pub line_of : List ℕ → ℕ → ℕ → List ℕ
line_of ws p d = line_text p d (balance_answer day_ahead ws p d).balance (balance_answer delivery ws p d).balance

-- the days 0 to 36,524 of a party, and the parties 1 to 999
unfoldable pub party_lines : List ℕ → List ℕ → ℕ → List ℕ
party_lines bs ws p = each_from (λ d. cond (file_names bs p d) (line_of ws p d) []) day_places 0

unfoldable pub all_lines : List ℕ → List ℕ → List ℕ
all_lines bs ws = each_from (party_lines bs ws) last_party 1

-- the report on a file read into an opened book
unfoldable pub report_into : List ℕ → List ℕ → List ℕ
report_into ws bs = if_done (cause_of ws (file bs)) (header ++ all_lines bs (words_after ws (file bs))) (refusal (cause_of ws (file bs)))

-- read into a book for 3,072 entries, opened without figures
unfoldable pub report_on : List ℕ → List ℕ
report_on bs = report_into (open_default_words (replicate book_words 0)) bs

-- no report is longer: a header of 25 bytes, and a line of at most 54 for each eight bytes of a file
abbrev pub most_text : ℕ
most_text = 442393

-- what is printed for the bytes read: their report, or a refusal by 2 where a read failed
unfoldable pub printed : Bool → List ℕ → List ℕ
printed failed bs = cond failed (refusal bad_file) (report_on bs)
