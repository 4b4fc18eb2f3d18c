-- How long a report is: every report is within `most_text`. Assumes nothing.
use mathlib.Core.Path.{◌≡◌, refl, ◌∙◌, ap}
use mathlib.Core.Bool.{Bool, true, false, cond}
use mathlib.Core.List.{List, [], ◌∷◌}
use Prim.Native.Nat.{ℕ, zero, suc, ◌+◌, ◌*◌, ◌≤◌, ◌<◌, zero-le}
use native.Mathlib.Omega.{arith}
use lib.IntN.{ℤ}
use lib.ListN.{length, length-append}
use Rattle.rules.specs.DayFile.{words_of, items, file_names}
use Rattle.rules.specs.Calls.{file, cause_of, words_after}
use Rattle.file_check.proofs.AnswerLaws.{file-bytes}
use Rattle.rules.proofs.CallLaws.{file-passes}
use Rattle.text.specs.Text.{each_from, refusal}
use Rattle.text.proofs.TextLaws.{decimal-below, signed-most, refusal-most}
use Rattle.report.specs.Report.{header, line_text, line_of, party_lines, all_lines, report_into, report_on, most_text}
use Rattle.report.proofs.PairLaws.{sum_from, from-times, pairs, named}

-- a line: three digits of a party, five of a day, twenty-one bytes of a balance, and what stands after each
line-most : (p d : ℕ) (a b : ℤ) → p < 1000 → d < 100000 → length (line_text p d a b) ≤ 54
unfolding line_text
line-most p d a b h k =
    simp length-append (omega (arith, decimal-below 2 p h, decimal-below 4 d k, signed-most a, signed-most b))

each-length : (f : ℕ → List ℕ) (n k : ℕ) → length (each_from f n k) ≡ sum_from (λ i. length (f i)) n k
unfolding each_from sum_from
each-length f zero k = refl
each-length f (suc n) k = length-append (f k) (each_from f n (k + 1)) ∙ ap (λ l. length (f k) + l) (each-length f n (k + 1))

-- the lines of so many parties and days
module _ (bs ws : List ℕ) where
  day-most : (p d : ℕ) → p < 1000 → d < 100000 → length (cond (file_names bs p d) (line_of ws p d) []) ≤ 54 * cond (file_names bs p d) 1 0
  unfolding line_of
  day-most p d h k = go (file_names bs p d)
    where
      go : (b : Bool) → length (cond b (line_of ws p d) []) ≤ 54 * cond b 1 0
      go true = line-most p d _ _ h k
      go false = zero-le

  lines-most : (n j m k : ℕ) → j + n ≤ 1000 → k + m ≤ 100000 →
      length (each_from (λ p. each_from (λ d. cond (file_names bs p d) (line_of ws p d) []) m k) n j) ≤ 54 * pairs n j m k (file_names bs)
  unfolding pairs
  lines-most n j m k h l =
      rw (each-length (λ p. each_from (λ d. cond (file_names bs p d) (line_of ws p d) []) m k) n j)
      (from-times _ _ 54 n j
      (λ p a. rw (each-length (λ d. cond (file_names bs p d) (line_of ws p d) []) m k) (from-times _ _ 54 m k (λ d b. day-most p d (omega arith) (omega arith)))))

  all_most : length (all_lines bs ws) ≤ 54 * pairs 999 1 36525 0 (file_names bs)
  unfolding all_lines party_lines
  all_most = lines-most 999 1 36525 0 (omega arith) (omega arith)

-- a word is four bytes
words_long : (bs : List ℕ) → 4 * length (words_of bs) ≤ length bs
unfolding words_of
words_long [] = zero-le
words_long (a ∷ []) = zero-le
words_long (a ∷ b ∷ []) = zero-le
words_long (a ∷ b ∷ c ∷ []) = zero-le
words_long (a ∷ b ∷ c ∷ d ∷ bs) = omega (arith, words_long bs)

-- a party and a day for each eight bytes
file-pairs : (n j m k : ℕ) (bs : List ℕ) → 8 * pairs n j m k (file_names bs) ≤ length bs
unfolding file_names items
file-pairs n j m k bs = omega (arith, named n j m k (words_of bs), words_long bs)

pub refusal-fits : (c : ℕ) → length (refusal c) ≤ most_text
refusal-fits c = omega (arith, refusal-most c)

report-most : (ws bs : List ℕ) → length (report_into ws bs) ≤ most_text
unfolding report_into
report-most ws bs = go (cause_of ws (file bs)) refl
  where
    go : (c : ℕ) → cause_of ws (file bs) ≡ c → length (report_into ws bs) ≤ most_text
    go zero e =
        rw (e, length-append header (all_lines bs (words_after ws (file bs))))
        (omega (arith, all_most bs (words_after ws (file bs)), file-pairs 999 1 36525 0 bs, file-bytes bs (file-passes ws bs e).is-file))
    go (suc c) e = rw e (refusal-fits (suc c))

pub report-fits : (bs : List ℕ) → length (report_on bs) ≤ most_text
unfolding report_on
report-fits bs = report-most _ bs
