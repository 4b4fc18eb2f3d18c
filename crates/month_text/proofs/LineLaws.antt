-- Laws of a month report's lines: their sums one by one, and how long they are. Assumes nothing.
use mathlib.Core.Path.{◌≡◌, sym, ap, ◌∙◌}
use mathlib.Core.List.{List, [], ◌∷◌, ◌++◌, append_assoc, append-nil}
use Prim.Native.Nat.{ℕ, zero, suc, ◌+◌, ◌*◌, ◌≤◌, ◌<◌, zero-le}
use native.Mathlib.Omega.{arith}
use lib.ListN.{length, get_or, take, drop, length-append, length-take}
use Rattle.std.proofs.lemmas.List.{take_more}
use Rattle.numbers.specs.Causes.{if_done}
use Rattle.rules.specs.MonthReport.{line_sums}
use Rattle.rules.specs.declared.MonthReport.{MonthReport}
use Rattle.text.specs.Text.{decimal, each_from, refusal}
use Rattle.text.proofs.TextLaws.{decimal-most, refusal-most, each-most}
use Rattle.month_text.specs.ReportText.{sums_text, line_text, line_at, day_text, report_text, most_text}

sums-last : (xs : List ℕ) (x : ℕ) → sums_text (xs ++ (x ∷ [])) ≡ sums_text xs ++ (32 ∷ decimal x)
unfolding sums_text
sums-last [] x = append-nil (32 ∷ decimal x)
sums-last (y ∷ ys) x =
    ap (λ l. 32 ∷ decimal y ++ l) (sums-last ys x) ∙ sym (append_assoc (32 ∷ decimal y) (sums_text ys) (32 ∷ decimal x))

pub sums_next : (xs : List ℕ) (i : ℕ) → i < length xs → sums_text (take (i + 1) xs) ≡ sums_text (take i xs) ++ (32 ∷ decimal (get_or xs i 0))
sums_next xs i h = rw (take_more {X = ℕ} xs i 0 h) (sums-last (take i xs) (get_or xs i 0))

-- a sum: a space and at most twenty digits
sums-most : (xs : List ℕ) → length (sums_text xs) ≤ 21 * length xs
unfolding sums_text
sums-most [] = zero-le
sums-most (x ∷ xs) = rw (length-append (decimal x) (sums_text xs)) (omega (arith, decimal-most x, sums-most xs))

pub refusal-fits : (c : ℕ) → length (refusal c) ≤ most_text
refusal-fits c = omega (arith, refusal-most c)

-- a line: at most twenty digits, twenty-one sums, and the line's end
line-most : (n : ℕ) (xs : List ℕ) → length xs ≤ line_sums → length (line_text n xs) ≤ 462
unfolding line_text
line-most n xs h = simp length-append (omega (arith, decimal-most n, sums-most xs))

line_at-most : (n : ℕ) (lines : List ℕ) (i : ℕ) → length (line_text n (line_at lines i)) ≤ 462
line_at-most n lines i = line-most n (line_at lines i) (rw (length-take line_sums (drop (line_sums * i) lines)) (omega arith))

pub report-most : (r : MonthReport) → r.days ≤ 31 → length (report_text r) ≤ most_text
unfolding report_text
report-most r h = go r.answer
  where
    go : (c : ℕ) → length (if_done c (each_from (day_text r.first_day r.lines) r.days 0 ++ line_text r.month (line_at r.lines r.days)) (refusal c)) ≤ most_text
    go zero =
        rw (length-append (each_from (day_text r.first_day r.lines) r.days 0) (line_text r.month (line_at r.lines r.days)))
        (omega (
          arith,
          each-most (day_text r.first_day r.lines) 462 r.days 0 (λ i l. line_at-most _ r.lines i),
          line_at-most r.month r.lines r.days,
        ))
    go (suc c) = refusal-fits (suc c)
