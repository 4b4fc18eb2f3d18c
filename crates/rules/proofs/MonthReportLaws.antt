-- The lines of a month report by place: a day's sums, the month's totals, and zero past them. Assumes nothing.
use mathlib.Core.Path.{◌≡◌, refl, sym, ap, ◌∙◌}
use mathlib.Core.Bool.{Bool, true, cond, ◌&&◌, and_assoc}
use mathlib.Core.List.{List, [], ◌∷◌, ◌++◌, append_assoc}
use Prim.Native.Nat.{ℕ, zero, suc, ◌+◌, ◌-◌, ◌*◌, ◌<◌}
use native.Mathlib.Nat.{add-zero, zero-add}
use native.Mathlib.Omega.{arith}
use lib.Dec.{eqb, leb, ltb}
use lib.ListN.{length, get_or, replicate, length-append, length-replicate, get_or-append}
use borrow.Author.Tests.{leb-true, ltb-true, lt-ltb, le-leb}
use Rattle.numbers.specs.Sums.{total}
use Rattle.numbers.specs.Tests.{every}
use Rattle.numbers.proofs.TestLaws.{and_split}
use Rattle.numbers.proofs.ListLaws.{get_or-past, get_or-blank, get_or-map}
use Rattle.numbers.proofs.SumLaws.{sum-total, total-cong, Among, sum-once-where}
use Rattle.calendar.specs.Calendar.{month_length, month_start}
use Rattle.calendar.proofs.MonthLaws.{month-length}
use Rattle.rules.specs.Entry.{Record, key, is_standing, is_type}
use Rattle.rules.specs.MonthReport.{report_types, line_sums, line_place, report_figures, reported, day_sum, month_total, day_line, day_lines, total_line, report_lines}
use Rattle.rules.proofs.SumPlaces.{line-places, place_of, type-back}

-- the type whose sum stands at a place of a line
abbrev pub line_type : ℕ → ℕ
line_type k = get_or report_types k 0

length-line : (rs : List Record) (d : ℕ) → length (day_line rs d) ≡ line_sums
unfolding day_line
length-line rs d = refl

length-totals : (rs : List Record) (m : ℕ) → length (total_line rs m) ≡ line_sums
unfolding total_line
length-totals rs m = refl

length-days : (rs : List Record) (n d : ℕ) → length (day_lines rs n d) ≡ line_sums * n
unfolding day_lines
length-days rs zero d = refl
length-days rs (suc n) d = rw (length-append, length-line) (omega (arith, length-days rs n (d + 1)))

pub report-length : (rs : List Record) (m : ℕ) → length (report_lines rs m) ≡ report_figures
unfolding report_lines
report-length rs m =
    rw (length-append, length-append, length-replicate, length-days, length-totals) (omega (arith, month-length m))

days-at : (rs : List Record) (n d i k : ℕ) → i < n → k < line_sums → get_or (day_lines rs n d) (line_sums * i + k) 0 ≡ get_or (day_line rs (d + i)) k 0
unfolding day_lines
days-at rs zero d i k h l = absurd (omega arith)
days-at rs (suc n) d zero k h l = rw (add-zero, zero-add) (get_or-append (day_line rs d) (day_lines rs n (d + 1)) 0 k (rw (length-line rs d) l))
days-at rs (suc n) d (suc i) k h l =
    let e : line_sums * suc i + k ≡ line_sums + (line_sums * i + k) = omega arith in
    let f : d + 1 + i ≡ d + suc i = omega arith in
    rw e (get_or-past (day_line rs d) (day_lines rs n (d + 1)) line_sums (line_sums * i + k) 0 (length-line rs d) ∙ days-at rs n (d + 1) i k (omega arith) l ∙ ap (λ x. get_or (day_line rs x) k 0) f)

module _ (rs : List Record) (m : ℕ) where
  abbrev days : List ℕ
  days = day_lines rs (month_length m) (month_start m)

  abbrev left : ℕ
  left = report_figures - line_sums * (month_length m + 1)

  abbrev past : List ℕ
  past = total_line rs m ++ replicate left 0

  parts : report_lines rs m ≡ days ++ past
  unfolding report_lines
  parts = append_assoc days (total_line rs m) _

  pub day-place : (i k : ℕ) → i < month_length m → k < line_sums → get_or (report_lines rs m) (line_sums * i + k) 0 ≡ day_sum rs (month_start m + i) (line_type k)
  unfolding day_line
  day-place i k h l =
      rw parts
      (get_or-append days past 0 (line_sums * i + k) (rw length-days (omega arith))
      ∙ days-at rs (month_length m) (month_start m) i k h l
      ∙ get_or-map (day_sum rs (month_start m + i)) report_types k 0 0 l)

  past-days : (j : ℕ) → get_or (report_lines rs m) (line_sums * month_length m + j) 0 ≡ get_or past j 0
  past-days j = rw parts (get_or-past days past (line_sums * month_length m) j 0 (length-days rs (month_length m) (month_start m)))

  pub total-place : (k : ℕ) → k < line_sums → get_or (report_lines rs m) (line_sums * month_length m + k) 0 ≡ month_total rs m (line_type k)
  unfolding total_line
  total-place k l =
      past-days k ∙ get_or-append (total_line rs m) (replicate left 0) 0 k (rw (length-totals rs m) l) ∙ get_or-map (month_total rs m) report_types k 0 0 l

  -- past the totals
  pub past-place : (j : ℕ) → get_or (report_lines rs m) (line_sums * (month_length m + 1) + j) 0 ≡ 0
  past-place j =
      let e : line_sums * (month_length m + 1) + j ≡ line_sums * month_length m + (line_sums + j) = omega arith in
      rw e (past-days (line_sums + j) ∙ get_or-past (total_line rs m) _ line_sums j 0 (length-totals rs m) ∙ get_or-blank left j 0)

-- by type
pub day-figure : (rs : List Record) (m i t : ℕ) → i < month_length m → is_type t ≡ true → get_or (report_lines rs m) (line_sums * i + line_place t) 0 ≡ day_sum rs (month_start m + i) t
day-figure rs m i t h e = day-place rs m i (line_place t) h (place_of line-places t e).below ∙ ap (day_sum rs (month_start m + i)) (type-back line-places t e)

pub total-figure : (rs : List Record) (m t : ℕ) → is_type t ≡ true → get_or (report_lines rs m) (line_sums * month_length m + line_place t) 0 ≡ month_total rs m t
total-figure rs m t e = total-place rs m (line_place t) (place_of line-places t e).below ∙ ap (month_total rs m) (type-back line-places t e)

-- a month's total over the records, by any test that holds on the days of the month and on no other
pub month-over : (m : ℕ) (of : ℕ → Bool) → ((d : ℕ) → Among (month_length m) (month_start m) d (of d)) → (rs : List Record) (t : ℕ) →
    month_total rs m t ≡ total (λ r. cond (every (is_standing r ∷ eqb (key r).type t ∷ of (key r).day ∷ [])) r.amount 0) rs
unfolding month_total day_sum reported
month-over m of w rs t =
    sum-total (month_length m) (λ i. reported (month_start m + i) t) rs
    ∙ total-cong _ _ (λ r. sum-once-where (w (key r).day) (is_standing r) (eqb (key r).type t) r.amount) rs

-- a standing record of a type, of n days from day s on
abbrev pub days_tests : ℕ → ℕ → ℕ → Record → List Bool
days_tests s n t r = is_standing r ∷ eqb (key r).type t ∷ leb s (key r).day ∷ ltb (key r).day (s + n) ∷ []

within-days : (n s d : ℕ) → Among n s d (leb s d && ltb d (s + n))
within-days n s d =
    record {
      is_among = λ e. let p = and_split (leb s d) (ltb d (s + n)) e in (leb-true s d p.0, ltb-true d (s + n) p.1);
      holds = λ low high. rw (le-leb s d low, lt-ltb d (s + n) high);
    }

pub month-total : (rs : List Record) (m t : ℕ) → month_total rs m t ≡ total (λ r. cond (every (days_tests (month_start m) (month_length m) t r)) r.amount 0) rs
month-total rs m t =
    let s = month_start m in
    let n = month_length m in
    month-over m (λ d. leb s d && ltb d (s + n)) (within-days n s) rs t
    ∙ total-cong _ _ (λ r. ap (λ b. cond b r.amount 0) (sym (and_assoc (is_standing r && eqb (key r).type t) (leb s (key r).day) (ltb (key r).day (s + n))))) rs
