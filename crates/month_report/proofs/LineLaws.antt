-- The lines of a month report as a table: what an entry adds, and each figure the sum of its day or month and type. Assumes nothing.
use mathlib.Core.Path.{◌≡◌, sym, ap, ◌∙◌}
use mathlib.Core.Logic.{◌⊎◌, inl, inr}
use mathlib.Core.Bool.{Bool, true, false, cond, true≢false}
use mathlib.Core.List.{List, [], ◌∷◌}
use Prim.Native.Nat.{ℕ, ◌+◌, ◌-◌, ◌*◌, ◌/◌, ◌%◌, ◌≤◌, ◌<◌}
use native.Mathlib.Nat.{add-zero}
use native.Mathlib.Omega.{arith}
use lib.Dec.{eqb, leb, ltb}
use lib.ListN.{length, get_or}
use lib.Seq.{set-get_or, set_out, get_or-set_same, ext_get_or}
use borrow.Author.Tests.{eqb-true, eqb-false, leb-true, ltb-true, eq-eqb, ne_eqb, le-leb, lt-ltb}
use Rattle.numbers.specs.Sums.{total}
use Rattle.numbers.specs.Tests.{every, any}
use Rattle.numbers.proofs.TestLaws.{bool_cases, below-or-above, every_holds, holds-every}
use Rattle.numbers.proofs.SumLaws.{cond-limit, total-none}
use Rattle.calendar.specs.Calendar.{month_start, month_length}
use Rattle.calendar.proofs.MonthLaws.{month-length}
use Rattle.rules.specs.Entry.{Label, Record, key, is_type, standing, legal, most_money}
use Rattle.rules.specs.Words.{word}
use Rattle.rules.specs.MonthReport.{line_sums, line_place, report_figures, reported, day_sum, report_lines}
use Rattle.rules.proofs.WordLaws.{type-range, legal-bounds}
use Rattle.rules.proofs.Limits.{legal-cases}
use Rattle.rules.proofs.SumPlaces.{line-places, type-at, place_of, one_type}
use Rattle.rules.proofs.MonthReportLaws.{line_type, days_tests, report-length, day-place, total-place, past-place, month-total}
use Rattle.words.proofs.BookCode.{IsRead}
use Rattle.cells.specs.Cells.{add_to, add_to_each, added, goes_to, apart, Limited, AtMost}
use Rattle.cells.proofs.CellLaws.{same_test, to-first, to-later, to-either, to_none, add-other, cell-tested, length-filled}
use Rattle.month_report.specs.Lines.{in_month, words_count, day_figure, total_figure, report_cells, lines_of}

-- an entry of the month, as facts
record InMonth (first days : ℕ) (l : Label) : Type 0 where
  stands : l.status ≡ 0
  type : is_type l.key.type ≡ true
  from : first ≤ l.key.day
  until : l.key.day < first + days

in-month : (first days : ℕ) (l : Label) → in_month first days l ≡ true → InMonth first days l
unfolding in_month
in-month first days l e =
    let h = every_holds (eqb l.status standing ∷ is_type l.key.type ∷ leb first l.key.day ∷ ltb l.key.day (first + days) ∷ []) e in
    record { stands = eqb-true _ _ h.0; type = h.1.0; from = leb-true _ _ h.1.1.0; until = ltb-true _ _ h.1.1.1.0 }

month-in : (first days : ℕ) (l : Label) → InMonth first days l → in_month first days l ≡ true
unfolding in_month
month-in first days l f =
    rw (eq-eqb l.status 0 f.stands, f.type, le-leb first l.key.day f.from, lt-ltb l.key.day (first + days) f.until)

cells_in : (first days : ℕ) (l : Label) → in_month first days l ≡ true → report_cells first days l ≡ day_figure first l ∷ total_figure days l ∷ []
unfolding report_cells
cells_in first days l e = rw e

cells_out : (first days : ℕ) (l : Label) → in_month first days l ≡ false → report_cells first days l ≡ []
unfolding report_cells
cells_out first days l e = rw e

-- what an entry's words tell of it
words-facts : (start days b w : ℕ) → words_count start days b w ≡ true → (start ≤ b) × (b < start + days) × (w < 822083584)
words-facts start days b w e =
    let h = every_holds (leb start b ∷ ltb b (start + days) ∷ ltb w 822083584 ∷ []) e in
    (leb-true _ _ h.0, ltb-true _ _ h.1.0, ltb-true _ _ h.1.1.0)

facts-words : (start days b w : ℕ) → start ≤ b → b < start + days → w < 822083584 → words_count start days b w ≡ true
facts-words start days b w x y z = rw (le-leb start b x, lt-ltb b (start + days) y, lt-ltb w 822083584 z)

add_none : (table : List ℕ) (i : ℕ) → add_to table i 0 ≡ table
add_none table i = rw (add-zero (get_or table i 0)) (set-get_or table i 0)

-- what the code has of an entry: whether it counts, its line and place, and what it adds
pub record Taken (first days b w : ℕ) (r : Record) (counts : Bool) (i k x : ℕ) : Type 0 where
  pub counts-is : counts ≡ words_count (word 2 first) days b w
  pub line-is : i ≡ cond counts (b - word 2 first) 0
  pub place_is : k ≡ line_place (key r).type
  pub amount-is : x ≡ cond counts r.amount 0

pub record Small (i k x : ℕ) : Type 0 where
  pub line : i < 31
  pub place : k < line_sums
  pub amount : x ≤ most_money

-- its type has a place in a line
module _ (r : Record) (l : legal r ≡ true) where
  pub type-in : (1 ≤ (key r).type) × ((key r).type ≤ 22)
  type-in = elim (legal-cases r l) [ inl h ↦ omega (arith, type-range (key r).type h.0) | inr h ↦ omega arith ]

  place_in : line_place (key r).type < line_sums
  place_in = elim (legal-cases r l) [ inl h ↦ (place_of line-places (key r).type h.0).below | inr h ↦ rw h.0 (omega arith) ]

-- an entry by its words
module _ (first days : ℕ) {a b w : ℕ} {r : Record} (e : IsRead a b w r) (l : legal r ≡ true) where
  same-month : is_type (key r).type ≡ true → words_count (word 2 first) days b w ≡ in_month first days r.label
  same-month t = same_test there back
    where
      there : words_count (word 2 first) days b w ≡ true → in_month first days r.label ≡ true
      there q =
          let h = words-facts (word 2 first) days b w q in
          month-in first days r.label (record { stands = omega arith; type = t; from = omega arith; until = omega arith })

      back : in_month first days r.label ≡ true → words_count (word 2 first) days b w ≡ true
      back q =
          let f = in-month first days r.label q in
          facts-words (word 2 first) days b w (omega arith) (omega arith) (omega arith)

  -- a mark is of no type that is summed
  mark-out : (key r).type ≡ 21 → in_month first days r.label ≡ false
  mark-out q =
      elim (bool_cases (in_month first days r.label)) [
        | inl m ↦ absurd ((type-range (key r).type (in-month first days r.label m).type).2 q)
        | inr m ↦ m
      ]

  module _ {counts : Bool} {i k x : ℕ} (t : Taken first days b w r counts i k x) where
    pub small : days ≤ 31 → Small i k x
    small few =
        let last : cond counts (b - word 2 first) 0 ≤ 30 =
        cond-limit counts (λ q. omega (arith, words-facts (word 2 first) days b w (sym t.counts-is ∙ q))) (λ q. omega arith) in
        record {
          line = omega (arith, t.line-is, last);
          place = rw t.place_is (place_in r l);
          amount = rw t.amount-is (cond-limit counts (λ q. (legal-bounds r l).amount) (λ q. omega arith));
        }

    pub adds : (lines : List ℕ) {one both : List ℕ} → one ≡ add_to lines (line_sums * i + k) x → both ≡ add_to one (line_sums * days + k) x → both ≡ added (report_cells first days) r lines
    unfolding added add_to_each
    adds lines eo eb = eb ∙ rw eo
        (elim (legal-cases r l) [
          | inl h ↦ elim (bool_cases counts) [ inl q ↦ counted h.0 q | inr q ↦ none (sym (t.counts-is ∙ same-month h.0) ∙ q) (t.amount-is ∙ rw q) ]
          | inr h ↦ none (mark-out h.0) (t.amount-is ∙ elim (bool_cases counts) [ inl q ↦ rw q h.1 | inr q ↦ rw q ])
        ])
      where
        counted : is_type (key r).type ≡ true → counts ≡ true → add_to (add_to lines (line_sums * i + k) x) (line_sums * days + k) x ≡ add_to_each lines (report_cells first days r.label) r.amount
        counted y q =
            let d : b - word 2 first ≡ (key r).day - first = omega arith in
            rw (cells_in first days r.label (sym (t.counts-is ∙ same-month y) ∙ q), t.line-is, t.place_is, t.amount-is, q, d)

        none : in_month first days r.label ≡ false → x ≡ 0 → add_to (add_to lines (line_sums * i + k) x) (line_sums * days + k) x ≡ add_to_each lines (report_cells first days r.label) r.amount
        none m z = rw (z, cells_out first days r.label m, add_none lines _, add_none lines _)

-- a figure after an amount more in one
pub add_most : (most : ℕ) (table : List ℕ) (i a j : ℕ) → AtMost most table → get_or (add_to table i a) j 0 ≤ most + a
add_most most table i a j m =
    elim (bool_cases (eqb j i)) [
      | inl q ↦ rw (eqb-true j i q) (elim (below-or-above i (length table)) [
        | inl h ↦ rw (get_or-set_same table i (get_or table i 0 + a) 0 h) (omega (arith, m.at_most i))
        | inr h ↦ rw (set_out table i (get_or table i 0 + a) h) (omega (arith, m.at_most i))
      ])
      | inr q ↦ rw (add-other table i j a (eqb-false j i q)) (omega (arith, m.at_most j))
    ]

-- an entry goes to a day's figure and to a total, with an amount of money at most
module _ (first days : ℕ) where
  pub report-limited : Limited (report_cells first days) most_money
  unfolding apart any
  report-limited = record { apart-at = λ l. elim (bool_cases (in_month first days l)) [ inl m ↦ two l m | inr m ↦ rw (cells_out first days l m) ]; amount = λ r j l e. (legal-bounds r l).amount }
    where
      two : (l : Label) → in_month first days l ≡ true → apart (report_cells first days l) ≡ true
      two l m = let f = in-month first days l m in rw (cells_in first days l m, ne_eqb (day_figure first l) (total_figure days l) (λ q. omega arith))

  -- the figure that an entry goes to
  goes_to_lem : (j : ℕ) (l : Label) → goes_to (report_cells first days) j l ≡ true → (InMonth first days l) × ((day_figure first l ≡ j) ⊎ (total_figure days l ≡ j))
  goes_to_lem j l e =
      elim (bool_cases (in_month first days l)) [
        | inl m ↦ (
          in-month first days l m,
          elim (to-either j (day_figure first l) (total_figure days l ∷ []) (rw (cells_in first days l m) at e)) [
            | inl q ↦ inl q
            | inr q ↦ elim (to-either j (total_figure days l) [] q) [ inl p ↦ inr p | inr p ↦ absurd (to_none j p) ]
          ],
        )
        | inr m ↦ absurd (to_none j (rw (cells_out first days l m) at e))
      ]

  to-day : (j : ℕ) (l : Label) → InMonth first days l → day_figure first l ≡ j → goes_to (report_cells first days) j l ≡ true
  to-day j l f q = rw (cells_in first days l (month-in first days l f)) (to-first j (day_figure first l) (total_figure days l ∷ []) q)

  to-total : (j : ℕ) (l : Label) → InMonth first days l → total_figure days l ≡ j → goes_to (report_cells first days) j l ≡ true
  to-total j l f q =
      rw (cells_in first days l (month-in first days l f))
      (to-later j (day_figure first l) (total_figure days l ∷ []) (to-first j (total_figure days l) [] q))

-- a figure by its line and its place in it
module _ (first days k : ℕ) (place : k < line_sums) where
  -- the type whose sum stands there, and an entry of it
  of-place : (l : Label) → is_type l.key.type ≡ true → line_place l.key.type ≡ k → l.key.type ≡ line_type k
  of-place l t q = one_type line-places (place_of line-places l.key.type t) (rw q (type-at line-places k place))

  place-below : (l : Label) → InMonth first days l → line_place l.key.type < line_sums
  place-below l f = (place_of line-places l.key.type f.type).below

  type-of : (l : Label) → l.key.type ≡ line_type k → (is_type l.key.type ≡ true) × (line_place l.key.type ≡ k)
  type-of l q = let s = type-at line-places k place in (rw q s.is-named, rw q s.stands_at_lem)

  abbrev day_tests : ℕ → Label → List Bool
  day_tests i l = eqb l.status standing ∷ eqb l.key.day (first + i) ∷ eqb l.key.type (line_type k) ∷ []

  abbrev month_tests : Label → List Bool
  month_tests l = eqb l.status standing ∷ eqb l.key.type (line_type k) ∷ leb first l.key.day ∷ ltb l.key.day (first + days) ∷ []

  day-there : (i : ℕ) → i < days → (l : Label) → goes_to (report_cells first days) (line_sums * i + k) l ≡ true → every (day_tests i l) ≡ true
  day-there i h l e =
      let g = goes_to_lem first days (line_sums * i + k) l e in
      let f = g.0 in
      let b = place-below l f in
      let q : day_figure first l ≡ line_sums * i + k = elim g.1 [ inl x ↦ x | inr x ↦ absurd (omega arith) ] in
      holds-every (day_tests i l)
      (eq-eqb l.status 0 f.stands, (eq-eqb l.key.day (first + i) (omega arith), (eq-eqb l.key.type (line_type k) (of-place l f.type (omega arith)), tt)))

  day-back : (i : ℕ) → i < days → (l : Label) → every (day_tests i l) ≡ true → goes_to (report_cells first days) (line_sums * i + k) l ≡ true
  day-back i h l e =
      let t = every_holds (day_tests i l) e in
      let d : l.key.day ≡ first + i = eqb-true _ _ t.1.0 in
      let y = type-of l (eqb-true _ _ t.1.1.0) in
      to-day first days (line_sums * i + k) l (record { stands = eqb-true _ _ t.0; type = y.0; from = omega arith; until = omega arith }) (omega (arith, y.1))

  day-cell : (i : ℕ) → i < days → days ≤ 31 → (rs : List Record) → get_or (lines_of first days rs) (line_sums * i + k) 0 ≡ day_sum rs (first + i) (line_type k)
  unfolding lines_of day_sum reported
  day-cell i h few rs =
      cell-tested (report_cells first days) most_money (report-limited first days) report_figures (line_sums * i + k) (omega arith)
      (λ l. every (day_tests i l)) (day-there i h) (day-back i h) rs

  total-there : (l : Label) → goes_to (report_cells first days) (line_sums * days + k) l ≡ true → every (month_tests l) ≡ true
  total-there l e =
      let g = goes_to_lem first days (line_sums * days + k) l e in
      let f = g.0 in
      let b = place-below l f in
      let q : total_figure days l ≡ line_sums * days + k = elim g.1 [ inl x ↦ absurd (omega arith) | inr x ↦ x ] in
      holds-every (month_tests l)
      (eq-eqb l.status 0 f.stands, (eq-eqb l.key.type (line_type k) (of-place l f.type (omega arith)), (le-leb first l.key.day f.from, (lt-ltb l.key.day (first + days) f.until, tt))))

  total-back : (l : Label) → every (month_tests l) ≡ true → goes_to (report_cells first days) (line_sums * days + k) l ≡ true
  total-back l e =
      let t = every_holds (month_tests l) e in
      let y = type-of l (eqb-true _ _ t.1.0) in
      to-total first days (line_sums * days + k) l (record { stands = eqb-true _ _ t.0; type = y.0; from = leb-true _ _ t.1.1.0; until = ltb-true _ _ t.1.1.1.0 })
      (ap (λ x. line_sums * days + x) y.1)

  total-cell : days ≤ 31 → (rs : List Record) → get_or (lines_of first days rs) (line_sums * days + k) 0 ≡ total (λ r. cond (every (days_tests first days (line_type k) r)) r.amount 0) rs
  unfolding lines_of
  total-cell few rs =
      cell-tested (report_cells first days) most_money (report-limited first days) report_figures (line_sums * days + k) (omega arith)
      (λ l. every (month_tests l)) total-there total-back rs

-- nothing goes past the totals
past-cell : (first days j : ℕ) → line_sums * (days + 1) ≤ j → j < report_figures → (rs : List Record) → get_or (lines_of first days rs) j 0 ≡ 0
unfolding lines_of
past-cell first days j h b rs =
    cell-tested (report_cells first days) most_money (report-limited first days) report_figures j b (λ l. false) nowhere (λ l e. absurd (true≢false (sym e))) rs
    ∙ total-none rs
  where
    nowhere : (l : Label) → goes_to (report_cells first days) j l ≡ true → false ≡ true
    nowhere l e =
        let g = goes_to_lem first days j l e in
        let f = g.0 in
        let p = (place_of line-places l.key.type f.type).below in
        elim g.1 [ inl x ↦ absurd (omega arith) | inr x ↦ absurd (omega arith) ]

-- the lines of a month
module _ (rs : List Record) (m : ℕ) where
  abbrev filled_lines : List ℕ
  filled_lines = lines_of (month_start m) (month_length m) rs

  long : length filled_lines ≡ report_figures
  unfolding lines_of
  long = length-filled (report_cells (month_start m) (month_length m)) report_figures rs

  -- line i and place k in it
  figure : (i k : ℕ) → k < line_sums → line_sums * i + k < report_figures → get_or filled_lines (line_sums * i + k) 0 ≡ get_or (report_lines rs m) (line_sums * i + k) 0
  figure i k p h =
      let few = (month-length m).1 in
      elim (below-or-above i (month_length m)) [
        | inl d ↦ day-cell (month_start m) (month_length m) k p i d few rs ∙ sym (day-place rs m i k d p)
        | inr d ↦ elim (below-or-above (month_length m) i) [
          | inl x ↦
              let j : ℕ = line_sums * i + k - line_sums * (month_length m + 1) in
              let e : line_sums * (month_length m + 1) + j ≡ line_sums * i + k = omega arith in
              past-cell (month_start m) (month_length m) (line_sums * i + k) (omega arith) h rs ∙ sym (rw e at (past-place rs m j))
          | inr x ↦
              let e : i ≡ month_length m = omega arith in
              rw e (total-cell (month_start m) (month_length m) k p few rs ∙ sym (month-total rs m (line_type k)) ∙ sym (total-place rs m k p))
        ]
      ]

  pub report-lines : filled_lines ≡ report_lines rs m
  report-lines =
      ext_get_or 0 filled_lines (report_lines rs m) (long ∙ sym (report-length rs m))
      (λ j h.
      let e : line_sums * (j / line_sums) + j % line_sums ≡ j = omega arith in
      rw (← e) (figure (j / line_sums) (j % line_sums) (omega arith) (rw (e, ← long) h)))
