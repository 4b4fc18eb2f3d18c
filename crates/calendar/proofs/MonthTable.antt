-- The table of the source as a list, and its rule: each month starts where the one before it ends. Assumes nothing.
use mathlib.Core.Path.{◌≡◌, refl, sym, ◌∙◌, ap}
use mathlib.Core.Logic.{inl, inr}
use mathlib.Core.Bool.{Bool, true, false, ◌&&◌}
use mathlib.Core.List.{List, [], ◌∷◌}
use Prim.Native.Nat.{ℕ, zero, suc, ◌+◌, ◌-◌, ◌≤◌, ◌<◌, suc-le-suc, zero-le}
use native.Mathlib.Nat.{add-zero, add-suc, suc-add, zero-add, le_of_suc-le-suc, not-suc-le-zero, eq-or-lt_of_le}
use lib.Dec.{eqb, leb}
use lib.ListN.{length, get_or}
use borrow.Author.Tests.{eqb-true, leb-true, leb-false}
use native.Mathlib.Omega.{arith}
use Rattle.std.specs.List.Sorted.{IsNonDecreasingBy, IsPartitionedBy, IsPartitionPoint}
use Rattle.std.proofs.lemmas.List.Sorted.{IsNonDecreasingBy-from_default, IsPartitionedBy-leb}
use Rattle.calendar.specs.declared.TheConstants.{MONTH_STARTS}
use Rattle.calendar.specs.Calendar.{is_leap, days_in, month_length, month_start, month_of, months}
use Rattle.calendar.proofs.MonthLaws.{start-zero, start-step, start-mono, month-unique, month-past, start-end}
use Rattle.numbers.proofs.TestLaws.{and_split}

unfoldable pub table : List ℕ
table = MONTH_STARTS

-- x starts month m, and each number of a list the month after
follows : ℕ → ℕ → List ℕ → Bool
follows m x [] = true
follows m x (y ∷ ys) = eqb y (x + month_length m) && follows (suc m) y ys

follows-at : (m x : ℕ) (ys : List ℕ) → follows m x ys ≡ true → x ≡ month_start m → (k : ℕ) → k ≤ length ys → get_or (x ∷ ys) k 0 ≡ month_start (m + k)
unfolding follows
follows-at m x ys e q zero h = q ∙ ap month_start (sym (add-zero m))
follows-at m x [] e q (suc k) h = absurd (not-suc-le-zero h)
follows-at m x (y ∷ ys) e q (suc k) h =
    let s = and_split (eqb y (x + month_length m)) (follows (suc m) y ys) e in
    follows-at (suc m) y ys s.1 (eqb-true y (x + month_length m) s.0 ∙ ap (λ n. n + month_length m) q ∙ sym (start-step m)) k (le_of_suc-le-suc h)
    ∙ ap month_start (suc-add m k ∙ sym (add-suc m k))

-- a list of month starts, from day 0
is_table : List ℕ → Bool
is_table [] = false
is_table (x ∷ xs) = eqb x 0 && follows 0 x xs

starts-at : (xs : List ℕ) → is_table xs ≡ true → (k : ℕ) → k < length xs → get_or xs k 0 ≡ month_start k
unfolding is_table
starts-at [] e k h = absurd (not-suc-le-zero h)
starts-at (x ∷ xs) e k h =
    let s = and_split (eqb x 0) (follows 0 x xs) e in
    follows-at 0 x xs s.1 (eqb-true x 0 s.0 ∙ sym start-zero) k (le_of_suc-le-suc h) ∙ ap month_start (zero-add k)

pub table_at : (k : ℕ) → k ≤ months → get_or table k 0 ≡ month_start k
unfolding table is_table follows month_length days_in is_leap
table_at k h = starts-at table refl k (suc-le-suc h)

table-length : length table ≡ suc months
unfolding table
table-length = refl

table-rises : IsNonDecreasingBy (λ x. x) table
table-rises =
    IsNonDecreasingBy-from_default (λ x. x) table 0
    (λ i j h l. omega (arith, table_at i (omega (arith, table-length)), table_at j (omega (arith, table-length)), start-mono i j h))

-- what the search asks of the table, and what it finds: the number of months begun by a day
abbrev pub begun : ℕ → ℕ → Bool
begun day start = leb start day

pub table-parted : (day : ℕ) → IsPartitionedBy (begun day) table
table-parted day = IsPartitionedBy-leb (λ x. x) table day table-rises

pub month-found : (day i : ℕ) → i ≤ length table → IsPartitionPoint (λ y. begun day y ≡ true) (λ y. begun day y ≡ false) table i → (1 ≤ i) × (i - 1 ≡ month_of day)
month-found day zero h p =
    let after : day < get_or table 0 0 = leb-false _ _ (p.1 0 0 zero-le (omega (arith, table-length))) in
    absurd (omega (arith, table_at 0 zero-le, start-zero))
month-found day (suc m) h p =
    let one : suc m - 1 ≡ m = omega arith in
    let from : get_or table m 0 ≤ day = leb-true _ _ (p.0 m 0 zero-le (omega arith)) in
    elim (eq-or-lt_of_le (le_of_suc-le-suc (rw table-length at h))) [
      | inl last ↦ (omega arith, one ∙ last ∙ sym (month-past day (omega (arith, table_at m (omega arith), start-end, ap month_start last))))
      | inr more ↦
          let until : day < get_or table (suc m) 0 = leb-false _ _ (p.1 (suc m) 0 (omega arith) (omega (arith, table-length))) in
          (omega arith, one ∙ sym (month-unique m day more (omega (arith, table_at m (omega arith))) (omega (arith, table_at (suc m) more))))
    ]
