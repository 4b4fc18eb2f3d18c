-- What the cells of a table hold after entries: each is the sum of the amounts that go to it. Assumes nothing.
use mathlib.Core.Path.{◌≡◌, refl, sym, ap, ◌∙◌}
use mathlib.Core.Logic.{◌⊎◌, inl, inr}
use mathlib.Core.Bool.{Bool, true, false, not, cond, true≢false}
use mathlib.Core.List.{List, [], ◌∷◌, ◌++◌}
use Prim.Native.Nat.{ℕ, ◌+◌, ◌*◌, ◌≤◌, ◌<◌, zero-le}
use native.Mathlib.Nat.{add-zero}
use native.Mathlib.Omega.{arith}
use lib.Dec.{eqb}
use lib.ListN.{length, get_or, length-set, length-replicate, get_or-eq_default}
use lib.Seq.{get_or-set_same, get_or-set_other, ext_get_or}
use borrow.Author.Tests.{eqb-true, eqb-false, eq-eqb, not-true}
use Rattle.numbers.specs.Sums.{total}
use Rattle.numbers.specs.Tests.{any, all}
use Rattle.numbers.proofs.TestLaws.{bool_cases, below-or-above, and_split, or_cases, or_left, or_right}
use Rattle.numbers.proofs.ListLaws.{get_or-blank}
use Rattle.numbers.proofs.SumLaws.{cond-limit, total-append, total-cong, total-bound-where}
use Rattle.rules.specs.Entry.{Label, Record, legal}
use Rattle.cells.specs.Cells.{Cells, one_if, add_to, add_to_each, added, over, blank, filled, goes_to, in_cell, apart, Limited}
use Rattle.cells.specs.Reordered.{Reordered, none, keep, exchange, further}

-- two tests, each of which implies the other
pub same_test : {a b : Bool} → (a ≡ true → b ≡ true) → (b ≡ true → a ≡ true) → a ≡ b
same_test {a} {b} f g =
    elim (bool_cases a) [
      | inl e ↦ e ∙ sym (f e)
      | inr e ↦ e ∙ sym (elim (bool_cases b) [ inl k ↦ absurd (true≢false (sym (g k) ∙ e)) | inr k ↦ k ])
    ]

-- a cell among several
pub to-first : (j i : ℕ) (is : List ℕ) → i ≡ j → any (eqb j) (i ∷ is) ≡ true
unfolding any
to-first j i is e = or_left (eqb j i) _ (eq-eqb j i (sym e))

pub to-later : (j i : ℕ) (is : List ℕ) → any (eqb j) is ≡ true → any (eqb j) (i ∷ is) ≡ true
unfolding any
to-later j i is e = or_right (eqb j i) _ e

pub to-either : (j i : ℕ) (is : List ℕ) → any (eqb j) (i ∷ is) ≡ true → (i ≡ j) ⊎ (any (eqb j) is ≡ true)
unfolding any
to-either j i is e = elim (or_cases (eqb j i) _ e) [ inl q ↦ inl (sym (eqb-true j i q)) | inr q ↦ inr q ]

pub to_none : (j : ℕ) → any (eqb j) [] ≡ true → ⊥
unfolding any
to_none j e = true≢false (sym e)

pub goes_one : (b : Bool) (j i : ℕ) → any (eqb j) (one_if b i) ≡ true → (b ≡ true) × (i ≡ j)
goes_one true j i e = elim (to-either j i [] e) [ inl q ↦ (refl, q) | inr q ↦ absurd (to_none j q) ]
goes_one false j i e = absurd (to_none j e)

pub one-goes : (b : Bool) (j i : ℕ) → b ≡ true → i ≡ j → any (eqb j) (one_if b i) ≡ true
one-goes b j i e q = rw e (to-first j i [] q)

pub one_apart : (b : Bool) (i : ℕ) → apart (one_if b i) ≡ true
unfolding apart any
one_apart true i = refl
one_apart false i = refl

-- one cell
pub length-add : (table : List ℕ) (i a : ℕ) → length (add_to table i a) ≡ length table
length-add table i a = length-set table i _

add_same : (table : List ℕ) (i a : ℕ) → i < length table → get_or (add_to table i a) i 0 ≡ get_or table i 0 + a
add_same table i a h = get_or-set_same table i _ 0 h

pub add-other : (table : List ℕ) (i j a : ℕ) → (j ≡ i → ⊥) → get_or (add_to table i a) j 0 ≡ get_or table j 0
add-other table i j a h = get_or-set_other table i j _ 0 h

-- several
length-each : (is table : List ℕ) (a : ℕ) → length (add_to_each table is a) ≡ length table
unfolding add_to_each
length-each [] table a = refl
length-each (i ∷ is) table a = length-each is (add_to table i a) a ∙ length-add table i a

each-cell : (is table : List ℕ) (j a : ℕ) → apart is ≡ true → j < length table →
    get_or (add_to_each table is a) j 0 ≡ get_or table j 0 + cond (any (eqb j) is) a 0
unfolding add_to_each apart any
each-cell [] table j a e h = sym (add-zero _)
each-cell (i ∷ is) table j a e h =
    let s = and_split (not (any (eqb i) is)) (apart is) e in
    let ih = each-cell is (add_to table i a) j a s.1 (rw (length-add table i a) h) in
    elim (bool_cases (eqb j i)) [
      | inl q ↦
          let o : j ≡ i = eqb-true j i q in
          let n : any (eqb j) is ≡ false = rw o (not-true _ s.0) in
          rw q (ih ∙ rw (n, add-zero) (rw o (add_same table i a (rw (← o) h))))
      | inr q ↦ rw q (ih ∙ ap (λ x. x + cond (any (eqb j) is) a 0) (add-other table i j a (eqb-false j i q)))
    ]

-- one entry more
module _ {S : Type 0} (f : Record → S → S) where
  pub over-more : (rs : List Record) (r : Record) (s : S) → over f (rs ++ (r ∷ [])) s ≡ f r (over f rs s)
  unfolding over
  over-more [] r s = refl
  over-more (q ∷ rs) r s = over-more rs r (f q s)

module _ {A : Type 0} (f : A → ℕ) where
  pub total-more : (xs : List A) (x : A) → total f (xs ++ (x ∷ [])) ≡ total f xs + f x
  unfolding total
  total-more xs x = total-append f xs (x ∷ []) ∙ ap (λ n. total f xs + n) (add-zero (f x))

  -- a sum does not depend on the order
  pub total-reordered : {xs ys : List A} → Reordered xs ys → total f xs ≡ total f ys
  unfolding total
  total-reordered none = refl
  total-reordered (keep x o) = ap (λ n. f x + n) (total-reordered o)
  total-reordered (exchange x y xs) = omega arith
  total-reordered (further o p) = total-reordered o ∙ total-reordered p

length-blank : (n : ℕ) → length (blank n) ≡ n
unfolding blank
length-blank n = length-replicate n 0

blank-cell : (n j : ℕ) → get_or (blank n) j 0 ≡ 0
unfolding blank
blank-cell n j = get_or-blank n j 0

module _ (at : Cells) where
  length_over : (rs : List Record) (table : List ℕ) → length (over (added at) rs table) ≡ length table
  unfolding over added
  length_over [] table = refl
  length_over (r ∷ rs) table = length_over rs (added at r table) ∙ length-each (at r.label) table r.amount

  pub length-filled : (n : ℕ) (rs : List Record) → length (filled at n rs) ≡ n
  unfolding filled
  length-filled n rs = length_over rs (blank n) ∙ length-blank n

  module _ (most : ℕ) (m : Limited at most) where
    over-cell : (j : ℕ) (rs : List Record) (table : List ℕ) → j < length table → get_or (over (added at) rs table) j 0 ≡ get_or table j 0 + total (in_cell at j) rs
    unfolding over added total
    over-cell j [] table h = sym (add-zero _)
    over-cell j (r ∷ rs) table h =
        let more : List ℕ = added at r table in
        let long : length more ≡ length table = length-each (at r.label) table r.amount in
        omega (arith, over-cell j rs more (rw long h), each-cell (at r.label) table j r.amount (m.apart-at r.label) h)

    -- a cell is the sum of what the entries add to it
    pub cell-sum : (n j : ℕ) → j < n → (rs : List Record) → get_or (filled at n rs) j 0 ≡ total (in_cell at j) rs
    unfolding filled
    cell-sum n j h rs = omega (arith, over-cell j rs (blank n) (rw (length-blank n) h), blank-cell n j)

    -- by a test that holds of just the entries that go there
    pub cell-tested : (n j : ℕ) → j < n → (test : Label → Bool) → ((l : Label) → goes_to at j l ≡ true → test l ≡ true) →
        ((l : Label) → test l ≡ true → goes_to at j l ≡ true) → (rs : List Record) → get_or (filled at n rs) j 0 ≡ total (λ r. cond (test r.label) r.amount 0) rs
    cell-tested n j h test there back rs =
        cell-sum n j h rs ∙ total-cong _ _ (λ r. ap (λ b. cond b r.amount 0) (same_test (there r.label) (back r.label))) rs

    -- a cell is at most the entries times the largest amount that goes there
    pub cell-limit : (n j : ℕ) (rs : List Record) → all legal rs ≡ true → get_or (filled at n rs) j 0 ≤ length rs * most
    cell-limit n j rs ok =
        elim (below-or-above j n) [
          | inl h ↦
              rw (cell-sum n j h rs)
              (total-bound-where legal (in_cell at j) most (λ r l. cond-limit (goes_to at j r.label) (m.amount r j l) (λ e. zero-le)) rs ok)
          | inr h ↦ rw (get_or-eq_default (filled at n rs) 0 {n = j} (rw (length-filled n rs) h)) zero-le
        ]

    -- the table does not depend on the order of the entries
    pub filled-reordered : (n : ℕ) {rs ss : List Record} → Reordered rs ss → filled at n rs ≡ filled at n ss
    filled-reordered n {rs} {ss} o =
        ext_get_or 0 (filled at n rs) (filled at n ss) (length-filled n rs ∙ sym (length-filled n ss))
        (λ j h. let l : j < n = rw (length-filled n rs) at h in
        cell-sum n j l rs ∙ total-reordered (in_cell at j) o ∙ sym (cell-sum n j l ss))
