-- The window table of a book: each cell is the sum of its day and type. Assumes nothing.
use mathlib.Core.Path.{◌≡◌, refl, sym, ◌∙◌, ap}
use mathlib.Core.Logic.{inl, inr}
use mathlib.Core.Bool.{Bool, true, false, ◌&&◌}
use mathlib.Core.List.{List, [], ◌∷◌}
use Prim.Native.Nat.{ℕ, zero, suc, ◌+◌, ◌-◌, ◌*◌, ◌≤◌, ◌<◌}
use native.Mathlib.Omega.{arith}
use lib.Dec.{eqb, leb, ltb}
use lib.ListN.{get_or}
use borrow.Author.Tests.{eqb-true, leb-true, ltb-true, lt-ltb, le-leb, eq-eqb, ne_eqb}
use Rattle.numbers.specs.Tests.{every}
use Rattle.numbers.proofs.TestLaws.{bool_cases, every_holds}
use Rattle.rules.specs.Entry.{Label, Record, key, is_money, standing, most_money}
use Rattle.rules.specs.Words.{decode}
use Rattle.rules.specs.Balance.{counted, sum_of}
use Rattle.rules.specs.Collateral.{Money, debt_of, debts, money_of}
use Rattle.rules.proofs.SumOrder.{for_tests, CountsFor, counts-for}
use Rattle.rules.proofs.WordLaws.{legal-bounds, within-true}
use Rattle.cells.specs.Cells.{Limited}
use Rattle.cells.proofs.CellLaws.{cell-tested, goes_one, one-goes, one_apart}
use Rattle.trading_debts.specs.Window.{window_days, in_window, cell_of, window_cells, window_of, money_in}
use Rattle.trading_debts.specs.Walk.{chosen, left_after, owed}

-- an entry in the window, as facts
pub record Inside (p g : ℕ) (l : Label) : Type 0 where
  pub party : l.key.party ≡ p
  pub status : l.status ≡ 0
  pub type-above : 17 ≤ l.key.type
  pub type : l.key.type ≤ 20
  pub before : l.key.day < g
  pub recent : g ≤ l.key.day + 30

pub inside : (p g : ℕ) (l : Label) → in_window p g l ≡ true → Inside p g l
inside p g l e =
    let h =
    every_holds
    (eqb l.key.party p ∷ eqb l.status standing ∷ is_money l.key.type ∷ ltb l.key.day g ∷ leb g (l.key.day + window_days) ∷ []) e in
    let t = within-true 17 20 l.key.type h.1.1.0 in
    record {
      party = eqb-true _ _ h.0;
      status = eqb-true _ _ h.1.0;
      type-above = t.0;
      type = t.1;
      before = ltb-true _ _ h.1.1.1.0;
      recent = leb-true _ _ h.1.1.1.1.0;
    }

pub cell-inside : (p g : ℕ) (l : Label) → in_window p g l ≡ true → cell_of p g l ≡ 4 * (g - 1 - l.key.day) + (l.key.type - 17)
unfolding cell_of
cell-inside p g l e = rw e

pub cell-outside : (p g : ℕ) (l : Label) → in_window p g l ≡ false → cell_of p g l ≡ 120
unfolding cell_of
cell-outside p g l e = rw e

-- the cell of an entry from its figures, tested one after the other
pub cell_other : (p g : ℕ) (l : Label) {q : ℕ} → q ≡ l.key.party → (q ≡ p → ⊥) → 120 ≡ cell_of p g l
unfolding cell_of
cell_other p g l e n = sym (rw (ne_eqb l.key.party p (λ o. n (e ∙ o))))

abbrev pub counts : ℕ → ℕ → Bool → ℕ → Bool
counts g s m d = eqb s 0 && m && ltb d g && leb g (d + 30)

-- the figures that were read, of an entry of the party
pub record Read (p : ℕ) (l : Label) (t d s : ℕ) (m : Bool) : Type 0 where
  pub party : l.key.party ≡ p
  pub type : t ≡ l.key.type
  pub day : d ≡ l.key.day
  pub status : s ≡ l.status
  pub money : m ≡ is_money t

module _ {p : ℕ} (g : ℕ) {l : Label} {t d s : ℕ} {m : Bool} (r : Read p l t d s m) where
  counts-inside : counts g s m d ≡ in_window p g l
  counts-inside = rw (r.money, r.status, r.type, r.day, eq-eqb l.key.party p r.party)

  pub figures-inside : counts g s m d ≡ true → (17 ≤ t) × (t ≤ 20) × (d < g) × (g ≤ d + 30)
  figures-inside f = let i = inside p g l (sym counts-inside ∙ f) in omega arith

  pub cell-below : counts g s m d ≡ true → 4 * (g - 1 - d) + (t - 17) < 120
  cell-below f = let i = figures-inside f in omega arith

  pub cell-is : counts g s m d ≡ true → 4 * (g - 1 - d) + (t - 17) ≡ cell_of p g l
  cell-is f = rw (r.day, r.type) (sym (cell-inside p g l (sym counts-inside ∙ f)))

  pub cell-none : counts g s m d ≡ false → 120 ≡ cell_of p g l
  cell-none f = sym (cell-outside p g l (sym counts-inside ∙ f))

-- cell 4 × i + j is that of the entries of day g − (i + 1) and type 17 + j
module _ (p g i j : ℕ) (hi : i < 30) (hg : i < g) (hj : j < 4) (l : Label) where
  cell_of-counted : CountsFor p (g - (i + 1)) (17 + j) l → cell_of p g l ≡ 4 * i + j
  cell_of-counted c =
      let e : in_window p g l ≡ true =
      rw (eq-eqb _ _ c.standing, eq-eqb _ _ c.party, le-leb 17 l.key.type (omega arith), le-leb l.key.type 20 (omega arith), lt-ltb l.key.day g (omega arith), le-leb g (l.key.day + 30) (omega arith)) in
      cell-inside p g l e ∙ omega arith

  counted-in_cell : cell_of p g l ≡ 4 * i + j → every (for_tests p (g - (i + 1)) (17 + j) l) ≡ true
  counted-in_cell e = elim (bool_cases (in_window p g l)) [ inl w ↦ within w | inr w ↦ absurd (omega (arith, cell-outside p g l w)) ]
    where
      within : in_window p g l ≡ true → every (for_tests p (g - (i + 1)) (17 + j) l) ≡ true
      within w =
          let f = inside p g l w in
          let c = cell-inside p g l w in
          let d : l.key.day ≡ g - (i + 1) = omega arith in
          let t : l.key.type ≡ 17 + j = omega arith in
          rw (eq-eqb _ _ f.status, eq-eqb _ _ f.party, eq-eqb _ _ d, eq-eqb _ _ t, ne_eqb l.key.type 6 (λ x. omega arith))

-- an entry goes to one cell, with an amount of money
pub window-limited : (p g : ℕ) → Limited (window_cells p g) most_money
window-limited p g = record { apart-at = λ l. one_apart (ltb (cell_of p g l) 120) (cell_of p g l); amount = λ r j l e. (legal-bounds r l).amount }

pub window-cell : (p g i j : ℕ) → i < 30 → i < g → j < 4 → (rs : List Record) →
    get_or (window_of p g rs) (4 * i + j) 0 ≡ sum_of p (g - (i + 1)) (17 + j) rs
unfolding window_of sum_of counted
window-cell p g i j hi hg hj rs =
    let d : ℕ = g - (i + 1) in
    cell-tested (window_cells p g) most_money (window-limited p g) 120 (4 * i + j) (omega arith) (λ l. every (for_tests p d (17 + j) l))
    (λ l e. counted-in_cell p g i j hi hg hj l (goes_one (ltb (cell_of p g l) 120) _ _ e).1)
    (λ l e.
    let c = cell_of-counted p g i j hi hg hj l (counts-for p d (17 + j) l e) in
    one-goes (ltb (cell_of p g l) 120) _ _ (lt-ltb (cell_of p g l) 120 (omega arith)) c) rs

-- debts look at the days before g only, as many as the window has, and at money alone
debts-cong : (f h : Money) (n g a b : ℕ) → ((d t : ℕ) → d < g → g ≤ d + n → 17 ≤ t → t ≤ 20 → f d t ≡ h d t) →
    debts f n g a b ≡ debts h n g a b
unfolding debts debt_of
debts-cong f h zero g a b q = refl
debts-cong f h (suc n) zero a b q = refl
debts-cong f h (suc n) (suc d) a b q =
    let e : (t : ℕ) → 17 ≤ t → t ≤ 20 → f d t ≡ h d t = λ t lo hi. q d t (omega arith) (omega arith) lo hi in
    let x : ℕ = left_after a (h d 17) (h d 18) in
    let y : ℕ = left_after b (h d 19) (h d 20) in
    rw (e 17 (omega arith) (omega arith), e 18 (omega arith) (omega arith), e 19 (omega arith) (omega arith), e 20 (omega arith) (omega arith))
    (ap (λ z. owed (chosen a (h d 17) (h d 18)) (chosen b (h d 19) (h d 20)) (h d 17) (h d 18) (h d 19) (h d 20) + z)
    (debts-cong f h n d x y (λ day t before recent. q day t (omega arith) (omega arith))))

pub window-debts : (p g k : ℕ) (rs : List Record) → debts (money_in (window_of p g rs) g) 30 g k k ≡ debts (money_of p rs) 30 g k k
window-debts p g k rs = debts-cong _ _ 30 g k k same
  where
    same : (d t : ℕ) → d < g → g ≤ d + 30 → 17 ≤ t → t ≤ 20 → money_in (window_of p g rs) g d t ≡ sum_of p d t rs
    same d t before recent lo hi =
        let day : g - (g - 1 - d + 1) ≡ d = omega arith in
        let type : 17 + (t - 17) ≡ t = omega arith in
        rw (day, type) at (window-cell p g (g - 1 - d) (t - 17) (omega arith) (omega arith) (omega arith) rs)

-- the day of an entry's words
pub day-bits : (ws : List ℕ) → (key (decode ws)).day < 268435456
unfolding decode
day-bits ws = omega arith
