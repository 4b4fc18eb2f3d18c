-- The order of sums and balances over two lists of records alike but for amounts (01, 'Demand 3 and its ledger'). Assumes nothing.
use mathlib.Core.Path.{◌≡◌, refl, sym, ap₂, ◌∙◌}
use mathlib.Core.Logic.{inl, inr}
use mathlib.Core.Bool.{Bool, true, not, cond, false≢true}
use mathlib.Core.List.{List, [], ◌∷◌}
use Prim.Native.Nat.{ℕ, ◌+◌, ◌*◌, max, ◌≤◌, zero-le}
use native.Mathlib.Nat.{zero-add, add-le-add, mul-le-mul_left, mul-le-mul_right, max-le, le-max_left, le-max_right, le_trans}
use native.Mathlib.Omega.{arith}
use lib.Dec.{eqb}
use lib.Signed.{◌≤ℤ◌}
use borrow.Author.Tests.{eqb-true, eq-eqb, ne_eqb}
use Rattle.numbers.specs.Sums.{total}
use Rattle.numbers.specs.Tests.{every, all}
use Rattle.numbers.proofs.TestLaws.{bool_cases, every_holds}
use Rattle.numbers.proofs.SignedLaws.{sub-mono}
use Rattle.numbers.proofs.SumLaws.{total-le-where}
use Rattle.rules.specs.Entry.{Label, Record, key, is_export, bilateral, standing, within}
use Rattle.rules.specs.Balance.{Volume, day_ahead, delivery, counted, counted_to, sum_of, bought_by, tally_of, acquired, sale_types, cover_types, program_used, sale_side, cover_side, balance_of, balance}
use Rattle.rules.specs.Compared.{Each, CoverType, SameLabel, NoWorse, SameWhereNamed, Sum, none, added, passed, IsMoney}
use Rattle.rules.proofs.WordLaws.{within-true}

-- records of equal number have equal keys and statuses
abbrev pub Twins : List Record → List Record → Type 0
Twins rs ss = Each SameLabel rs ss

-- the amount of a record whose label passes a test
abbrev pub picked : (Label → Bool) → Record → ℕ
picked f r = cond (f r.label) r.amount 0

-- a relation that sums keep: no larger, no smaller, equal
pub record Additive (R : ℕ → ℕ → Type 0) : Type 0 where
  pub none : R 0 0
  pub more : {a b c d : ℕ} → R a b → R c d → R (a + c) (b + d)

pub no-larger : Additive (λ m n. n ≤ m)
no-larger = record { none = zero-le; more = λ h k. add-le-add h k }

pub no-smaller : Additive ◌≤◌
no-smaller = record { none = zero-le; more = λ h k. add-le-add h k }

pub no_other : Additive (λ m n. m ≡ n)
no_other = record { none = refl; more = λ h k. ap₂ ◌+◌ h k }

-- sums over twins are related where the amounts picked are
module _ {R : ℕ → ℕ → Type 0} (add : Additive R) (f : Label → Bool) (P : Record → Record → Type 0)
    (step : (r s : Record) → P r s → f r.label ≡ true → R r.amount s.amount) where
  picked-related : (r s : Record) → r.label ≡ s.label → P r s → R (picked f r) (picked f s)
  picked-related r s e p =
      elim (bool_cases (f r.label)) [
        | inl q ↦ rw (← e, q) (step r s p q)
        | inr q ↦ rw (← e, q) add.none
      ]

  pub sums-related : (rs ss : List Record) → Twins rs ss → Each P rs ss → R (total (picked f) rs) (total (picked f) ss)
  unfolding total
  sums-related [] [] tw each = add.none
  sums-related [] (s ∷ ss) tw each = absurd each
  sums-related (r ∷ rs) [] tw each = absurd each
  sums-related (r ∷ rs) (s ∷ ss) tw each =
      add.more
      (picked-related r s tw.0 each.0)
      (sums-related rs ss tw.1 each.1)

-- the tests of `counted` and `counted_to`
abbrev pub for_tests : ℕ → ℕ → ℕ → Label → List Bool
for_tests p d t l =
    eqb l.status standing
    ∷ eqb l.key.party p
    ∷ eqb l.key.day d
    ∷ eqb l.key.type t
    ∷ not (is_export l.key)
    ∷ []

abbrev pub to_tests : ℕ → ℕ → Label → List Bool
to_tests p d l =
    eqb l.status standing
    ∷ eqb l.key.counterparty p
    ∷ eqb l.key.day d
    ∷ eqb l.key.type bilateral
    ∷ []

pub record CountsFor (p d t : ℕ) (l : Label) : Type 0 where
  pub standing : l.status ≡ 0
  pub party : l.key.party ≡ p
  pub day : l.key.day ≡ d
  pub type : l.key.type ≡ t

pub record CountsTo (p d : ℕ) (l : Label) : Type 0 where
  pub standing : l.status ≡ 0
  pub counterparty : l.key.counterparty ≡ p
  pub day : l.key.day ≡ d
  pub type : l.key.type ≡ 6

pub counts-for : (p d t : ℕ) (l : Label) → every (for_tests p d t l) ≡ true → CountsFor p d t l
counts-for p d t l e =
    let h = every_holds (for_tests p d t l) e in
    record {
      standing = eqb-true _ _ h.0;
      party = eqb-true _ _ h.1.0;
      day = eqb-true _ _ h.1.1.0;
      type = eqb-true _ _ h.1.1.1.0;
    }

pub counts-to : (p d : ℕ) (l : Label) → every (to_tests p d l) ≡ true → CountsTo p d l
counts-to p d l e =
    let h = every_holds (to_tests p d l) e in
    record {
      standing = eqb-true _ _ h.0;
      counterparty = eqb-true _ _ h.1.0;
      day = eqb-true _ _ h.1.1.0;
      type = eqb-true _ _ h.1.1.1.0;
    }

-- the sums over twins are related where the amounts that count are
module _ {R : ℕ → ℕ → Type 0} (add : Additive R) (P : Record → Record → Type 0) (rs ss : List Record) (tw : Twins rs ss) (each : Each P rs ss) where
  sum-related : (p d t : ℕ) → ((r s : Record) → P r s → CountsFor p d t r.label → R r.amount s.amount) →
      R (sum_of p d t rs) (sum_of p d t ss)
  unfolding sum_of counted
  sum-related p d t h =
      sums-related add (λ l. every (for_tests p d t l)) P (λ r s q e. h r s q (counts-for p d t r.label e)) rs ss tw each

  bought-related : (p d : ℕ) → ((r s : Record) → P r s → CountsTo p d r.label → R r.amount s.amount) →
      R (bought_by p d rs) (bought_by p d ss)
  unfolding bought_by counted_to
  bought-related p d h =
      sums-related add (λ l. every (to_tests p d l)) P (λ r s q e. h r s q (counts-to p d r.label e)) rs ss tw each

-- the two sides of a balance as sums over records
pub sale-sums : (v : Volume) (p d : ℕ) (rs : List Record) → sale_side v (tally_of p d rs) ≡ total (λ t. sum_of p d t rs) (sale_types v)
unfolding sale_side tally_of total
sale-sums delivery p d rs = refl
sale-sums day_ahead p d rs = refl

pub cover-sums : (v : Volume) (p d B : ℕ) (rs : List Record) →
    cover_side v (tally_of p d rs) B ≡ total (λ t. sum_of p d t rs) (cover_types v) + program_used v (tally_of p d rs) + (B + max (sum_of p d 15 rs) (sum_of p d 16 rs))
unfolding cover_side tally_of acquired total
cover-sums delivery p d B rs = refl
cover-sums day_ahead p d B rs = refl

pub program-delivery : (p d : ℕ) (rs : List Record) → program_used delivery (tally_of p d rs) ≡ max (sum_of p d 12 rs) (sum_of p d 22 rs)
unfolding program_used tally_of
program-delivery p d rs = refl

pub program-ahead : (p d : ℕ) (rs : List Record) → program_used day_ahead (tally_of p d rs) ≡ sum_of p d 12 rs
unfolding program_used tally_of
program-ahead p d rs = refl

pub sale-range : (v : Volume) → all (within 1 6) (sale_types v) ≡ true
unfolding all
sale-range delivery = refl
sale-range day_ahead = refl

pub cover-range : (v : Volume) → all (within 7 14) (cover_types v) ≡ true
unfolding all
cover-range delivery = refl
cover-range day_ahead = refl

-- sales no larger, cover no smaller
module _ (p d : ℕ) (rs ss : List Record) (tw : Twins rs ss) (each : Each (NoWorse p d) rs ss) where
  pub lower-sales : (t : ℕ) → 1 ≤ t → t ≤ 6 → sum_of p d t ss ≤ sum_of p d t rs
  lower-sales t low high =
      sum-related no-larger (NoWorse p d) rs ss tw each p d t
      λ r s q c. q.0 c.standing (c.party, c.day, omega arith, omega arith)

  pub higher-cover : (t : ℕ) → CoverType t → sum_of p d t rs ≤ sum_of p d t ss
  higher-cover t h =
      sum-related no-smaller (NoWorse p d) rs ss tw each p d t
      λ r s q c. q.1 c.standing (inl (c.party, c.day, rw c.type h))

  pub higher-bought : bought_by p d rs ≤ bought_by p d ss
  higher-bought =
      bought-related no-smaller (NoWorse p d) rs ss tw each p d
      λ r s q c. q.1 c.standing (inr (c.type, c.counterparty, c.day))

  lower-sale_side : (v : Volume) → sale_side v (tally_of p d ss) ≤ sale_side v (tally_of p d rs)
  lower-sale_side v =
      rw (sale-sums v p d ss, sale-sums v p d rs)
      (total-le-where (within 1 6) (λ t. sum_of p d t ss) (λ t. sum_of p d t rs) (λ t e. let (a, b) = within-true 1 6 t e in lower-sales t a b) (sale_types v) (sale-range v))

  higher-program : (v : Volume) → program_used v (tally_of p d rs) ≤ program_used v (tally_of p d ss)
  higher-program delivery =
      omega (arith, program-delivery p d rs, program-delivery p d ss, higher-cover 12 (inl (omega arith)), higher-cover 22 (inr refl))
  higher-program day_ahead = omega (arith, program-ahead p d rs, program-ahead p d ss, higher-cover 12 (inl (omega arith)))

  higher-cover_side : (v : Volume) → cover_side v (tally_of p d rs) (bought_by p d rs) ≤ cover_side v (tally_of p d ss) (bought_by p d ss)
  higher-cover_side v =
      let low : total (λ t. sum_of p d t rs) (cover_types v) ≤ total (λ t. sum_of p d t ss) (cover_types v) =
      total-le-where (within 7 14) (λ t. sum_of p d t rs) (λ t. sum_of p d t ss)
      (λ t e. let (a, b) = within-true 7 14 t e in higher-cover t (inl (omega arith))) (cover_types v) (cover-range v) in
      omega (
        arith,
        cover-sums v p d (bought_by p d rs) rs,
        cover-sums v p d (bought_by p d ss) ss,
        higher-program v,
        higher-bought,
        higher-cover 15 (inl (omega arith)),
        higher-cover 16 (inl (omega arith)),
      )

  pub lower-balance : (v : Volume) (R TM : ℕ) → balance v R TM p d ss ≤ℤ balance v R TM p d rs
  unfolding balance balance_of
  lower-balance v R TM =
      sub-mono
      (mul-le-mul_left 100 (lower-sale_side v))
      (max-le (le-max_left _ _) (le_trans (mul-le-mul_right R (higher-cover_side v)) (le-max_right (100 * TM) _)))

-- no standing record that names the party differs
module _ (p : ℕ) (rs ss : List Record) (tw : Twins rs ss) (each : Each (SameWhereNamed p) rs ss) where
  pub same-sums : (d t : ℕ) → sum_of p d t rs ≡ sum_of p d t ss
  same-sums d t =
      sum-related no_other (SameWhereNamed p) rs ss tw each p d t λ r s q c. q c.standing (inl c.party)

  pub same-bought : (d : ℕ) → bought_by p d rs ≡ bought_by p d ss
  same-bought d =
      bought-related no_other (SameWhereNamed p) rs ss tw each p d λ r s q c. q c.standing (inr c.counterparty)

  pub same-tally : (d : ℕ) → tally_of p d rs ≡ tally_of p d ss
  unfolding tally_of
  same-tally d = simp (same-sums d)

  pub equal-balance : (v : Volume) (R TM d : ℕ) → balance v R TM p d rs ≡ balance v R TM p d ss
  unfolding balance
  equal-balance v R TM d = ap₂ (balance_of v R TM) (same-tally d) (same-bought d)

-- the sums of money of the claim are the definitions' sums
money-tests : (p d t : ℕ) (r : Record) → 17 ≤ t → IsMoney p d t r → every (for_tests p d t r.label) ≡ true
money-tests p d t r h m =
    rw (
      eq-eqb _ _ m.0,
      eq-eqb _ _ m.1,
      eq-eqb _ _ m.2,
      eq-eqb _ _ m.3,
      ne_eqb (key r).type 6 λ e. omega (arith, m.3),
    )

pub sum_of-money : (p d t : ℕ) → 17 ≤ t → (rs : List Record) → Sum (IsMoney p d t) rs (sum_of p d t rs)
unfolding sum_of total counted
sum_of-money p d t h [] = none
sum_of-money p d t h (r ∷ rs) =
    elim (bool_cases (every (for_tests p d t r.label))) [
      | inl e ↦
          let c = counts-for p d t r.label e in
          rw e (added (c.standing, c.party, c.day, c.type) (sum_of-money p d t h rs))
      | inr e ↦ rw (e, zero-add) (passed (λ m. false≢true (sym e ∙ money-tests p d t r h m)) (sum_of-money p d t h rs))
    ]

one-sum : {P : Record → Type 0} {rs : List Record} {m n : ℕ} → Sum P rs m → Sum P rs n → m ≡ n
one-sum none none = refl
one-sum (added p x) (added q y) = ap₂ ◌+◌ refl (one-sum x y)
one-sum (added p x) (passed q y) = absurd (q p)
one-sum (passed p x) (added q y) = absurd (p q)
one-sum (passed p x) (passed q y) = one-sum x y

pub money-is-sum : (p d t : ℕ) → 17 ≤ t → (rs : List Record) (n : ℕ) → Sum (IsMoney p d t) rs n → n ≡ sum_of p d t rs
money-is-sum p d t h rs n s = one-sum s (sum_of-money p d t h rs)
