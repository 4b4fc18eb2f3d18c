-- What the cells of the day's table hold: of each party what its day-ahead balance reads. Assumes nothing.
use mathlib.Core.Path.{◌≡◌, refl, sym, ap, ap₂, ◌∙◌}
use mathlib.Core.Logic.{◌⊎◌, inl, inr}
use mathlib.Core.Bool.{Bool, true, false, not, cond, ◌&&◌, ◌||◌, true≢false}
use mathlib.Core.List.{List, [], ◌∷◌}
use Prim.Native.Nat.{ℕ, zero, suc, ◌+◌, ◌*◌, ◌/◌, ◌%◌, ◌^◌, ◌≤◌, ◌<◌, max, zero-le}
use native.Mathlib.Nat.{add-zero, le_refl}
use native.Mathlib.Omega.{arith}
use lib.Dec.{eqb, ltb}
use lib.IntN.{sub_ℕ}
use lib.ListN.{get_or, set}
use lib.Seq.{set-get_or}
use borrow.Author.Tests.{eqb-true, eqb-false, eq-eqb, ne_eqb, ltb-true, not-true}
use Rattle.numbers.specs.Sums.{total}
use Rattle.numbers.specs.Tests.{every, all, any, all_below}
use Rattle.numbers.proofs.TestLaws.{bool_cases, and_split, and-join, or_cases, or_left, or_right, every_holds, all_below-at, below-or-above}
use Rattle.numbers.proofs.SumLaws.{cond-limit, total-cong, total-plus, total-none, total-exchange}
use Rattle.rules.specs.Entry.{Label, Record, key, legal, is_export, is_volume, bilateral, standing, last_party, most_volume}
use Rattle.rules.specs.Balance.{day_ahead, sale_types, cover_types, counted, counted_to, sum_of, bought_by, tally_of, sale_side, cover_side, acquired, program_used, balance_of, balance}
use Rattle.rules.proofs.WordLaws.{legal-bounds}
use Rattle.rules.proofs.Limits.{legal-amount, volume-limit}
use Rattle.rules.proofs.SumOrder.{for_tests, to_tests, counts-for, counts-to}
use Rattle.cells.specs.Cells.{one_if, add_to, add_to_each, added, goes_to, in_cell, apart, Limited, AtMost}
use Rattle.cells.proofs.CellLaws.{same_test, to-first, to-later, to-either, to_none, goes_one, one-goes, cell-sum}
use Rattle.balance_formulas.specs.Bounded.{most_sum}
use Rattle.detection.specs.Tables.{last_type, is_cover_type, is_read_type, party_cells, table_cells, cover_place, side_of, cell_of, is_read, own_amount, day_cells, table_of, ahead_at}

-- two tests alike, as a test
abbrev same : Bool → Bool → Bool
same true b = b
same false b = not b

same_bool : (a b : Bool) → same a b ≡ true → a ≡ b
same_bool true b e = sym e
same_bool false b e = sym (not-true b e)

-- the types of each cell of a party
abbrev types_at : ℕ → List ℕ
types_at side = get_or (sale_types day_ahead ∷ (12 ∷ cover_types day_ahead) ∷ (15 ∷ []) ∷ (16 ∷ []) ∷ []) side []

abbrev in_types : ℕ → ℕ → Bool
in_types t side = any (eqb t) (types_at side)

-- gone through type by type; one above 16 is not read
side-below : (t side : ℕ) → t < 17 → side < party_cells → is_read_type t && eqb (side_of t) side ≡ in_types t side
unfolding is_read_type side_of any all_below
side-below t side h k =
    same_bool _ _
    (all_below-at party_cells (λ s. same (is_read_type t && eqb (side_of t) s) (in_types t s))
    (all_below-at 17 (λ u. all_below party_cells (λ s. same (is_read_type u && eqb (side_of u) s) (in_types u s))) refl t h) side k)

module _ (t : ℕ) (h : 17 ≤ t) where
  no : (k : ℕ) → ltb k 17 ≡ true → eqb t k ≡ false
  no k l = ne_eqb t k (λ e. omega (arith, ltb-true k 17 l))

  not-read-above : is_read_type t ≡ false
  unfolding is_read_type
  not-read-above =
      rw (no 1 refl, no 3 refl, no 4 refl, no 6 refl, no 7 refl, no 9 refl, no 10 refl, no 12 refl, no 13 refl, no 14 refl, no 15 refl, no 16 refl)

  -- a list of types below 17
  none_in : (ts : List ℕ) → all (λ k. ltb k 17) ts ≡ true → any (eqb t) ts ≡ false
  unfolding any all
  none_in [] e = refl
  none_in (k ∷ ks) e = let s = and_split (ltb k 17) (all (λ j. ltb j 17) ks) e in rw (no k s.0) (none_in ks s.1)

types-low : (side : ℕ) → side < party_cells → (all (λ k. ltb k 17) (types_at side) ≡ true) × (apart (types_at side) ≡ true)
unfolding all_below all apart any
types-low side h =
    and_split _ _ (all_below-at party_cells (λ s. all (λ k. ltb k 17) (types_at s) && apart (types_at s)) refl side h)

side-types : (t side : ℕ) → side < party_cells → is_read_type t && eqb (side_of t) side ≡ in_types t side
side-types t side h =
    elim (below-or-above t 17) [
      | inl l ↦ side-below t side l h
      | inr l ↦ rw (not-read-above t l, none_in t l (types_at side) (types-low side h).0)
    ]

-- a type that is read is a volume's, and a bilateral sale is on the sale side
read-volume : (t : ℕ) → is_read_type t ≡ true → is_volume t ≡ true
unfolding is_read_type all_below
read-volume t h =
    elim (below-or-above t 17) [
      | inl l ↦ or-true h (all_below-at 17 (λ u. not (is_read_type u) || is_volume u) refl t l)
      | inr l ↦ absurd (true≢false (sym h ∙ not-read-above t l))
    ]
  where
    or-true : {b c : Bool} → b ≡ true → not b || c ≡ true → c ≡ true
    or-true e q = rw e at q

sold-side : {t : ℕ} → t ≡ bilateral → side_of t ≡ 0
unfolding side_of
sold-side e = rw e

sold-read-type : {t : ℕ} → t ≡ bilateral → is_read_type t ≡ true
unfolding is_read_type
sold-read-type e = rw e

-- the code's bits of each type
abbrev read_types : ℕ
read_types = 128730

abbrev sides : ℕ
sides = 15386034176

pub read-bit : (t : ℕ) → t ≤ last_type → eqb (read_types / 2 ^ t % 2) 1 ≡ is_read_type t
unfolding is_read_type all_below
read-bit t h = same_bool _ _ (all_below-at 23 (λ u. same (eqb (read_types / 2 ^ u % 2) 1) (is_read_type u)) refl t (omega arith))

pub side-bits : (t : ℕ) → t ≤ last_type → sides / 2 ^ (2 * t) % 4 ≡ side_of t
unfolding side_of all_below
side-bits t h = eqb-true _ _ (all_below-at 23 (λ u. eqb (sides / 2 ^ (2 * u) % 4) (side_of u)) refl t (omega arith))

pub side-few : (t : ℕ) → side_of t < party_cells
unfolding side_of
side-few t = cond-few (is_cover_type t) (omega arith) (cond-few (eqb t 15) (omega arith) (cond-few (eqb t 16) (omega arith) (omega arith)))
  where
    cond-few : (b : Bool) {x y : ℕ} → x < party_cells → y < party_cells → cond b x y < party_cells
    cond-few true h k = h
    cond-few false h k = k

-- an entry that is read, as facts
pub record Read (d : ℕ) (l : Label) : Type 0 where
  pub stands : l.status ≡ 0
  pub day : l.key.day ≡ d
  pub read : is_read_type l.key.type ≡ true
  pub no-export : is_export l.key ≡ false

module _ (d : ℕ) (l : Label) where
  abbrev read_tests : List Bool
  read_tests = eqb l.status standing ∷ eqb l.key.day d ∷ is_read_type l.key.type ∷ not (is_export l.key) ∷ []

  read-facts : is_read d l ≡ true → Read d l
  unfolding is_read
  read-facts e =
      let h = every_holds read_tests e in
      record { stands = eqb-true _ _ h.0; day = eqb-true _ _ h.1.0; read = h.1.1.0; no-export = not-true _ h.1.1.1.0 }

  facts-read : Read d l → is_read d l ≡ true
  unfolding is_read
  facts-read f = rw (eq-eqb l.status 0 f.stands, eq-eqb l.key.day d f.day, f.read, f.no-export)

read-amount : (d : ℕ) (r : Record) → legal r ≡ true → Read d r.label → r.amount ≤ most_volume
read-amount d r l f = rw (volume-limit (key r).type (read-volume (key r).type f.read)) at (legal-amount r l)

-- an amount more in a cell: nothing, and what a cell then has at most
add_nothing : (table : List ℕ) (i a : ℕ) → a ≡ 0 → add_to table i a ≡ table
add_nothing table i a e = ap (λ n. set table i n) (omega arith) ∙ set-get_or table i 0

add_most : (table : List ℕ) (k i a : ℕ) → get_or (add_to table k a) i 0 ≤ get_or table i 0 + a
add_most [] k i a = zero-le
add_most (x ∷ xs) zero zero a = le_refl _
add_most (x ∷ xs) zero (suc i) a = omega arith
add_most (x ∷ xs) (suc k) zero a = omega arith
add_most (x ∷ xs) (suc k) (suc i) a = add_most xs k i a

-- one entry, as the code adds it: 0 where it is not read, and to the counterparty's cover 0 where it is no bilateral sale
pub own-is : (d : ℕ) (r : Record) {b : Bool} {a : ℕ} → b ≡ is_read d r.label → a ≡ cond b r.amount 0 → a ≡ own_amount d r
unfolding own_amount
own-is d r e q = rw e at q

pub type-most : (r : Record) → legal r ≡ true → (key r).type ≤ last_type
type-most r l = (legal-bounds r l).type

pub record Adds (r : Record) (a s : ℕ) : Type 0 where
  pub party : (key r).party ≤ last_party
  pub counterparty : (key r).counterparty ≤ last_party
  pub own : a ≤ most_volume
  pub sold : s ≤ most_volume

pub adds : (d : ℕ) (r : Record) {a s : ℕ} → legal r ≡ true → a ≡ own_amount d r → s ≡ cond (eqb (key r).type bilateral) a 0 → Adds r a s
unfolding own_amount
adds d r {a} l e q =
    let f = legal-bounds r l in
    let h : a ≤ most_volume = rw e (cond-limit (is_read d r.label) (λ y. read-amount d r l (read-facts d r.label y)) (λ n. zero-le)) in
    record { party = f.party; counterparty = f.counterparty; own = h; sold = rw q (cond-limit (eqb (key r).type bilateral) (λ y. h) (λ n. zero-le)) }

module _ (table : List ℕ) (w : AtMost most_sum table) where
  pub add-fits : (i a : ℕ) → i < table_cells → a ≤ most_volume → (i < table_cells) × (get_or table i 0 + a < 18446744073709551616)
  add-fits i a h l = omega (arith, w.at_most i)

  pub add-fits-again : {then : List ℕ} (k x i a : ℕ) → then ≡ add_to table k x → x ≤ most_volume → i < table_cells → a ≤ most_volume →
      (i < table_cells) × (get_or then i 0 + a < 18446744073709551616)
  add-fits-again k x i a e y h l = rw e (omega (arith, w.at_most i, add_most table k i x))

pub added_is : (d : ℕ) (r : Record) (table : List ℕ) {then last : List ℕ} {side a s : ℕ} → side ≡ side_of (key r).type → a ≡ own_amount d r → s ≡ cond (eqb (key r).type bilateral) a 0 →
    then ≡ add_to table (cell_of (key r).party side) a → last ≡ add_to then (cell_of (key r).counterparty cover_place) s → last ≡ added (day_cells d) r table
unfolding added add_to_each own_amount
added_is d r table k e q t l = l ∙ rw (t, q, e, k) (go (is_read d r.label) (eqb (key r).type bilateral))
  where
    go : (b s : Bool) →
        add_to (add_to table (cell_of (key r).party (side_of (key r).type)) (cond b r.amount 0)) (cell_of (key r).counterparty cover_place) (cond s (cond b r.amount 0) 0)
        ≡ add_to_each table (cond b (cell_of (key r).party (side_of (key r).type) ∷ one_if s (cell_of (key r).counterparty cover_place)) []) r.amount
    go true true = refl
    go true false = add_nothing _ _ _ refl
    go false true = add_nothing _ _ _ refl ∙ add_nothing _ _ _ refl
    go false false = add_nothing _ _ _ refl ∙ add_nothing _ _ _ refl

-- the cells of an entry
module _ (d : ℕ) (l : Label) where
  abbrev sold : Bool
  sold = eqb l.key.type 6

  goes : (j : ℕ) → goes_to (day_cells d) j l ≡ true →
      Read d l × ((cell_of l.key.party (side_of l.key.type) ≡ j) ⊎ ((l.key.type ≡ 6) × (cell_of l.key.counterparty cover_place ≡ j)))
  goes j e =
      elim (bool_cases (is_read d l)) [
        | inl c ↦ (
          read-facts d l c,
          elim (to-either j _ _ (rw c at e)) [
            | inl q ↦ inl q
            | inr q ↦ let g = goes_one sold j (cell_of l.key.counterparty cover_place) q in inr (eqb-true _ _ g.0, g.1)
          ],
        )
        | inr c ↦ absurd (to_none j (rw c at e))
      ]

  goes-own : (j : ℕ) → Read d l → cell_of l.key.party (side_of l.key.type) ≡ j → goes_to (day_cells d) j l ≡ true
  goes-own j c q = rw (facts-read d l c) (to-first j _ _ q)

  goes-bought : (j : ℕ) → Read d l → l.key.type ≡ 6 → cell_of l.key.counterparty cover_place ≡ j → goes_to (day_cells d) j l ≡ true
  goes-bought j c t q = rw (facts-read d l c) (to-later j _ _ (one-goes sold j _ (eq-eqb _ 6 t) q))

  day-apart : apart (day_cells d l) ≡ true
  unfolding apart any
  day-apart =
      elim (bool_cases (is_read d l)) [
        | inl c ↦ rw c (two (cell_of l.key.party (side_of l.key.type)) (cell_of l.key.counterparty cover_place) sold (λ b q. let s = sold-side (eqb-true l.key.type 6 b) in omega arith))
        | inr c ↦ rw c
      ]
    where
      two : (i j : ℕ) (b : Bool) → (b ≡ true → i ≡ j → ⊥) → apart (i ∷ one_if b j) ≡ true
      two i j true n = rw (ne_eqb i j (n refl))
      two i j false n = refl

pub day-limited : (d : ℕ) → Limited (day_cells d) most_volume
day-limited d = record { apart-at = day-apart d; amount = λ r j l e. read-amount d r l (goes d r.label j e).0 }

-- of several types a record counts in one at most
module _ (p d : ℕ) (r : Record) where
  counted-not : (t : ℕ) → eqb (key r).type t ≡ false → counted p d t r ≡ 0
  unfolding counted
  counted-not t e =
      elim (bool_cases (every (for_tests p d t r.label))) [
        | inl q ↦ absurd (eqb-false (key r).type t e (counts-for p d t r.label q).type)
        | inr q ↦ rw q
      ]

  counted-in : (ts : List ℕ) → apart ts ≡ true → total (λ t. counted p d t r) ts ≡ cond (any (eqb (key r).type) ts) (counted p d (key r).type r) 0
  unfolding total any apart
  counted-in [] a = refl
  counted-in (t ∷ ts) a =
      let s = and_split (not (any (eqb t) ts)) (apart ts) a in
      let ih = counted-in ts s.1 in
      elim (bool_cases (eqb (key r).type t)) [
        | inl e ↦
            let q : (key r).type ≡ t = eqb-true _ _ e in
            let n : any (eqb (key r).type) ts ≡ false = rw q (not-true _ s.0) in
            rw e (ap₂ ◌+◌ (ap (λ k. counted p d k r) (sym q)) (rw n at ih) ∙ add-zero (counted p d (key r).type r))
        | inr e ↦ rw (counted-not t e, e) (omega (arith, ih))
      ]

-- what an entry adds to a party's cell: of its own what counts in one of the cell's types, of others' what they sold to it
module _ (p d side : ℕ) (low : 1 ≤ p) (k : side < party_cells) (l : Label) where
  abbrev own_tests : Bool
  own_tests = in_types l.key.type side && every (for_tests p d l.key.type l)

  abbrev sold_tests : Bool
  sold_tests = eqb side cover_place && every (to_tests p d l)

  own-facts : own_tests ≡ true → Read d l × (cell_of l.key.party (side_of l.key.type) ≡ cell_of p side)
  own-facts e =
      let s = and_split (in_types l.key.type side) _ e in
      let c = counts-for p d l.key.type l s.1 in
      let t = and_split (is_read_type l.key.type) (eqb (side_of l.key.type) side) (side-types l.key.type side k ∙ s.0) in
      let q : side_of l.key.type ≡ side = eqb-true _ _ t.1 in (
        record { stands = c.standing; day = c.day; read = t.0; no-export = not-true _ (every_holds (for_tests p d l.key.type l) s.1).1.1.1.1.0 },
        rw (c.party, q),
      )

  sold-facts : sold_tests ≡ true → Read d l × (l.key.type ≡ 6) × (cell_of l.key.counterparty cover_place ≡ cell_of p side)
  sold-facts e =
      let s = and_split (eqb side cover_place) _ e in
      let c = counts-to p d l s.1 in
      let q : side ≡ cover_place = eqb-true _ _ s.0 in (
        record {
          stands = c.standing;
          day = c.day;
          read = sold-read-type c.type;
          no-export = rw (ne_eqb l.key.counterparty 0 (λ z. omega arith), c.type);
        },
        c.type,
        rw (c.counterparty, q),
      )

  goes-where : goes_to (day_cells d) (cell_of p side) l ≡ own_tests || sold_tests
  goes-where = same_test there back
    where
      there : goes_to (day_cells d) (cell_of p side) l ≡ true → own_tests || sold_tests ≡ true
      there e =
          let g = goes d l (cell_of p side) e in
          let f = g.0 in
          elim g.1 [
            | inl q ↦
                let few = side-few l.key.type in
                let s : side_of l.key.type ≡ side = omega arith in
                or_left own_tests _ (and-join _ _ (sym (side-types l.key.type side k) ∙ and-join _ _ f.read (eq-eqb _ _ s))
                (rw (eq-eqb l.status 0 f.stands, eq-eqb l.key.party p (omega arith), eq-eqb l.key.day d f.day, eq-eqb l.key.type l.key.type refl, f.no-export)))
            | inr q ↦
                or_right own_tests _ (and-join _ _ (eq-eqb side cover_place (omega arith))
                (rw (eq-eqb l.status 0 f.stands, eq-eqb l.key.counterparty p (omega arith), eq-eqb l.key.day d f.day, eq-eqb l.key.type 6 q.0)))
          ]

      back : own_tests || sold_tests ≡ true → goes_to (day_cells d) (cell_of p side) l ≡ true
      back e =
          elim (or_cases own_tests sold_tests e) [
            | inl q ↦ let f = own-facts q in goes-own d l (cell_of p side) f.0 f.1
            | inr q ↦ let f = sold-facts q in goes-bought d l (cell_of p side) f.0 f.1 f.2
          ]

  not-both : own_tests ≡ true → sold_tests ≡ true → ⊥
  not-both e q =
      let f = sold-facts q in
      let s = own-facts e in
      let z = sold-side f.1 in
      let o = eqb-true side cover_place (and_split (eqb side cover_place) _ q).0 in
      let few = side-few l.key.type in
      omega (arith, s.1)

cond-or : (a b : Bool) (x : ℕ) → (a ≡ true → b ≡ true → ⊥) → cond (a || b) x 0 ≡ cond a x 0 + cond b x 0
cond-or true true x n = absurd (n refl refl)
cond-or true false x n = sym (add-zero x)
cond-or false b x n = omega arith

cond-and : (a b : Bool) (x : ℕ) → cond (a && b) x 0 ≡ cond a (cond b x 0) 0
cond-and true b x = refl
cond-and false b x = refl

module _ (p d side : ℕ) (low : 1 ≤ p) (k : side < party_cells) where
  in_cell_lem : (r : Record) → in_cell (day_cells d) (cell_of p side) r ≡ total (λ t. counted p d t r) (types_at side) + cond (eqb side cover_place) (counted_to p d r) 0
  unfolding counted counted_to
  in_cell_lem r =
      let l = r.label in
      ap (λ b. cond b r.amount 0) (goes-where p d side low k l)
      ∙ cond-or (own_tests p d side low k l) (sold_tests p d side low k l) r.amount (not-both p d side low k l)
      ∙ ap₂ ◌+◌
      (cond-and (in_types (key r).type side) _ r.amount ∙ sym (counted-in p d r (types_at side) (types-low side k).1))
      (cond-and (eqb side cover_place) _ r.amount)

  pub cell-is : p ≤ last_party → (rs : List Record) → get_or (table_of d rs) (cell_of p side) 0 ≡ total (λ t. sum_of p d t rs) (types_at side) + total (λ r. cond (eqb side cover_place) (counted_to p d r) 0) rs
  unfolding table_of sum_of
  cell-is h rs =
      cell-sum (day_cells d) most_volume (day-limited d) table_cells (cell_of p side) (omega arith) rs
      ∙ total-cong _ _ in_cell_lem rs
      ∙ total-plus (λ r. total (λ t. counted p d t r) (types_at side)) _ rs
      ∙ ap (λ n. n + total (λ r. cond (eqb side cover_place) (counted_to p d r) 0) rs) (total-exchange (λ r t. counted p d t r) rs (types_at side))

-- so a party's cells give its day-ahead balance
module _ (d : ℕ) (rs : List Record) (p : ℕ) (low : 1 ≤ p) (h : p ≤ last_party) where
  sales-are : get_or (table_of d rs) (cell_of p 0) 0 ≡ sale_side day_ahead (tally_of p d rs)
  unfolding sale_side tally_of total
  sales-are = omega (arith, cell-is p d 0 low (omega arith) h rs, total-none rs)

  cover-is : get_or (table_of d rs) (cell_of p cover_place) 0 + max (get_or (table_of d rs) (cell_of p 2) 0) (get_or (table_of d rs) (cell_of p 3) 0) ≡ cover_side day_ahead (tally_of p d rs) (bought_by p d rs)
  unfolding cover_side program_used acquired tally_of bought_by total
  cover-is =
      omega (
        arith,
        cell-is p d cover_place low (omega arith) h rs,
        cell-is p d 2 low (omega arith) h rs,
        cell-is p d 3 low (omega arith) h rs,
        total-none rs,
      )

  pub ahead-is : (R TM : ℕ) → ahead_at R TM (table_of d rs) p ≡ balance day_ahead R TM p d rs
  unfolding ahead_at balance balance_of
  ahead-is R TM = ap₂ (λ s c. sub_ℕ (100 * s) (max (100 * TM) (c * R))) sales-are cover-is
