-- The tally and B of a book's entries, one entry more at a time, by comparing whole words. Assumes nothing.
use mathlib.Core.Path.{◌≡◌, refl, sym, ◌∙◌, ap}
use mathlib.Core.Logic.{inl, inr}
use mathlib.Core.Bool.{Bool, true, false, not, cond, ◌&&◌, true≢false, and-false}
use mathlib.Core.List.{List, [], ◌∷◌, map}
use Prim.Native.Nat.{ℕ, ◌+◌, ◌*◌, ◌%◌, ◌≤◌, ◌<◌}
use native.Mathlib.Nat.{add-zero}
use native.Mathlib.Omega.{arith}
use lib.Dec.{eqb, ltb}
use lib.ListN.{length, get_or}
use lib.Seq.{ext_get_or}
use borrow.Author.Tests.{eqb-true, ltb-true, eqb-false, eq-eqb, ne_eqb, lt-ltb, not-true}
use Rattle.numbers.specs.Sums.{total}
use Rattle.numbers.specs.Tests.{every}
use Rattle.numbers.proofs.TestLaws.{bool_cases, and_split, and-join, every_holds, holds-every}
use Rattle.numbers.proofs.ListLaws.{get_or-map}
use Rattle.rules.specs.Entry.{Key, Label, Record, key, is_volume, is_export, standing, legal, most_volume}
use Rattle.rules.specs.Words.{read_entries, is_book, entries, count_of}
use Rattle.rules.specs.Balance.{counted, counted_to, sum_of, bought_by, tally_of, volume_types, no_tally, sum_count, sum_place}
use Rattle.rules.specs.declared.Tally.{Tally}
use Rattle.rules.specs.declared.PartyDay.{PartyDay}
use Rattle.rules.proofs.SumOrder.{for_tests, to_tests, counts-for, counts-to}
use Rattle.rules.proofs.SumPlaces.{sum-places, type_at, type-at, place_of, one_type}
use Rattle.rules.proofs.Limits.{legal-amount, volume-limit, bought-sum}
use Rattle.entry_words.specs.declared.EntryWords.{EntryWords}
use Rattle.words.specs.Parts.{words_at}
use Rattle.words.proofs.BookCode.{IsRead, is_read_lem, book-entry}
use Rattle.cells.specs.Cells.{added, add_to, add_to_each, over, blank, filled, Limited}
use Rattle.cells.proofs.CellLaws.{same_test, goes_one, one-goes, one_apart, cell-tested, length-filled}
use Rattle.cells.proofs.ScanLaws.{read_to, read_at, total-next, few-to, legal-to, legal-at, table_to, filled_next}
use Rattle.balance_formulas.specs.Bounded.{most_sum, SumsWithin}
use Rattle.tally.specs.Scan.{scanned, counts, own_cells}

-- an entry that counts, as facts
pub record Counts (d : ℕ) (l : Label) : Type 0 where
  pub stands : l.status ≡ 0
  pub day : l.key.day ≡ d
  pub volume : is_volume l.key.type ≡ true
  pub no-export : is_export l.key ≡ false

pub counts-facts : (d : ℕ) (l : Label) → counts d l ≡ true → Counts d l
unfolding counts
counts-facts d l e =
    let h = every_holds (eqb l.status standing ∷ eqb l.key.day d ∷ is_volume l.key.type ∷ not (is_export l.key) ∷ []) e in
    record { stands = eqb-true _ _ h.0; day = eqb-true _ _ h.1.0; volume = h.1.1.0; no-export = not-true _ h.1.1.1.0 }

pub facts-count : (d : ℕ) (l : Label) → Counts d l → counts d l ≡ true
unfolding counts
facts-count d l f = rw (eq-eqb l.status 0 f.stands, eq-eqb l.key.day d f.day, f.volume, f.no-export)

pub counted-amount : (d : ℕ) (r : Record) → legal r ≡ true → Counts d r.label → r.amount ≤ most_volume
counted-amount d r l f = rw (volume-limit (key r).type f.volume) at (legal-amount r l)

-- the entries of a party's sum at a place, and those of the type whose sum stands there
module _ (p d i : ℕ) (h : i < sum_count) (l : Label) where
  pub sum-tests : Counts d l → l.key.party ≡ p → sum_place l.key.type ≡ i → every (for_tests p d (type_at i) l) ≡ true
  sum-tests f ep ei =
      let t : l.key.type ≡ type_at i = one_type sum-places (place_of sum-places l.key.type f.volume) (rw ei (type-at sum-places i h)) in
      rw (eq-eqb l.status 0 f.stands, eq-eqb l.key.party p ep, eq-eqb l.key.day d f.day, eq-eqb l.key.type (type_at i) t, f.no-export)

  pub tests-sum : every (for_tests p d (type_at i) l) ≡ true → Counts d l × (l.key.party ≡ p) × (sum_place l.key.type ≡ i)
  tests-sum e =
      let c = counts-for p d (type_at i) l e in
      let s = type-at sum-places i h in (
        record {
          stands = c.standing;
          day = c.day;
          volume = rw c.type s.is-named;
          no-export = not-true _ (every_holds (for_tests p d (type_at i) l) e).1.1.1.1.0;
        },
        c.party,
        ap sum_place c.type ∙ s.stands_at_lem,
      )

-- sums in the order of their places are a tally
pub tally-of : (p d : ℕ) (rs : List Record) (sums : List ℕ) → length sums ≡ sum_count → ((i : ℕ) → i < sum_count → get_or sums i 0 ≡ sum_of p d (type_at i) rs) →
    ◌≡◌ {A = Tally} (record { party = p; sums = sums }) (tally_of p d rs)
unfolding tally_of
tally-of p d rs sums long e =
    ap (λ s. record { party = p; sums = s })
    (ext_get_or 0 sums (map (λ t. sum_of p d t rs) volume_types) long
    (λ i l. let h : i < sum_count = rw long at l in e i h ∙ sym (get_or-map (λ t. sum_of p d t rs) volume_types i 0 0 h)))

-- the cells of a party
abbrev is_own : ℕ → ℕ → Label → Bool
is_own p d l = eqb l.key.party p && counts d l

module _ (p d : ℕ) where
  pub own-limited : Limited (own_cells p d) most_volume
  own-limited =
      record {
        apart-at = λ l. one_apart (is_own p d l) (sum_place l.key.type);
        amount = λ r j l e.
            let own = (goes_one (is_own p d r.label) j (sum_place (key r).type) e).0 in
            counted-amount d r l (counts-facts d r.label (and_split (eqb (key r).party p) _ own).1);
      }

  own-cell : (rs : List Record) (i : ℕ) → i < sum_count → get_or (filled (own_cells p d) sum_count rs) i 0 ≡ sum_of p d (type_at i) rs
  unfolding sum_of counted
  own-cell rs i h =
      cell-tested (own_cells p d) most_volume own-limited sum_count i h (λ l. every (for_tests p d (type_at i) l))
      (λ l e.
      let g = goes_one (is_own p d l) i (sum_place l.key.type) e in
      let s = and_split (eqb l.key.party p) (counts d l) g.0 in
      sum-tests p d i h l (counts-facts d l s.1) (eqb-true _ _ s.0) g.1)
      (λ l e.
      let f = tests-sum p d i h l e in
      one-goes (is_own p d l) i (sum_place l.key.type) (and-join _ _ (eq-eqb _ p f.1) (facts-count d l f.0)) f.2) rs

  own-tally : (rs : List Record) → ◌≡◌ {A = Tally} (record { party = p; sums = filled (own_cells p d) sum_count rs }) (tally_of p d rs)
  own-tally rs = tally-of p d rs (filled (own_cells p d) sum_count rs) (length-filled (own_cells p d) sum_count rs) (own-cell rs)

-- the code's tests of an own entry of the day, of one that counts, and of a sale to the party
abbrev pub own_tests : ℕ → ℕ → ℕ → ℕ → List Bool
own_tests p d a b = eqb b (536870912 + d) ∷ eqb a (268435456 + p) ∷ []

abbrev pub sum_tests : ℕ → List Bool
sum_tests w = ltb w 822083584 ∷ is_volume (w % 256) ∷ not (eqb w 805306374) ∷ []

abbrev pub sold_tests : ℕ → ℕ → ℕ → ℕ → List Bool
sold_tests p d b w = eqb b (536870912 + d) ∷ eqb w (805306374 + 256 * p) ∷ []

not-export : (k : Key) → (k.type ≡ 6 → k.counterparty ≡ 0 → ⊥) → is_export k ≡ false
not-export k h =
    elim (bool_cases (is_export k)) [
      | inl e ↦ (let s = and_split (eqb k.type 6) (eqb k.counterparty 0) e in absurd (h (eqb-true _ _ s.0) (eqb-true _ _ s.1)))
      | inr e ↦ e
    ]

export-not : (k : Key) → is_export k ≡ false → k.type ≡ 6 → k.counterparty ≡ 0 → ⊥
export-not k e t c = true≢false (sym (and-join (eqb k.type 6) (eqb k.counterparty 0) (eq-eqb _ _ t) (eq-eqb _ _ c)) ∙ e)

-- whole words compared, as the figures that they hold
module _ (p d : ℕ) {a b w : ℕ} {r : Record} (f : IsRead a b w r) where
  type-is : w % 256 ≡ (key r).type
  type-is = omega arith

  own_same : every (own_tests p d a b) && every (sum_tests w) ≡ is_own p d r.label
  own_same = same_test there back
    where
      there : every (own_tests p d a b) && every (sum_tests w) ≡ true → is_own p d r.label ≡ true
      there e =
          let q = and_split (every (own_tests p d a b)) (every (sum_tests w)) e in
          let g = every_holds (own_tests p d a b) q.0 in
          let h = every_holds (sum_tests w) q.1 in
          let y : b ≡ 536870912 + d = eqb-true _ _ g.0 in
          let x : a ≡ 268435456 + p = eqb-true _ _ g.1.0 in
          let s : w < 822083584 = ltb-true _ _ h.0 in
          let k = eqb-false w 805306374 (not-true _ h.1.1.0) in
          and-join _ _ (eq-eqb (key r).party p (omega arith))
          (facts-count d r.label (record {
            stands = omega arith;
            day = omega arith;
            volume = rw type-is at h.1.0;
            no-export = not-export (key r) (λ t c. k (omega arith));
          }))

      back : is_own p d r.label ≡ true → every (own_tests p d a b) && every (sum_tests w) ≡ true
      back e =
          let s = and_split (eqb (key r).party p) (counts d r.label) e in
          let x : (key r).party ≡ p = eqb-true _ _ s.0 in
          let c = counts-facts d r.label s.1 in
          and-join (every (own_tests p d a b)) (every (sum_tests w))
          (holds-every (own_tests p d a b) (eq-eqb b (536870912 + d) (omega arith), (eq-eqb a (268435456 + p) (omega arith), tt)))
          (holds-every (sum_tests w) (lt-ltb w 822083584 (omega arith), (rw type-is c.volume, (rw (ne_eqb w 805306374 λ q. export-not (key r) c.no-export (omega arith) (omega arith)), tt))))

  -- a sale to the party
  pub to_same : p ≤ 999 → every (sold_tests p d b w) ≡ every (to_tests p d r.label)
  to_same l = same_test there back
    where
      there : every (sold_tests p d b w) ≡ true → every (to_tests p d r.label) ≡ true
      there e =
          let h = every_holds (sold_tests p d b w) e in
          let x : b ≡ 536870912 + d = eqb-true _ _ h.0 in
          let y : w ≡ 805306374 + 256 * p = eqb-true _ _ h.1.0 in
          holds-every (to_tests p d r.label) (eq-eqb r.label.status 0 (omega arith), (eq-eqb (key r).counterparty p (omega arith), (eq-eqb (key r).day d (omega arith), (eq-eqb (key r).type 6 (omega arith), tt))))

      back : every (to_tests p d r.label) ≡ true → every (sold_tests p d b w) ≡ true
      back e =
          let c = counts-to p d r.label e in
          holds-every (sold_tests p d b w) (eq-eqb b (536870912 + d) (omega arith), (eq-eqb w (805306374 + 256 * p) (omega arith), tt))

-- a tally with an amount more in the sum at a place
abbrev pub with_more : Tally → ℕ → ℕ → Tally
with_more t i a = record { party = t.party; sums = add_to t.sums i a }

-- an amount more of type k: it has a place, and the sum fits
pub record Adds (t : Tally) (k x : ℕ) (next : Tally) : Type 0 where
  pub volume : is_volume k ≡ true
  pub place : sum_place k < sum_count
  pub fits : get_or t.sums (sum_place k) 0 + x < 18446744073709551616
  pub same : next ≡ with_more t (sum_place k) x

pub adds_same : {t u v next : Tally} {k i x y : ℕ} → Adds t k x next → v ≡ t → i ≡ sum_place k → y ≡ x → u ≡ with_more v i y → u ≡ next
adds_same a e n f q = q ∙ rw (e, n, f) (sym a.same)

-- the tally of the entries before number i
abbrev pub tally_to : List ℕ → ℕ → ℕ → ℕ → Tally
tally_to ws p d i = record { party = p; sums = filled (own_cells p d) sum_count (read_to ws i) }

-- what the scan holds before entry i
pub record SoFar (ws : List ℕ) (p d i : ℕ) (t : Tally) (bought : ℕ) : Type 0 where
  pub tally : t ≡ tally_to ws p d i
  pub bought-is : bought ≡ bought_by p d (read_to ws i)

-- a checked book, entry by entry
module _ (ws : List ℕ) (ok : is_book ws ≡ true) where
  pub bought-to : (p d i : ℕ) → i ≤ count_of ws → bought_by p d (read_to ws i) ≤ most_sum
  bought-to p d i l = bought-sum (read_to ws i) (legal-to ws ok i l) (few-to ws ok i l) p d

  module _ (p d i : ℕ) (l : i ≤ count_of ws) {t : Tally} {B : ℕ} (s : SoFar ws p d i t B) where
    pub sums-within : SumsWithin t.sums
    sums-within j h = rw s.tally ((table_to ws ok (own-limited p d) sum_count i l).at_most j)

    pub bought-within : B ≤ most_sum
    bought-within = rw s.bought-is (bought-to p d i l)

  module _ (p d i : ℕ) (l : i < count_of ws) (w : EntryWords) (ew : w ≡ words_at ws (3 + 5 * i)) where
    read : IsRead w.party w.day w.figures (read_at ws i)
    read = rw ew (is_read_lem ws (3 + 5 * i) (book-entry ws ok i l).ok)

    abbrev type : ℕ
    type = w.figures % 256

    tally-next : (b : Bool) → is_own p d (read_at ws i).label ≡ b → tally_to ws p d (i + 1) ≡ cond b (with_more (tally_to ws p d i) (sum_place type) (read_at ws i).amount) (tally_to ws p d i)
    unfolding added add_to_each
    tally-next b e = ap (λ s. record { party = p; sums = s }) (filled_next (own_cells p d) sum_count ws i) ∙ go b e
      where
        go : (b : Bool) → is_own p d (read_at ws i).label ≡ b →
            ◌≡◌ {A = Tally} (record { party = p; sums = added (own_cells p d) (read_at ws i) (filled (own_cells p d) sum_count (read_to ws i)) })
            (cond b (with_more (tally_to ws p d i) (sum_place type) (read_at ws i).amount) (tally_to ws p d i))
        go true e = rw (e, type-is p d read)
        go false e = rw e

    pub own-adds : every (own_tests p d w.party w.day) ≡ true → every (sum_tests w.figures) ≡ true →
        Adds (tally_to ws p d i) type (read_at ws i).amount (tally_to ws p d (i + 1))
    own-adds e g =
        let own : is_own p d (read_at ws i).label ≡ true = sym (own_same p d read) ∙ and-join (every (own_tests p d w.party w.day)) (every (sum_tests w.figures)) e g in
        let f = counts-facts d (read_at ws i).label (and_split (eqb (key (read_at ws i)).party p) _ own).1 in
        let v : is_volume type ≡ true = rw (type-is p d read) f.volume in
        let few = counted-amount d (read_at ws i) (legal-at ws ok i l) f in
        record {
          volume = v;
          place = (place_of sum-places type v).below;
          fits = omega (arith, (table_to ws ok (own-limited p d) sum_count i (omega arith)).at_most (sum_place type), few);
          same = tally-next true own;
        }

    pub not_own : every (own_tests p d w.party w.day) ≡ false → tally_to ws p d (i + 1) ≡ tally_to ws p d i
    not_own e = tally-next false (sym (own_same p d read) ∙ ap (λ b. b && every (sum_tests w.figures)) e)

    pub not-summed : every (sum_tests w.figures) ≡ false → tally_to ws p d (i + 1) ≡ tally_to ws p d i
    not-summed e =
        let own : Bool = every (own_tests p d w.party w.day) in
        tally-next false (sym (own_same p d read) ∙ ap (λ b. own && b) e ∙ and-false own)

    bought-next : p ≤ 999 → bought_by p d (read_to ws (i + 1)) ≡ bought_by p d (read_to ws i) + cond (every (sold_tests p d w.day w.figures)) (read_at ws i).amount 0
    unfolding bought_by counted_to
    bought-next h = total-next (counted_to p d) ws i ∙ rw (to_same p d read h)

    pub sold-adds : p ≤ 999 → every (sold_tests p d w.day w.figures) ≡ true → bought_by p d (read_to ws (i + 1)) ≡ bought_by p d (read_to ws i) + (read_at ws i).amount
    sold-adds h e = bought-next h ∙ rw e

    pub sold-none : p ≤ 999 → every (sold_tests p d w.day w.figures) ≡ false → bought_by p d (read_to ws (i + 1)) ≡ bought_by p d (read_to ws i)
    sold-none h e = bought-next h ∙ rw e (add-zero _)

-- the scan starts at no entry, and ends at the last
pub none_yet : (ws : List ℕ) (p d : ℕ) → SoFar ws p d 0 (record { party = p; sums = no_tally.sums }) 0
unfolding filled over blank bought_by total read_entries
none_yet ws p d = record { tally = refl; bought-is = refl }

pub all_read : (ws : List ℕ) (p d i : ℕ) {t : Tally} {B : ℕ} → SoFar ws p d i t B → i ≡ count_of ws →
    ◌≡◌ {A = PartyDay} (record { tally = t; bought = B }) (scanned p d (entries ws))
unfolding entries
all_read ws p d i s e = rw (s.tally, s.bought-is, e, own-tally p d (read_to ws (count_of ws)))
