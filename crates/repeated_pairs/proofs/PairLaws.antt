-- The bits of pairs and the flags of buyers are those of the definition of a repeated pair. Assumes nothing.
use mathlib.Core.Path.{◌≡◌, refl, sym, ap, ap₂, ◌∙◌, fun_ext}
use mathlib.Core.Logic.{inl, inr}
use mathlib.Core.Bool.{Bool, true, false, not, cond, ◌&&◌, ◌||◌, and-false, false≢true}
use mathlib.Core.List.{List, [], ◌∷◌}
use Prim.Native.Nat.{ℕ, suc, ◌+◌, ◌*◌, ◌%◌, ◌≤◌, ◌<◌}
use native.Mathlib.Numerals.{add-one}
use native.Mathlib.Omega.{arith}
use lib.Dec.{eqb, leb, ltb}
use lib.ListN.{length, drop, replicate, length-replicate}
use prog.Memory.{up}
use borrow.Author.Tests.{eqb-true, eq-eqb, ne_eqb, leb-true, ltb-true, le-leb, lt-ltb}
use Rattle.numbers.specs.Sums.{total, count}
use Rattle.numbers.specs.Tests.{every, all, any}
use Rattle.numbers.proofs.SumLaws.{count-le-length}
use Rattle.numbers.proofs.TestLaws.{bool_cases, below-or-above, and_split, and-join, or_cases, or_left, or_right, or-false-split, every_holds, holds-every}
use Rattle.calendar.specs.Calendar.{months, month_of, month_start}
use Rattle.calendar.proofs.MonthLaws.{start-mono, start-end, InMonth, month-unique, month-past, month-holds}
use Rattle.rules.specs.Entry.{Record, key, legal, fault, status_ok, mark_ok, is_cancelled, is_standing, is_mark, is_bilateral, day_ok, last_day, last_party, record_in, entry_of}
use Rattle.rules.specs.declared.Entry.{Entry}
use Rattle.rules.specs.Words.{is_book, entries, count_of}
use Rattle.rules.specs.Book.{entry_at}
use Rattle.rules.specs.Control.{is_earlier_or_later, is_repeated_buyer}
use Rattle.rules.proofs.WordLaws.{no-fault, legal-bounds, book-facts, length-read}
use Rattle.cells.specs.Cells.{over, blank}
use Rattle.cells.proofs.CellLaws.{same_test}
use Rattle.cells.proofs.ScanLaws.{read_to, total-next}
use Rattle.repeated_pairs.specs.Flags.{flagged, no_flags, with_flag}
use Rattle.repeated_pairs.specs.Pairs.{is_other, Paired, pair_of, bit_of, bit_words, is_few, bit_at, with_bit, marked, pair_marked, pairs_of, is_hit, buyer_marked, buyers_of, shares_bit, likely_buyer, likely_among}
use Rattle.repeated_pairs.specs.Periods.{IsPeriod}
use Rattle.repeated_pairs.proofs.FlagLaws.{unset, no_flag, length-no_flags, length-flag, flag-after}
use Rattle.repeated_pairs.proofs.BitLaws.{length-bit, bit-after, no-bit}

-- a legal cancelled entry has a seller and a buyer
pub paired : (r : Record) → legal r ≡ true → is_cancelled r ≡ true → Paired r
unfolding legal status_ok mark_ok
paired r l e =
    let two : r.label.status ≡ 2 = eqb-true r.label.status 2 e in
    elim (or_cases (eqb (fault (key r) r.amount) 0 && status_ok r.label) (mark_ok r) l) [
      | inl s ↦
          let t = and_split (eqb (fault (key r) r.amount) 0) (status_ok r.label) s in
          let f = no-fault (key r) r.amount (eqb-true _ _ t.0) in
          let k = buyer-of two t.1 in
          record { seller-above = f.party-above; seller = f.party; buyer-above = k; buyer = f.counterparty }
      | inr m ↦
          let h = every_holds (is_mark r ∷ day_ok (key r).day ∷ eqb (key r).party 0 ∷ eqb (key r).counterparty 0 ∷ eqb r.amount 0 ∷ is_standing r ∷ []) m in
          absurd (omega (arith, two, eqb-true r.label.status 0 h.1.1.1.1.1.0))
    ]
  where
    buyer-of : r.label.status ≡ 2 → status_ok r.label ≡ true → 1 ≤ (key r).counterparty
    buyer-of two s =
        elim (or_cases (leb r.label.status 1) _ s) [
          | inl k ↦ absurd (omega (arith, leb-true r.label.status 1 k, two))
          | inr k ↦
              let b = (and_split (eqb r.label.status 2) (is_bilateral (key r)) k).1 in
              ltb-true 0 (key r).counterparty (and_split (eqb (key r).type 6) (ltb 0 (key r).counterparty) b).1
        ]

-- a cancelled entry of another day of the month
pub other-cancelled : (d : ℕ) (r : Record) → is_other d r ≡ true → is_cancelled r ≡ true
unfolding is_other
other-cancelled d r e = (every_holds (is_cancelled r ∷ not (eqb (key r).day d) ∷ eqb (month_of (key r).day) (month_of d) ∷ []) e).0

-- the days of a month, by its first and the first of the next
month-days : (m e : ℕ) → e ≤ last_day → leb (month_start m) e && ltb e (month_start (m + 1)) ≡ eqb (month_of e) m
month-days m e h = same_test inside (λ t. let q : m ≡ month_of e = sym (eqb-true _ _ t) in rw (q, le-leb _ _ i.from, add-one (month_of e), lt-ltb _ _ i.until))
  where
    i : InMonth e (month_of e)
    i = month-holds e (omega arith)

    inside : leb (month_start m) e && ltb e (month_start (m + 1)) ≡ true → eqb (month_of e) m ≡ true
    inside t =
        let s = and_split _ _ t in
        let from = leb-true (month_start m) e s.0 in
        let until : e < month_start (suc m) = rw add-one at (ltb-true e (month_start (m + 1)) s.1) in
        elim (below-or-above m months) [
          | inl b ↦ eq-eqb _ _ (month-unique m e b from until)
          | inr b ↦ absurd (omega (arith, start-mono months m b, start-end))
        ]

pub period-found : (d : ℕ) {m f n : ℕ} → m ≡ month_of d → f ≡ month_start m → n ≡ month_start (m + 1) → IsPeriod d f n
period-found d {m} k p q = record { same = λ e h. rw (p, q, ← k) (month-days m e h) }

-- the last month of the table, or the one after it
pub month-most : (d : ℕ) → month_of d ≤ months
month-most d =
    elim (below-or-above d 36525) [ inl b ↦ omega (arith, (month-holds d b).below) | inr b ↦ omega (arith, month-past d b) ]

pub other-by-days : (d : ℕ) (r : Record) {first next : ℕ} → IsPeriod d first next → legal r ≡ true →
    is_cancelled r && not (eqb (key r).day d) && (leb first (key r).day && ltb (key r).day next) ≡ is_other d r
unfolding is_other
other-by-days d r i l =
    let b = legal-bounds r l in
    ap (λ m. is_cancelled r && not (eqb (key r).day d) && m) (i.same (key r).day (omega arith))

-- places marked where a test holds
module _ {A : Type 0} (mark : List A → ℕ → List A) (test : Record → Bool) (place : Record → ℕ) where
  pub marked-yes : (r : Record) (table : List A) → test r ≡ true → mark table (place r) ≡ marked mark test place r table
  unfolding marked
  marked-yes r table e = rw e

  pub marked-no : (r : Record) (table : List A) → test r ≡ false → table ≡ marked mark test place r table
  unfolding marked
  marked-no r table e = rw e

  -- n places in a table of m elements
  module _ (is_marked : List A → ℕ → Bool) (m n : ℕ)
      (long : (table : List A) (k : ℕ) → length (mark table k) ≡ length table)
      (after : (table : List A) (k j : ℕ) → length table ≡ m → k < n → is_marked (mark table k) j ≡ eqb k j || is_marked table j)
      (in-range : (r : Record) → legal r ≡ true → test r ≡ true → place r < n) where
    length_marked : (r : Record) (table : List A) → length (marked mark test place r table) ≡ length table
    unfolding marked
    length_marked r table = elim (bool_cases (test r)) [ inl e ↦ rw e (long table (place r)) | inr e ↦ rw e ]

    length_over : (rs : List Record) (table : List A) → length (over (marked mark test place) rs table) ≡ length table
    unfolding over
    length_over [] table = refl
    length_over (r ∷ rs) table = length_over rs (marked mark test place r table) ∙ length_marked r table

    marked-one : (r : Record) (table : List A) (j : ℕ) → legal r ≡ true → length table ≡ m →
        is_marked (marked mark test place r table) j ≡ (test r && eqb (place r) j) || is_marked table j
    unfolding marked
    marked-one r table j l q =
        elim (bool_cases (test r)) [ inl e ↦ rw e (after table (place r) j q (in-range r l e)) | inr e ↦ rw e ]

    pub over-marked : (rs : List Record) (table : List A) (j : ℕ) → all legal rs ≡ true → length table ≡ m →
        is_marked (over (marked mark test place) rs table) j ≡ any (λ r. test r && eqb (place r) j) rs || is_marked table j
    unfolding over all any
    over-marked [] table j l q = refl
    over-marked (r ∷ rs) table j l q =
        let s = and_split (legal r) (all legal rs) l in
        over-marked rs (marked mark test place r table) j s.1 (length_marked r table ∙ q)
        ∙ ap (λ b. any (λ x. test x && eqb (place x) j) rs || b) (marked-one r table j s.0 q)
        ∙ or_turn (any (λ x. test x && eqb (place x) j) rs) (test r && eqb (place r) j) (is_marked table j)
      where
        or_turn : (a b c : Bool) → a || (b || c) ≡ (b || a) || c
        or_turn true true c = refl
        or_turn true false c = refl
        or_turn false true c = refl
        or_turn false false c = refl

pub any_none : (f g : Record → Bool) → ((r : Record) → g r ≡ false → f r ≡ false) → (rs : List Record) → any g rs ≡ false → any f rs ≡ false
unfolding any
any_none f g h [] e = refl
any_none f g h (r ∷ rs) e = let s = or-false-split (g r) (any g rs) e in rw (h r s.0) (any_none f g h rs s.1)

any-never : (f : Record → Bool) → ((r : Record) → f r ≡ false) → (rs : List Record) → any f rs ≡ false
unfolding any
any-never f h [] = refl
any-never f h (r ∷ rs) = rw (h r) (any-never f h rs)

none-counted : (f : Record → Bool) (rs : List Record) → count f rs ≡ 0 → any f rs ≡ false
unfolding any count total
none-counted f [] e = refl
none-counted f (r ∷ rs) e = rw (unset (f r) (omega arith)) (none-counted f rs (omega arith))

any-and : (b : Bool) (f : Record → Bool) (rs : List Record) → any (λ r. b && f r) rs ≡ b && any f rs
unfolding any
any-and b f [] = sym (and-false b)
any-and true f (r ∷ rs) = ap (λ x. f r || x) (any-and true f rs)
any-and false f (r ∷ rs) = any-and false f rs

any-more : (f g : Record → Bool) → ((r : Record) → f r ≡ true → g r ≡ true) → (rs : List Record) → any f rs ≡ true → any g rs ≡ true
unfolding any
any-more f g h [] e = e
any-more f g h (r ∷ rs) e = elim (or_cases (f r) (any f rs) e) [ inl q ↦ or_left _ _ (h r q) | inr q ↦ or_right (g r) _ (any-more f g h rs q) ]

any_same : (ok f g : Record → Bool) → ((r : Record) → ok r ≡ true → f r ≡ g r) → (rs : List Record) → all ok rs ≡ true → any f rs ≡ any g rs
unfolding any all
any_same ok f g h [] e = refl
any_same ok f g h (r ∷ rs) e = let s = and_split (ok r) (all ok rs) e in ap₂ ◌||◌ (h r s.0) (any_same ok f g h rs s.1)

or-none : (a b : Bool) → b ≡ false → a || b ≡ a
or-none true b e = refl
or-none false b e = e

-- few words, or those of a bit for each pair
pub words-fit : {n : ℕ} → n ≡ bit_words (is_few n) → up 8 (0 + n * 8) < 9223372036854775808
words-fit {n} e = elim (bool_cases (is_few n)) [ inl q ↦ rw (e, q) (omega arith) | inr q ↦ rw (e, q) (omega arith) ]

pub words-blank : {n : ℕ} → n ≡ bit_words (is_few n) → replicate n 0 ≡ blank (bit_words (is_few n))
unfolding blank
words-blank e = ap (λ k. replicate k 0) e

length-words : (few : Bool) → length (blank (bit_words few)) ≡ bit_words few
unfolding blank
length-words few = length-replicate {A = ℕ} (bit_words few) 0

pub pair-in : (few : Bool) (r : Record) {k : ℕ} → Paired r → k ≡ bit_of few r → k < 64 * bit_words few
pair-in true r p q = omega arith
pair-in false r p q = omega arith

pub bit-within : {n k : ℕ} (words : List ℕ) {r : Record} → n ≡ bit_words (is_few n) → length words ≡ n → Paired r → k ≡ bit_of (is_few n) r → k < 64 * length words
bit-within words {r} e l p q = rw (l, e) (pair-in _ r p q)

-- a bit of its own for each pair
same-pair : (r s : Record) → Paired r → Paired s → eqb (pair_of s) (pair_of r) ≡ eqb (key s).party (key r).party && eqb (key s).counterparty (key r).counterparty
same-pair r s p q =
    elim (bool_cases (eqb (key s).party (key r).party && eqb (key s).counterparty (key r).counterparty)) [
      | inl e ↦
          let t = and_split (eqb (key s).party (key r).party) (eqb (key s).counterparty (key r).counterparty) e in
          let x = eqb-true (key s).party (key r).party t.0 in
          let y = eqb-true (key s).counterparty (key r).counterparty t.1 in
          eq-eqb (pair_of s) (pair_of r) (omega arith) ∙ sym e
      | inr e ↦
          ne_eqb (pair_of s) (pair_of r)
          (λ k. false≢true (sym e ∙ and-join _ _ (eq-eqb (key s).party (key r).party (omega arith)) (eq-eqb (key s).counterparty (key r).counterparty (omega arith))))
          ∙ sym e
    ]

pub of-day-cancelled : (d : ℕ) (r : Record) → is_cancelled r && eqb (key r).day d ≡ true → is_cancelled r ≡ true
of-day-cancelled d r h = (and_split (is_cancelled r) (eqb (key r).day d) h).0

-- one entry, as the code looks at it
module _ (few : Bool) (d : ℕ) (r : Record) where
  pub pair-marked : (pairs : List ℕ) {k : ℕ} {then : List ℕ} → is_other d r ≡ true → k ≡ bit_of few r → then ≡ with_bit pairs k → then ≡ pair_marked few d r pairs
  unfolding pair_marked
  pair-marked pairs e q t = t ∙ rw q (marked-yes with_bit (is_other d) (bit_of few) r pairs e)

  pub pair-kept : (pairs : List ℕ) → is_other d r ≡ false → pairs ≡ pair_marked few d r pairs
  unfolding pair_marked
  pair-kept pairs e = marked-no with_bit (is_other d) (bit_of few) r pairs e

  module _ (among : List Bool) (pairs : List ℕ) (flags : List Bool) where
    pub buyer-marked : {then : List Bool} → is_hit few d among pairs r ≡ true → then ≡ with_flag flags (key r).counterparty → then ≡ buyer_marked few d among pairs r flags
    unfolding buyer_marked
    buyer-marked e t = t ∙ marked-yes with_flag (is_hit few d among pairs) (λ x. (key x).counterparty) r flags e

    pub buyer-kept : is_hit few d among pairs r ≡ false → flags ≡ buyer_marked few d among pairs r flags
    unfolding buyer_marked
    buyer-kept e = marked-no with_flag (is_hit few d among pairs) (λ x. (key x).counterparty) r flags e

    -- no cancelled entry of the day
    pub buyer-not : is_cancelled r && eqb (key r).day d ≡ false → flags ≡ buyer_marked few d among pairs r flags
    unfolding is_hit
    buyer-not h = buyer-kept (rw h)

-- the buyer of a legal hit has a flag
pub hit-buyer : (few : Bool) (d : ℕ) (among : List Bool) (pairs : List ℕ) (r : Record) → legal r ≡ true → is_hit few d among pairs r ≡ true → (key r).counterparty ≤ last_party
unfolding is_hit
hit-buyer few d among pairs r l e =
    (paired r l (every_holds (is_cancelled r ∷ eqb (key r).day d ∷ flagged among (key r).counterparty ∷ bit_at pairs (bit_of few r) ∷ []) e).0).buyer

-- the marks of entries one after the other
module _ (few : Bool) (d : ℕ) where
  other-in : (s : Record) → legal s ≡ true → is_other d s ≡ true → bit_of few s < 64 * bit_words few
  other-in s l e = pair-in few s (paired s l (other-cancelled d s e)) refl

  module _ (rs : List Record) (ok : all legal rs ≡ true) where
    pair-bit : (r : Record) → bit_at (pairs_of few d rs) (bit_of few r) ≡ any (shares_bit few d r) rs
    unfolding pairs_of pair_marked
    pair-bit r =
        over-marked with_bit (is_other d) (bit_of few) bit_at (bit_words few) (64 * bit_words few) length-bit (bit-after (bit_words few)) other-in rs (blank (bit_words few)) (bit_of few r) ok (length-words few)
        ∙ or-none _ _ (no-bit (bit_words few) (bit_of few r))

    -- a cancelled entry of the day and this buyer that shares its bit
    abbrev of_buyer : ℕ → Record → Bool
    of_buyer p r = every (is_cancelled r ∷ eqb (key r).day d ∷ eqb (key r).counterparty p ∷ any (shares_bit few d r) rs ∷ [])

    module _ (among : List Bool) where
      hit-below : (r : Record) → legal r ≡ true → is_hit few d among (pairs_of few d rs) r ≡ true → (key r).counterparty < 1000
      hit-below r l e = let h = hit-buyer few d among (pairs_of few d rs) r l e in omega arith

      buyers-flagged : flagged (buyers_of few d among (pairs_of few d rs) rs) ≡ likely_among few d rs among
      unfolding buyers_of buyer_marked likely_among likely_buyer is_hit
      buyers-flagged = fun_ext at
        where
          order : (c o f g e : Bool) → (((c && o) && f) && g) && e ≡ f && (((c && o) && e) && g)
          order true true true true true = refl
          order true true true true false = refl
          order true true true false true = refl
          order true true true false false = refl
          order true true false g e = refl
          order true false true g e = refl
          order true false false g e = refl
          order false o true g e = refl
          order false o false g e = refl

          same : (p : ℕ) (r : Record) → legal r ≡ true → is_hit few d among (pairs_of few d rs) r && eqb (key r).counterparty p ≡ flagged among p && of_buyer p r
          same p r l =
              elim (bool_cases (eqb (key r).counterparty p)) [
                | inl e ↦
                    let q : (key r).counterparty ≡ p = eqb-true _ _ e in
                    rw (pair-bit r) (order (is_cancelled r) (eqb (key r).day d) (flagged among (key r).counterparty) (any (shares_bit few d r) rs) (eqb (key r).counterparty p) ∙ ap (λ n. flagged among n && of_buyer p r) q)
                | inr e ↦ rw e (and-false (is_hit few d among (pairs_of few d rs) r) ∙ sym (ap (λ x. flagged among p && (x && any (shares_bit few d r) rs)) (and-false (is_cancelled r && eqb (key r).day d)) ∙ and-false (flagged among p)))
              ]

          at : (p : ℕ) → flagged (buyers_of few d among (pairs_of few d rs) rs) p ≡ likely_among few d rs among p
          at p =
              over-marked with_flag (is_hit few d among (pairs_of few d rs)) (λ r. (key r).counterparty) flagged 1000 1000 length-flag flag-after hit-below rs no_flags p ok length-no_flags
              ∙ or-none _ _ (no_flag p)
              ∙ any_same legal _ _ (same p) rs ok
              ∙ any-and (flagged among p) (of_buyer p) rs

-- the code's bits and flags of a book
pub buyers-are : (few : Bool) (d : ℕ) (ws : List ℕ) (among : List Bool) (buyers : List Bool) {pairs : List ℕ} → is_book ws ≡ true →
    pairs ≡ pairs_of few d (entries ws) → buyers ≡ buyers_of few d among pairs (entries ws) → flagged buyers ≡ likely_among few d (entries ws) among
buyers-are few d ws among buyers b p q =
    ap flagged (q ∙ ap (λ x. buyers_of few d among x (entries ws)) p) ∙ buyers-flagged few d (entries ws) (book-facts ws b).legals among

-- the entries of other days, counted one after the other
module _ (d : ℕ) (ws : List ℕ) (i : ℕ) {n : ℕ} (c : n ≡ count (is_other d) (read_to ws i)) where
  pub others-few : n ≤ i
  others-few = omega (arith, count-le-length (is_other d) (read_to ws i), length-read i (drop 3 ws))

  pub others-next : {e : Entry} {k : ℕ} → e ≡ entry_of (entry_at ws i) → k ≡ cond (is_other d (record_in e)) 1 0 → n + k ≡ count (is_other d) (read_to ws (i + 1))
  unfolding count entry_at
  others-next q k = ap₂ ◌+◌ c (k ∙ ap (λ x. cond (is_other d (record_in x)) 1 0) q) ∙ sym (total-next (λ r. cond (is_other d r) 1 0) ws i)

  pub others-all : {last : ℕ} → last ≡ count_of ws → i ≤ last → last ≤ i → n ≡ count (is_other d) (entries ws)
  unfolding entries
  others-all l h k = let e : i ≡ count_of ws = omega arith in c ∙ ap (λ j. count (is_other d) (read_to ws j)) e

-- where there is none, no bit is shared
pub no-others : (few : Bool) (d : ℕ) (ws : List ℕ) (among flags : List Bool) {n : ℕ} → n ≡ count (is_other d) (entries ws) → n ≡ 0 → flags ≡ no_flags → flagged flags ≡ likely_among few d (entries ws) among
unfolding likely_among likely_buyer
no-others few d ws among flags c z f =
    fun_ext
    (λ p.
    ap (λ x. flagged x p) f ∙ no_flag p
    ∙ sym (ap (λ b. flagged among p && b) (none p (entries ws)) ∙ and-false (flagged among p)))
  where
    alone : (r : Record) → any (shares_bit few d r) (entries ws) ≡ false
    alone r = any_none _ (is_other d) (λ s e. rw e) (entries ws) (none-counted (is_other d) (entries ws) (sym c ∙ z))

    none : (p : ℕ) (rs : List Record) → any (λ r. every (is_cancelled r ∷ eqb (key r).day d ∷ eqb (key r).counterparty p ∷ any (shares_bit few d r) (entries ws) ∷ [])) rs ≡ false
    none p = any-never _ (λ r. rw (alone r) (and-false ((is_cancelled r && eqb (key r).day d) && eqb (key r).counterparty p)))

-- a repeated pair shares its bit with itself, whatever the number of bits
shares : (few : Bool) (d : ℕ) (r s : Record) → is_earlier_or_later d r s ≡ true → shares_bit few d r s ≡ true
unfolding is_other
shares few d r s e =
    let h = every_holds (is_cancelled s ∷ eqb (key s).party (key r).party ∷ eqb (key s).counterparty (key r).counterparty ∷ not (eqb (key s).day d) ∷ eqb (month_of (key s).day) (month_of d) ∷ []) e in
    let x = eqb-true (key s).party (key r).party h.1.0 in
    let y = eqb-true (key s).counterparty (key r).counterparty h.1.1.0 in
    let o = holds-every (is_cancelled s ∷ not (eqb (key s).day d) ∷ eqb (month_of (key s).day) (month_of d) ∷ []) (h.0, h.1.1.1) in
    and-join _ _ o (eq-eqb _ _ (ap₂ (λ p c. cond few ((1024 * p + c) % 4096) (1024 * p + c)) x y))

pub repeated-likely : (few : Bool) (d : ℕ) (rs : List Record) (p : ℕ) → is_repeated_buyer d rs p ≡ true → likely_buyer few d rs p ≡ true
unfolding is_repeated_buyer likely_buyer
repeated-likely few d rs p =
    any-more _ _
    (λ r e.
    let h = every_holds (is_cancelled r ∷ eqb (key r).day d ∷ eqb (key r).counterparty p ∷ any (is_earlier_or_later d r) rs ∷ []) e in
    holds-every (is_cancelled r ∷ eqb (key r).day d ∷ eqb (key r).counterparty p ∷ any (shares_bit few d r) rs ∷ []) (h.0, (h.1.0, (h.1.1.0, (any-more _ _ (shares few d r) rs h.1.1.1.0, tt)))))
    rs

-- with a bit for each pair, no other does
pub likely-repeated : (d : ℕ) (rs : List Record) → all legal rs ≡ true → likely_buyer false d rs ≡ is_repeated_buyer d rs
unfolding is_repeated_buyer likely_buyer is_other
likely-repeated d rs ok = fun_ext (λ p. any_same legal _ _ (same p) rs ok)
  where
    order : (p b o m : Bool) → (o && m) && (p && b) ≡ ((p && b) && o) && m
    order true true o m = and_yes (o && m)
      where
        and_yes : (x : Bool) → x && true ≡ x
        and_yes true = refl
        and_yes false = refl
    order true false o m = and-false (o && m)
    order false b o m = and-false (o && m)

    pair : (r : Record) → Paired r → (s : Record) → legal s ≡ true → shares_bit false d r s ≡ is_earlier_or_later d r s
    pair r p s l =
        elim (bool_cases (is_cancelled s)) [
          | inl e ↦
              rw (same-pair r s p (paired s l e), e)
              (order (eqb (key s).party (key r).party) (eqb (key s).counterparty (key r).counterparty) (not (eqb (key s).day d)) (eqb (month_of (key s).day) (month_of d)))
          | inr e ↦ rw e
        ]

    same : (p : ℕ) (r : Record) → legal r ≡ true →
        every (is_cancelled r ∷ eqb (key r).day d ∷ eqb (key r).counterparty p ∷ any (shares_bit false d r) rs ∷ [])
        ≡ every (is_cancelled r ∷ eqb (key r).day d ∷ eqb (key r).counterparty p ∷ any (is_earlier_or_later d r) rs ∷ [])
    same p r l =
        elim (bool_cases (is_cancelled r)) [
          | inl e ↦ ap (λ x. ((is_cancelled r && eqb (key r).day d) && eqb (key r).counterparty p) && x) (any_same legal _ _ (pair r (paired r l e)) rs ok)
          | inr e ↦ rw e
        ]
