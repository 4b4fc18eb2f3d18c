-- Scans of a book by number, as the loops go: what the entries before number i leave. Assumes nothing.
use mathlib.Core.Path.{◌≡◌, refl, sym, ap, ◌∙◌}
use mathlib.Core.Bool.{true}
use mathlib.Core.List.{List, [], ◌∷◌, ◌++◌}
use Prim.Native.Nat.{ℕ, zero, suc, ◌+◌, ◌*◌, ◌≤◌, ◌<◌, zero-le}
use native.Mathlib.Nat.{le_trans, mul-le-mul_right}
use native.Mathlib.Numerals.{add-one}
use native.Mathlib.Omega.{arith}
use lib.ListN.{length, take, drop}
use lib.Seq.{take_all, drop-drop}
use Rattle.numbers.specs.Sums.{total}
use Rattle.numbers.specs.Tests.{all}
use Rattle.numbers.proofs.TestLaws.{and_split, and-join}
use Rattle.rules.specs.Entry.{Record, legal, record_in, entry_of}
use Rattle.rules.specs.Words.{most_entries, is_book, entries, count_of, decode, entry_ok, entries_ok, read_entries}
use Rattle.rules.specs.Book.{entry_at}
use Rattle.rules.specs.declared.Entry.{Entry}
use Rattle.rules.proofs.WordLaws.{book-facts, entry-facts, read-legal, length-read}
use Rattle.words.proofs.BookCode.{book-entry}
use Rattle.cells.specs.Cells.{Cells, added, over, blank, filled, Limited, AtMost}
use Rattle.cells.proofs.CellLaws.{over-more, total-more, cell-limit}

-- the entries before number i, and entry i
abbrev pub read_to : List ℕ → ℕ → List Record
read_to ws i = read_entries i (drop 3 ws)

abbrev pub read_at : List ℕ → ℕ → Record
read_at ws i = decode (drop (3 + 5 * i) ws)

read-snoc : (i : ℕ) (ws : List ℕ) → read_entries (suc i) ws ≡ read_entries i ws ++ (decode (drop (5 * i) ws) ∷ [])
unfolding read_entries
read-snoc zero ws = refl
read-snoc (suc i) ws =
    let e : 5 * suc i ≡ 5 + 5 * i = omega arith in
    rw (e, ← drop-drop (5 * i) 5 ws) (ap (λ l. decode ws ∷ l) (read-snoc i (drop 5 ws)))

read_more : (ws : List ℕ) (i : ℕ) → read_to ws (i + 1) ≡ read_to ws i ++ (read_at ws i ∷ [])
read_more ws i = rw (add-one i, ← drop-drop (5 * i) 3 ws) (read-snoc i (drop 3 ws))

sound-to : (n i : ℕ) (ws : List ℕ) → i ≤ n → entries_ok n ws ≡ true → entries_ok i ws ≡ true
unfolding entries_ok
sound-to n zero ws l e = refl
sound-to zero (suc i) ws l e = absurd (omega arith)
sound-to (suc n) (suc i) ws l e =
    let s = and_split (entry_ok ws) (entries_ok n (drop 5 ws)) e in
    and-join (entry_ok ws) _ s.0 (sound-to n i (drop 5 ws) (omega arith) s.1)

-- one entry more, and the last
pub over-next : {S : Type 0} (f : Record → S → S) (none : S) (ws : List ℕ) (i : ℕ) → over f (read_to ws (i + 1)) none ≡ f (read_at ws i) (over f (read_to ws i) none)
over-next f none ws i = ap (λ rs. over f rs none) (read_more ws i) ∙ over-more f (read_to ws i) (read_at ws i) none

pub filled_next : (at : Cells) (n : ℕ) (ws : List ℕ) (i : ℕ) → filled at n (read_to ws (i + 1)) ≡ added at (read_at ws i) (filled at n (read_to ws i))
unfolding filled
filled_next at n ws i = over-next (added at) (blank n) ws i

pub total-next : (f : Record → ℕ) (ws : List ℕ) (i : ℕ) → total f (read_to ws (i + 1)) ≡ total f (read_to ws i) + f (read_at ws i)
total-next f ws i = ap (total f) (read_more ws i) ∙ total-more f (read_to ws i) (read_at ws i)

-- what the first i of n entries of a book leave
pub record Scanned {S : Type 0} (f : Record → S → S) (none : S) (ws : List ℕ) (n i : ℕ) (s : S) : Type 0 where
  pub upto : i ≤ n
  pub state : s ≡ over f (read_to ws i) none

pub scan-start : {S : Type 0} {f : Record → S → S} {none s : S} {ws : List ℕ} {n : ℕ} → s ≡ none → Scanned f none ws n 0 s
unfolding over read_entries
scan-start e = record { upto = zero-le; state = e }

pub scan-more : {S : Type 0} {f : Record → S → S} {none s t : S} {ws : List ℕ} {n i : ℕ} → i < n → Scanned f none ws n i s → t ≡ f (read_at ws i) s → Scanned f none ws n (i + 1) t
scan-more {f = f} {none} {ws = ws} {i = i} h p r = record { upto = omega arith; state = r ∙ rw p.state (sym (over-next f none ws i)) }

pub scan-done : {S : Type 0} {f : Record → S → S} {none s : S} {ws : List ℕ} {n i : ℕ} → n ≡ count_of ws → n ≤ i → Scanned f none ws n i s → s ≡ over f (entries ws) none
unfolding entries
scan-done {f = f} {none} {ws = ws} {i = i} c h p =
    let e : i ≡ count_of ws = omega arith in
    p.state ∙ ap (λ k. over f (read_to ws k) none) e

-- the same by the entries that the code reads by their numbers: n is the count that its loop read
pub scan-entry : {S : Type 0} {f : Record → S → S} {none s t : S} {ws : List ℕ} {n i : ℕ} {e : Entry} → n ≡ count_of ws → i < n → e ≡ entry_of (entry_at ws i) → Scanned f none ws (count_of ws) i s → t ≡ f (record_in e) s → Scanned f none ws (count_of ws) (i + 1) t
unfolding entry_at
scan-entry {f = f} {s = s} c h q p r = scan-more (rw c at h) p (r ∙ ap (λ x. f (record_in x) s) q)

pub scan-words : {S : Type 0} {f : Record → S → S} {none s t : S} {ws : List ℕ} {n i : ℕ} {r : Record} → n ≡ count_of ws → i < n → r ≡ entry_at ws i → Scanned f none ws (count_of ws) i s → t ≡ f r s → Scanned f none ws (count_of ws) (i + 1) t
unfolding entry_at
scan-words {f = f} {s = s} c h q p r = scan-more (rw c at h) p (r ∙ ap (λ x. f x s) q)

pub scan-all : {S : Type 0} {f : Record → S → S} {none s : S} {ws : List ℕ} {n i : ℕ} → n ≡ count_of ws → n ≤ i → Scanned f none ws (count_of ws) i s → s ≡ over f (entries ws) none
scan-all c h p = scan-done refl (rw c at h) p

pub ruleset book_scan = (scan-start, scan-entry, scan-all)

-- a book by number, as the code goes: n is the count that it read
module _ (ws : List ℕ) (b : is_book ws ≡ true) where
  pub few-to : (i : ℕ) → i ≤ count_of ws → length (read_to ws i) ≤ most_entries
  few-to i l = rw (length-read i (drop 3 ws)) (omega (arith, (book-facts ws b).room))

  pub legal-to : (i : ℕ) → i ≤ count_of ws → all legal (read_to ws i) ≡ true
  legal-to i l = read-legal i (drop 3 ws) (sound-to (count_of ws) i (drop 3 ws) l (book-facts ws b).sound)

  pub legal-at : (i : ℕ) → i < count_of ws → legal (read_at ws i) ≡ true
  legal-at i l = (entry-facts (drop (3 + 5 * i) ws) (book-entry ws b i l).ok).is-legal

  -- no cell passes the entries of a full book times the largest amount
  pub table_to : {at : Cells} {most : ℕ} → Limited at most → (k i : ℕ) → i ≤ count_of ws → AtMost (most_entries * most) (filled at k (read_to ws i))
  table_to {at} {most} m k i l =
      record { at_most = λ j. le_trans (cell-limit at most m k j (read_to ws i) (legal-to i l)) (mul-le-mul_right most (few-to i l)) }

  pub scan-below : (k : ℕ) {at : Cells} {most n i : ℕ} {table : List ℕ} → Limited at most → n ≡ count_of ws → Scanned (added at) (blank k) ws n i table → AtMost (most_entries * most) table
  unfolding filled
  scan-below k {i = i} m c p = rw p.state (table_to m k i (omega (arith, p.upto)))

  pub scan-few : count_of ws ≤ most_entries
  scan-few = omega (arith, (book-facts ws b).room)

  pub scan-end : (i : ℕ) → count_of ws ≤ i → take i (entries ws) ≡ entries ws
  scan-end i h = take_all i (entries ws) (omega (arith, (book-facts ws b).count))
