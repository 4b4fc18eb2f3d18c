-- The definitions of a book at a place of its words, as code reads them. Assumes nothing.
use mathlib.Core.Path.{◌≡◌, sym, ap, ◌∙◌}
use mathlib.Core.Bool.{Bool, true, false, not, ◌&&◌, ◌||◌}
use mathlib.Core.List.{List, [], ◌∷◌}
use Prim.Native.Nat.{ℕ, zero, suc, ◌+◌, ◌-◌, ◌*◌, ◌<◌, ◌≤◌}
use native.Mathlib.Nat.{add-zero}
use native.Mathlib.Omega.{arith}
use lib.Dec.{leb}
use lib.ListN.{length, get_or, drop}
use lib.Seq.{get_or-drop, drop-drop}
use borrow.Author.Tests.{le-leb, lt-leb, leb-true, not-true, not-false}
use Rattle.numbers.specs.Tests.{any}
use Rattle.numbers.proofs.TestLaws.{and_split}
use Rattle.rules.specs.Entry.{Record, key}
use Rattle.rules.specs.Words.{entry_ok, entries_ok, decode, read_entries, is_book, kind_of, kind_at, value_at, type_bits, count_of, coefficient_of, tolerance_of, room_in}
use Rattle.rules.specs.Book.{place_of, entry_at, is_closed, is_mark_of}
use Rattle.entry_words.specs.declared.EntryWords.{EntryWords}
use Rattle.entry_words.specs.Words.{words_in}
use Rattle.words.specs.Parts.{words_at}
use Rattle.rules.proofs.WordLaws.{entries_ok-step, read_step, room-words, book-facts, entry-facts, legal-bounds, bits_back, word_of}

-- the five words at a place
abbrev pub five_at : List ℕ → ℕ → List ℕ
five_at ws at =
    get_or ws at 0 ∷ get_or ws (at + 1) 0 ∷ get_or ws (at + 2) 0 ∷ get_or ws (at + 3) 0 ∷ get_or ws (at + 4) 0 ∷ []

pub decode-at : (ws : List ℕ) (at : ℕ) → decode (drop at ws) ≡ decode (five_at ws at)
unfolding decode
decode-at ws at =
    rw (get_or-drop at ws 0 0, get_or-drop at ws 1 0, get_or-drop at ws 2 0, get_or-drop at ws 3 0, get_or-drop at ws 4 0, add-zero at)

pub entry_ok-at : (ws : List ℕ) (at : ℕ) → entry_ok (drop at ws) ≡ entry_ok (five_at ws at)
unfolding entry_ok
entry_ok-at ws at =
    rw (decode-at ws at, get_or-drop at ws 0 0, get_or-drop at ws 1 0, get_or-drop at ws 2 0, get_or-drop at ws 3 0, get_or-drop at ws 4 0, add-zero at)

-- entry i of a book's words and those after it, in a loop's form
pub entries_ok-from : (n : ℕ) (ws : List ℕ) (i : ℕ) → i < n → entries_ok (n - i) (drop (3 + 5 * i) ws) ≡ entry_ok (drop (3 + 5 * i) ws) && entries_ok (n - (i + 1)) (drop (3 + 5 * (i + 1)) ws)
entries_ok-from n ws i h =
    rw (← drop-drop (5 * i) 3 ws, ← drop-drop (5 * (i + 1)) 3 ws) (entries_ok-step n (drop 3 ws) i h)

pub read-from : (n : ℕ) (ws : List ℕ) (i : ℕ) → i < n → read_entries (n - i) (drop (3 + 5 * i) ws) ≡ decode (drop (3 + 5 * i) ws) ∷ read_entries (n - (i + 1)) (drop (3 + 5 * (i + 1)) ws)
read-from n ws i h = rw (← drop-drop (5 * i) 3 ws, ← drop-drop (5 * (i + 1)) 3 ws) (read_step n (drop 3 ws) i h)

-- the test of entry i by the words read there
pub ok-told : {r : Bool} {e : EntryWords} {at : ℕ} (ws : List ℕ) (i : ℕ) → r ≡ entry_ok (words_in e) → e ≡ words_at ws at → at ≡ place_of i → entry_ok (drop (3 + 5 * i) ws) ≡ r
ok-told ws i h e p =
    entry_ok-at ws (3 + 5 * i) ∙ sym (h ∙ ap (λ x. entry_ok (words_in x)) e ∙ ap (λ k. entry_ok (words_in (words_at ws k))) p)

pub closed-from : (d n : ℕ) (ws : List ℕ) (i : ℕ) → i < n → is_closed d (read_entries (n - i) (drop (3 + 5 * i) ws)) ≡ is_mark_of d (decode (drop (3 + 5 * i) ws)) || is_closed d (read_entries (n - (i + 1)) (drop (3 + 5 * (i + 1)) ws))
unfolding is_closed any
closed-from d n ws i h = rw (read-from n ws i h)

-- the same by the entries in their order, and a mark told by what was read of entry i
pub entry-from : (n : ℕ) (ws : List ℕ) (i : ℕ) → i < n → read_entries (n - i) (drop (3 + 5 * i) ws) ≡ entry_at ws i ∷ read_entries (n - (i + 1)) (drop (3 + 5 * (i + 1)) ws)
unfolding entry_at
entry-from n ws i h = read-from n ws i h

pub mark-told : {r : Bool} {e : Record} (d : ℕ) (ws : List ℕ) (i : ℕ) → r ≡ is_mark_of d e → e ≡ entry_at ws i → is_mark_of d (decode (drop (3 + 5 * i) ws)) ≡ r
unfolding entry_at
mark-told d ws i h e = sym (h ∙ ap (is_mark_of d) e)

-- a book's words and entries lie within the slice
pub book-long : (ws : List ℕ) → is_book ws ≡ true → 3 ≤ length ws
book-long ws e = (book-facts ws e).long

pub book-within : (ws : List ℕ) → is_book ws ≡ true → 3 + 5 * count_of ws ≤ length ws
book-within ws e = let f = book-facts ws e in room-words (count_of ws) (length ws) f.long f.room

-- each entry of a book passes its test
pub entry_at-ok : (n : ℕ) (ws : List ℕ) (i : ℕ) → i < n → entries_ok n ws ≡ true → entry_ok (drop (5 * i) ws) ≡ true
unfolding entries_ok
entry_at-ok zero ws i h e = absurd (omega arith)
entry_at-ok (suc n) ws zero h e = (and_split (entry_ok ws) (entries_ok n (drop 5 ws)) e).0
entry_at-ok (suc n) ws (suc i) h e =
    let m : 5 * suc i ≡ 5 + 5 * i = omega arith in
    rw (m, ← drop-drop (5 * i) 5 ws) (entry_at-ok n (drop 5 ws) i (omega arith) (and_split (entry_ok ws) (entries_ok n (drop 5 ws)) e).1)

-- entry n of a book: its words are within the slice and pass the test
pub record Placed (ws : List ℕ) (n : ℕ) : Type 0 where
  pub within : 3 + 5 * n + 5 ≤ length ws
  pub ok : entry_ok (drop (3 + 5 * n) ws) ≡ true

pub book-entry : (ws : List ℕ) → is_book ws ≡ true → (n : ℕ) → n < count_of ws → Placed ws n
book-entry ws e n h =
    let w = book-within ws e in
    record {
      within = omega arith;
      ok = rw (← drop-drop (5 * n) 3 ws) (entry_at-ok (count_of ws) (drop 3 ws) n h (book-facts ws e).sound);
    }

pub kind-three : (ws : List ℕ) (at : ℕ) → entry_ok (drop at ws) ≡ true → kind_of (get_or ws (at + 2) 0) ≡ 3
kind-three ws at e = rw (← get_or-drop at ws 2 0) (entry-facts (drop at ws) e).kind_2

-- the words of a legal entry, by its figures
pub record IsRead (a b w : ℕ) (r : Record) : Type 0 where
  pub party : a ≡ 268435456 + (key r).party
  pub day : b ≡ 536870912 + (key r).day
  pub figures : w ≡ 805306368 + type_bits (key r).type (key r).counterparty r.label.status
  pub type : (key r).type ≤ 22
  pub counterparty : (key r).counterparty ≤ 999

pub is_read_lem : (ws : List ℕ) (at : ℕ) → entry_ok (drop at ws) ≡ true → IsRead (get_or ws at 0) (get_or ws (at + 1) 0) (get_or ws (at + 2) 0) (decode (drop at ws))
unfolding decode
is_read_lem ws at e =
    let f = entry-facts (drop at ws) e in
    let b = legal-bounds (decode (drop at ws)) f.is-legal in
    let a0 : get_or (drop at ws) 0 0 ≡ get_or ws at 0 = get_or-drop at ws 0 0 ∙ ap (λ n. get_or ws n 0) (add-zero at) in
    let a1 = get_or-drop at ws 1 0 in
    let a2 = get_or-drop at ws 2 0 in
    record {
      party = sym a0 ∙ sym (word_of 1 _ f.kind_0);
      day = sym a1 ∙ sym (word_of 2 _ f.kind_1);
      figures = sym a2 ∙ sym (word_of 3 _ f.kind_2) ∙ ap (λ v. 805306368 + v) (sym (bits_back (value_at (drop at ws) 2)));
      type = b.type;
      counterparty = b.counterparty;
    }

-- what the first three words must be for a slice with this room
abbrev pub head_ok : List ℕ → ℕ → Bool
head_ok ws room =
    kind_at ws 0 6 && kind_at ws 1 7 && kind_at ws 2 8 && leb (coefficient_of ws) 1000 && leb (tolerance_of ws) 200000000 && leb (count_of ws) room

pub too_short : (ws : List ℕ) → length ws < 3 → false ≡ is_book ws
unfolding is_book
too_short ws h = rw (lt-leb 3 (length ws) h)

module _ (ws : List ℕ) {room : ℕ} (long : 3 ≤ length ws) (e : room ≡ room_in (length ws)) where
  pub head-fails : not (head_ok ws room) ≡ true → false ≡ is_book ws
  unfolding is_book
  head-fails h = rw (le-leb 3 (length ws) long, ← e, not-true (head_ok ws room) h)

  pub head-holds : not (head_ok ws room) ≡ false → {r : Bool} → r ≡ entries_ok (count_of ws) (drop 3 ws) → r ≡ is_book ws
  unfolding is_book
  head-holds h q = q ∙ sym (rw (le-leb 3 (length ws) long, ← e, not-false (head_ok ws room) h))

  pub head-room : not (head_ok ws room) ≡ false → 3 + 5 * count_of ws ≤ length ws
  head-room h =
      let s = and_split (kind_at ws 0 6 && kind_at ws 1 7 && kind_at ws 2 8 && leb (coefficient_of ws) 1000 && leb (tolerance_of ws) 200000000) (leb (count_of ws) room) (not-false (head_ok ws room) h) in
      room-words (count_of ws) (length ws) long (rw (← e) (leb-true (count_of ws) room s.1))
