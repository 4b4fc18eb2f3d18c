-- Laws of the lines stored into a book: one after the other, and all of them. Assumes nothing.
use mathlib.Core.Path.{◌≡◌, sym, ◌∙◌, ap}
use mathlib.Core.Bool.{true}
use mathlib.Core.List.{List, [], ◌∷◌, ◌++◌, append_assoc}
use Prim.Native.Nat.{ℕ, suc, ◌+◌, ◌*◌, ◌≤◌}
use native.Mathlib.Nat.{add-zero}
use native.Mathlib.Omega.{arith}
use lib.ListN.{length, take, drop, set, length-append, length-set, take-append-drop}
use lib.Seq.{take_at, drop-drop, length-take-le}
use Rattle.numbers.specs.Tests.{all}
use Rattle.numbers.proofs.TestLaws.{and_split}
use Rattle.numbers.proofs.ListLaws.{drop-past}
use Rattle.rules.specs.Entry.{Key, Record, record_of, standing, legal}
use Rattle.rules.specs.Words.{word, encode, encode_all, used_words, laid, is_book, entries, count_of, coefficient_of, tolerance_of, room_in}
use Rattle.rules.specs.Stores.{stored_at}
use Rattle.rules.specs.DayFile.{Item, line, empty_block, lines_of}
use Rattle.rules.proofs.WordLaws.{book-facts, book-laid, laid-used, encode_all-append, room-words}
use Rattle.rules.proofs.BookLaws.{stored-words}
use Rattle.dayfile.specs.Stored.{stored_from}

length-stored : (ws : List ℕ) (at : ℕ) (k : Key) (a : ℕ) → length (stored_at ws at k a) ≡ length ws
unfolding stored_at
length-stored ws at k a = simp length-set

-- the lines still to come, over the words and from the place so far
pub record Storing (ws : List ℕ) (at : ℕ) (is : List Item) (vs : List ℕ) (place : ℕ) (left : List Item) : Type 0 where
  pub within : place + 5 * length (lines_of left) ≤ length vs
  pub legal-left : all legal (lines_of left) ≡ true
  pub same : stored_from ws at is ≡ stored_from vs place left

module _ {ws vs : List ℕ} {at place : ℕ} {is left next : List Item} (s : Storing ws at is vs place left) where
  -- one line
  module _ (k : Key) (a : ℕ) (e : left ≡ line k a ∷ next) where
    pub line-within : place + 5 ≤ length vs
    unfolding lines_of
    line-within = omega (arith, (rw e at s).within)

    pub line-legal : legal (record_of k standing a) ≡ true
    unfolding lines_of all
    line-legal = (and_split _ (all legal (lines_of next)) (rw e at s).legal-left).0

    pub line-on : {us : List ℕ} → us ≡ stored_at vs place k a → Storing ws at is us (place + 5) next
    unfolding lines_of all stored_from
    line-on w =
        rw w
        (record {
          within = rw (length-stored vs place k a) (omega (arith, (rw e at s).within));
          legal-left = (and_split (legal (record_of k standing a)) (all legal (lines_of next)) (rw e at s).legal-left).1;
          same = (rw e at s).same;
        })

  pub block-on : (p d : ℕ) → left ≡ empty_block p d ∷ next → Storing ws at is vs place next
  unfolding lines_of stored_from
  block-on p d e = record { within = (rw e at s).within; legal-left = (rw e at s).legal-left; same = (rw e at s).same }

-- all lines, as the words between those before and after them
front : (ws : List ℕ) (at : ℕ) (k : Key) (a : ℕ) → at + 5 ≤ length ws → length (take at ws ++ encode (record_of k standing a)) ≡ at + 5
unfolding encode
front ws at k a h = length-append (take at ws) _ ∙ ap (λ x. x + 5) (length-take-le at ws (omega arith))

pub stored-all : (is : List Item) (ws : List ℕ) (at : ℕ) → at + 5 * length (lines_of is) ≤ length ws → stored_from ws at is ≡ take at ws ++ (encode_all (lines_of is) ++ drop (at + 5 * length (lines_of is)) ws)
unfolding stored_from lines_of encode_all
stored-all [] ws at h = rw (add-zero at) (sym (take-append-drop at ws))
stored-all (line k a ∷ is) ws at h =
    let n = length (lines_of is) in
    let r : Record = record_of k standing a in
    let m : at + 5 * suc n ≡ at + 5 + 5 * n = omega arith in
    let w = stored-words ws at k a (omega arith) in
    let t = front ws at k a (omega arith) in
    stored-all is (stored_at ws at k a) (at + 5) (rw (length-stored ws at k a) (omega arith))
    ∙ rw (w, m, take_at (take at ws ++ encode r) (drop (at + 5) ws) (at + 5) t, drop-past (take at ws ++ encode r) (drop (at + 5) ws) (at + 5) (5 * n) t, drop-drop (5 * n) (at + 5) ws) (simp append_assoc)
stored-all (empty_block p d ∷ is) ws at h = stored-all is ws at h

-- the used words of a book
used-words : (ws : List ℕ) → is_book ws ≡ true → take (3 + 5 * count_of ws) ws ≡ used_words (coefficient_of ws) (tolerance_of ws) (entries ws)
used-words ws b =
    rw (book-facts ws b).count at (ap (take (3 + 5 * length (entries ws))) (book-laid ws b) ∙ laid-used (coefficient_of ws) (tolerance_of ws) (entries ws) ws)

-- with the count raised they are the book of its entries and the lines
pub posted-all : (ws : List ℕ) (is : List Item) → is_book ws ≡ true → count_of ws + length (lines_of is) ≤ room_in (length ws) → set (stored_from ws (3 + 5 * count_of ws) is) 0 (word 6 (count_of ws + length (lines_of is))) ≡ laid (coefficient_of ws) (tolerance_of ws) (entries ws ++ lines_of is) ws
unfolding laid used_words
posted-all ws is b room =
    let f = book-facts ws b in
    let n = length (lines_of is) in
    let l = room-words (count_of ws + n) (length ws) f.long room in
    let e : 3 + 5 * (count_of ws + n) ≡ 3 + 5 * count_of ws + 5 * n = omega arith in
    rw (stored-all is ws (3 + 5 * count_of ws) (omega arith), used-words ws b, length-append (entries ws) (lines_of is), f.count, encode_all-append (entries ws) (lines_of is), e, append_assoc (encode_all (entries ws)) (encode_all (lines_of is)) (drop (3 + 5 * count_of ws + 5 * n) ws))
