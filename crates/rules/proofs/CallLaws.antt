-- Laws of the calls that change a book, on words: what follows from the lifting for all of them, and the shapes that their code has. Assumes nothing.
use mathlib.Core.Path.{◌≡◌, refl, sym, ap, ◌∙◌}
use mathlib.Core.Logic.{inl, inr, ◌≢◌}
use mathlib.Core.Bool.{Bool, true, false, not, ◌&&◌}
use mathlib.Core.List.{List, [], ◌∷◌, ◌++◌, map}
use Prim.Native.Nat.{ℕ, zero, suc, ◌+◌, ◌*◌, ◌≤◌, ◌<◌, ◌/◌, min}
use native.Mathlib.Omega.{arith}
use lib.Dec.{leb, ltb}
use lib.ListN.{length, take, drop, set, length-take, length-set, take-append-drop}
use lib.Seq.{set-append_left}
use borrow.Author.Tests.{ltb-true}
use Rattle.numbers.specs.Causes.{unless, first_of}
use Rattle.numbers.proofs.TestLaws.{bool_cases}
use Rattle.numbers.proofs.CauseLaws.{done-else, done-zero}
use Rattle.rules.specs.Entry.{Key, Record, key, fault, is_mark, is_standing, withdrawn, day_ok}
use Rattle.rules.specs.Words.{word, value_of, frame_of, is_book, entries, count_of, coefficient_of, tolerance_of, room_in, laid, book_words, used_with}
use Rattle.rules.specs.Book.{open_cause, open_words, is_closed, shut_to, entry_at, post_refusal, withdraw_refusal, withdrawn_at}
use Rattle.rules.specs.Stores.{posted, restatused}
use Rattle.rules.specs.Control.{control_refusal}
use Rattle.rules.specs.DayFile.{Item, is_file, words_of, lines_in, party_in, head_item, items_from, items, item_cause, lines_of, file_refusal}
use Rattle.rules.specs.Machine.{figures_of}
use Rattle.rules.specs.Calls.{Change, post, withdraw, control, file, no_figures, refusal, figures_on, changed, on_records, book_machine, cause_of, figures_at, words_after}
use Rattle.rules.proofs.WordLaws.{length-read}
use Rattle.rules.proofs.BookLaws.{open-limits, Stays, entry-at, posted-book, restatused-book}
use Rattle.rules.proofs.LiftLaws.{SameView, room-alike, cut-long, cut-view, Passes, passes, SameFor, with-room, same-cause, same-figures, refused-leaves, done-leaves, lifted-stays, cut-leaves}
use Rattle.rules.proofs.ChangeLaws.{post-clear, withdraw-clear, control-clear, file-clear, changes-keep, adds, changes-roomy}

pub entries-count : (ws : List ℕ) → length (entries ws) ≡ count_of ws
unfolding entries
entries-count ws = length-read (count_of ws) (drop 3 ws)

-- the records that a done call leaves
abbrev pub left : List ℕ → Change → List Record
left ws c = changed (frame_of ws) (entries ws) c

module _ (ws : List ℕ) (c : Change) where
  -- a refused call changes no word, and its other figures are zero
  pub refused-words : cause_of ws c ≢ 0 → words_after ws c ≡ ws
  unfolding cause_of words_after
  refused-words h = refused-leaves book_machine ws c h

  pub refused-figures : cause_of ws c ≢ 0 → figures_at ws c ≡ no_figures
  unfolding cause_of figures_at figures_of
  refused-figures h = done-else _ _ _ h

  module _ (e : cause_of ws c ≡ 0) where
    pub done-passes : Passes on_records ws c
    unfolding cause_of
    done-passes = passes on_records ws c e

    pub done-figures : figures_at ws c ≡ figures_on (frame_of ws) (entries ws) c
    unfolding cause_of figures_at figures_of
    done-figures = done-zero _ _ _ e

    pub done-words : words_after ws c ≡ laid (coefficient_of ws) (tolerance_of ws) (left ws c) ws
    unfolding cause_of words_after
    done-words = done-leaves book_machine ws c e

    -- what a done call leaves is a book of its records, with R, TM, the length and the words past them
    pub done-stays : Stays ws (words_after ws c) (left ws c) (length (left ws c))
    unfolding cause_of words_after
    done-stays = lifted-stays on_records changes-keep ws c e

-- only the view of a book's words counts, and the room for what a call adds
module _ {ws vs : List ℕ} {c : Change} (s : SameFor on_records c ws vs) where
  pub view-cause : cause_of ws c ≡ cause_of vs c
  unfolding cause_of
  view-cause = same-cause on_records s

  pub view-figures : figures_at ws c ≡ figures_at vs c
  unfolding figures_at
  view-figures = same-figures on_records s no_figures

-- words cut past the entries and k places more, or past a full book's, are seen alike by every call that adds no more than k entries
room_for : (a k m b : ℕ) → min book_words (3 + 5 * k) ≤ m → a ≤ k → a ≤ room_in b → a ≤ room_in m
room_for a k m b h l g = omega arith

module _ (k m : ℕ) (ws : List ℕ) (cut : used_with k ws ≤ m) where
  pub used-view : SameView (take m ws) ws
  used-view = cut-view m (omega arith) ws (room_for (count_of ws) (count_of ws + k) m (length ws) cut (omega arith))

  pub used-same : (c : Change) → adds c ≤ k → SameFor on_records c (take m ws) ws
  used-same c l =
      let a = count_of ws + adds c in
      with-room on_records changes-roomy used-view c
      (rw (length-take m ws) (room-alike a m (length ws) (room_for a (count_of ws + k) m (length ws) cut (omega arith))))

-- a line of a file is three words
head-lines : (l p d : ℕ) (is : List Item) (n : ℕ) → 3 * length (lines_of is) ≤ n → 3 * length (lines_of (head_item l p d is)) ≤ suc (suc n)
unfolding lines_of
head-lines zero p d is n h = omega arith
head-lines (suc l) p d is n h = omega arith

lines_long : (n p d : ℕ) (ws : List ℕ) → 3 * length (lines_of (items_from n p d ws)) ≤ length ws
unfolding items_from lines_of
lines_long zero p d [] = omega arith
lines_long zero p d (w ∷ []) = omega arith
lines_long zero p d (w ∷ x ∷ ws) = head-lines (lines_in w) (party_in w) (value_of x) (items_from (lines_in w) (party_in w) (value_of x) ws) _ (lines_long (lines_in w) (party_in w) (value_of x) ws)
lines_long (suc n) p d [] = omega arith
lines_long (suc n) p d (w ∷ []) = omega arith
lines_long (suc n) p d (w ∷ x ∷ []) = omega arith
lines_long (suc n) p d (w ∷ x ∷ y ∷ ws) = omega (arith, lines_long n p d ws)

words_long : (bs : List ℕ) → 4 * length (words_of bs) ≤ length bs
unfolding words_of
words_long [] = omega arith
words_long (a ∷ []) = omega arith
words_long (a ∷ b ∷ []) = omega arith
words_long (a ∷ b ∷ c ∷ []) = omega arith
words_long (a ∷ b ∷ c ∷ d ∷ bs) = omega (arith, words_long bs)

pub file-adds : (bs : List ℕ) → adds (file bs) ≤ length bs / 12
unfolding adds items
file-adds bs = omega (arith, lines_long 0 0 0 (words_of bs), words_long bs)

-- a call on cut words leaves the same, and the words past the cut as they were
pub cut-words : (m : ℕ) (ws : List ℕ) (c : Change) → SameFor on_records c (take m ws) ws → words_after ws c ≡ words_after (take m ws) c ++ drop m ws
unfolding words_after
cut-words m ws c s = cut-leaves on_records changes-keep m ws c s

-- opening sees three words and their number
pub cut-open : (m : ℕ) → 3 ≤ m → (ws : List ℕ) (R TM : ℕ) → open_words ws R TM ≡ open_words (take m ws) R TM ++ drop m ws
unfolding open_words open_cause
cut-open m three ws R TM = go (open_cause (length ws) R TM) refl
  where
    same : open_cause (length (take m ws)) R TM ≡ open_cause (length ws) R TM
    same = rw (cut-long m three ws)

    go : (k : ℕ) → open_cause (length ws) R TM ≡ k → open_words ws R TM ≡ open_words (take m ws) R TM ++ drop m ws
    go zero e =
        let l : 3 ≤ length (take m ws) = rw (length-take m ws) (omega (arith, (open-limits (length ws) R TM e).long)) in
        rw (same, e)
        (ap (λ us. set (set (set us 0 (word 6 0)) 1 (word 7 R)) 2 (word 8 TM)) (sym (take-append-drop m ws))
        ∙ rw (set-append_left (take m ws) (drop m ws) 0 (word 6 0) (omega arith), set-append_left (set (take m ws) 0 (word 6 0)) (drop m ws) 1 (word 7 R) (rw length-set (omega arith)), set-append_left (set (set (take m ws) 0 (word 6 0)) 1 (word 7 R)) (drop m ws) 2 (word 8 TM) (simp length-set (omega arith))))
    go (suc k) e = rw (same, e) (sym (take-append-drop m ws))

-- what the clear causes of a call say of a book's words
pub record PostPasses (ws : List ℕ) (k : Key) (a : ℕ) : Type 0 where
  pub is-book : is_book ws ≡ true
  pub faultless : fault k a ≡ 0
  pub not-shut : shut_to k (entries ws) ≡ false
  pub room : count_of ws < room_in (length ws)

pub post-passes : (ws : List ℕ) (k : Key) (a : ℕ) → cause_of ws (post k a) ≡ 0 → PostPasses ws k a
unfolding refusal
post-passes ws k a e =
    let p = done-passes ws (post k a) e in
    let c = post-clear (frame_of ws) (entries ws) k a p.clear in
    record { is-book = p.is-book; faultless = c.faultless; not-shut = c.not-shut; room = rw (entries-count ws) at c.room }

pub record WithdrawPasses (ws : List ℕ) (n : ℕ) : Type 0 where
  pub is-book : is_book ws ≡ true
  pub is-entry : n < count_of ws
  pub stands : is_standing (entry_at ws n) ≡ true

pub withdraw-passes : (ws : List ℕ) (n : ℕ) → cause_of ws (withdraw n) ≡ 0 → WithdrawPasses ws n
unfolding refusal
withdraw-passes ws n e =
    let p = done-passes ws (withdraw n) e in
    let c = withdraw-clear (entries ws) n p.clear in
    let h : n < count_of ws = rw (entries-count ws) at c.is-entry in
    record { is-book = p.is-book; is-entry = h; stands = rw (entry-at ws n h) c.stands }

pub record ControlPasses (ws : List ℕ) (d : ℕ) : Type 0 where
  pub is-book : is_book ws ≡ true
  pub day : d ≤ 36524
  pub not-closed : is_closed d (entries ws) ≡ false
  pub room : count_of ws < room_in (length ws)

pub control-passes : (ws : List ℕ) (d : ℕ) → cause_of ws (control d) ≡ 0 → ControlPasses ws d
unfolding refusal
control-passes ws d e =
    let p = done-passes ws (control d) e in
    let c = control-clear (frame_of ws) (entries ws) d p.clear in
    record { is-book = p.is-book; day = c.day; not-closed = c.not-closed; room = rw (entries-count ws) at c.room }

pub record FilePasses (ws bs : List ℕ) : Type 0 where
  pub is-book : is_book ws ≡ true
  pub is-file : is_file bs ≡ true
  pub faultless : first_of (map (item_cause (entries ws)) (items bs)) ≡ 0
  pub room : count_of ws + length (lines_of (items bs)) ≤ room_in (length ws)

pub file-passes : (ws bs : List ℕ) → cause_of ws (file bs) ≡ 0 → FilePasses ws bs
unfolding refusal
file-passes ws bs e =
    let p = done-passes ws (file bs) e in
    let c = file-clear (frame_of ws) (entries ws) bs p.clear in
    record { is-book = p.is-book; is-file = c.is-file; faultless = c.faultless; room = rw (entries-count ws) at c.room }

-- the causes of each call, over the words that its code reads
pub post-cause : (ws : List ℕ) (k : Key) (a : ℕ) →
    cause_of ws (post k a) ≡ first_of (unless (is_book ws) 1 ∷ fault k a ∷ unless (not (shut_to k (entries ws))) 8 ∷ unless (ltb (count_of ws) (room_in (length ws))) 9 ∷ [])
unfolding cause_of refusal post_refusal
post-cause ws k a = rw (entries-count ws)

abbrev is_standing_at : List ℕ → ℕ → Bool
is_standing_at ws n = ltb n (count_of ws) && is_standing (entry_at ws n)

pub withdraw-cause : (ws : List ℕ) (n : ℕ) →
    cause_of ws (withdraw n) ≡ first_of (unless (is_book ws) 1 ∷ unless (not (is_standing_at ws n && shut_to (key (entry_at ws n)) (entries ws))) 8 ∷ unless (is_standing_at ws n && not (is_mark (entry_at ws n))) 10 ∷ [])
unfolding cause_of refusal withdraw_refusal
withdraw-cause ws n =
    elim (bool_cases (ltb n (count_of ws))) [
      | inl q ↦ rw (entries-count ws, q, entry-at ws n (ltb-true n (count_of ws) q))
      | inr q ↦ rw (entries-count ws, q)
    ]

pub control-cause : (ws : List ℕ) (d : ℕ) →
    cause_of ws (control d) ≡ first_of (unless (is_book ws) 1 ∷ unless (day_ok d) 4 ∷ unless (not (is_closed d (entries ws))) 8 ∷ unless (ltb (count_of ws) (room_in (length ws))) 9 ∷ [])
unfolding cause_of refusal control_refusal
control-cause ws d = rw (entries-count ws)

pub file-cause : (ws bs : List ℕ) →
    cause_of ws (file bs) ≡ first_of (unless (is_book ws) 1 ∷ unless (is_file bs) 2 ∷ first_of (map (item_cause (entries ws)) (items bs)) ∷ unless (leb (count_of ws + length (lines_of (items bs))) (room_in (length ws))) 9 ∷ [])
unfolding cause_of refusal file_refusal
file-cause ws bs = rw (entries-count ws)

-- what the code of a done post and of a done withdrawal stores
pub post-stores : (ws : List ℕ) (k : Key) (a : ℕ) → cause_of ws (post k a) ≡ 0 → words_after ws (post k a) ≡ posted ws k a
unfolding changed
post-stores ws k a e =
    let p = post-passes ws k a e in
    done-words ws (post k a) e ∙ sym (posted-book ws k a p.is-book p.room)

pub withdraw-stores : (ws : List ℕ) (n : ℕ) → cause_of ws (withdraw n) ≡ 0 → words_after ws (withdraw n) ≡ restatused withdrawn ws n
unfolding changed withdrawn_at
withdraw-stores ws n e =
    let p = withdraw-passes ws n e in
    done-words ws (withdraw n) e ∙ sym (restatused-book withdrawn ws n p.is-book p.is-entry p.stands)
