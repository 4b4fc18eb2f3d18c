-- What the clear causes of each call say; that each call that changes a book keeps its records legal and within the room, and looks at the room
-- only for whether the entries that it adds fit. Assumes nothing.
use mathlib.Core.Path.{◌≡◌, refl, sym}
use mathlib.Core.Logic.{inl, inr}
use mathlib.Core.Bool.{true, false, not, ◌&&◌}
use mathlib.Core.List.{List, [], ◌∷◌, map}
use Prim.Native.Nat.{ℕ, ◌+◌, ◌≤◌, ◌<◌}
use native.Mathlib.Omega.{arith}
use lib.Dec.{leb, ltb}
use lib.ListN.{length, get_or, length-append, length-set}
use borrow.Author.Tests.{leb-true, ltb-true, ltb-false, le-leb, lt-leb, not-true}
use Rattle.numbers.specs.Tests.{all}
use Rattle.numbers.specs.Causes.{unless, first_of}
use Rattle.numbers.proofs.TestLaws.{bool_cases, and_split, all_append, all_set, all_get_d}
use Rattle.numbers.proofs.CauseLaws.{clear-all, unless-zero}
use Rattle.rules.specs.Entry.{Key, Record, record_of, key, no_record, with_status, legal, fault, is_mark, is_standing, standing, withdrawn, day_ok}
use Rattle.rules.specs.Words.{Frame}
use Rattle.rules.specs.Book.{is_closed, shut_to, post_refusal, stands_at, withdraw_refusal, withdrawn_at}
use Rattle.rules.specs.Control.{control_refusal}
use Rattle.rules.specs.DayFile.{is_file, items, item_cause, lines_of, file_refusal}
use Rattle.rules.specs.Calls.{Change, post, withdraw, control, file, refusal, figures_on, changed, on_records}
use Rattle.rules.proofs.BookLaws.{new-legal, restatus-legal, length-snoc}
use Rattle.rules.proofs.CancelLaws.{controlled-length, controlled-legals, lines-legal}
use Rattle.rules.proofs.LiftLaws.{Keeps, Roomy, framed}

-- the causes of each call taken apart, once
pub record PostClear (f : Frame) (rs : List Record) (k : Key) (a : ℕ) : Type 0 where
  pub faultless : fault k a ≡ 0
  pub not-shut : shut_to k rs ≡ false
  pub room : length rs < f.room

pub post-clear : (f : Frame) (rs : List Record) (k : Key) (a : ℕ) → post_refusal f rs k a ≡ 0 → PostClear f rs k a
unfolding post_refusal
post-clear f rs k a e =
    let c = clear-all (fault k a ∷ unless (not (shut_to k rs)) 8 ∷ unless (ltb (length rs) f.room) 9 ∷ []) e in
    record { faultless = c.0; not-shut = not-true _ (unless-zero _ 7 c.1.0); room = ltb-true _ _ (unless-zero _ 8 c.1.1.0) }

pub record WithdrawClear (rs : List Record) (n : ℕ) : Type 0 where
  pub is-entry : n < length rs
  pub stands : is_standing (get_or rs n no_record) ≡ true
  pub not-mark : is_mark (get_or rs n no_record) ≡ false
  pub not-shut : shut_to (key (get_or rs n no_record)) rs ≡ false

pub withdraw-clear : (rs : List Record) (n : ℕ) → withdraw_refusal rs n ≡ 0 → WithdrawClear rs n
unfolding withdraw_refusal
withdraw-clear rs n e =
    let r = get_or rs n no_record in
    let c = clear-all (unless (not (stands_at rs n && shut_to (key r) rs)) 8 ∷ unless (stands_at rs n && not (is_mark r)) 10 ∷ []) e in
    let s = and_split (stands_at rs n) (not (is_mark r)) (unless-zero _ 9 c.1.0) in
    let t = and_split (ltb n (length rs)) (is_standing r) s.0 in
    let o : stands_at rs n && shut_to (key r) rs ≡ false = not-true _ (unless-zero _ 7 c.0) in
    record { is-entry = ltb-true _ _ t.0; stands = t.1; not-mark = not-true _ s.1; not-shut = rw s.0 at o }

pub record ControlClear (f : Frame) (rs : List Record) (d : ℕ) : Type 0 where
  pub day : d ≤ 36524
  pub not-closed : is_closed d rs ≡ false
  pub room : length rs < f.room

pub control-clear : (f : Frame) (rs : List Record) (d : ℕ) → control_refusal f rs d ≡ 0 → ControlClear f rs d
unfolding control_refusal
control-clear f rs d e =
    let c = clear-all (unless (day_ok d) 4 ∷ unless (not (is_closed d rs)) 8 ∷ unless (ltb (length rs) f.room) 9 ∷ []) e in
    record { day = leb-true _ _ (unless-zero _ 3 c.0); not-closed = not-true _ (unless-zero _ 7 c.1.0); room = ltb-true _ _ (unless-zero _ 8 c.1.1.0) }

pub record FileClear (f : Frame) (rs : List Record) (bs : List ℕ) : Type 0 where
  pub is-file : is_file bs ≡ true
  pub faultless : first_of (map (item_cause rs) (items bs)) ≡ 0
  pub room : length rs + length (lines_of (items bs)) ≤ f.room

pub file-clear : (f : Frame) (rs : List Record) (bs : List ℕ) → file_refusal f rs bs ≡ 0 → FileClear f rs bs
unfolding file_refusal
file-clear f rs bs e =
    let c = clear-all (unless (is_file bs) 2 ∷ first_of (map (item_cause rs) (items bs)) ∷ unless (leb (length rs + length (lines_of (items bs))) f.room) 9 ∷ []) e in
    record { is-file = unless-zero _ 1 c.0; faultless = c.1.0; room = leb-true _ _ (unless-zero _ 8 c.1.1.0) }

legals : (f : Frame) (rs : List Record) (c : Change) → all legal rs ≡ true → refusal f rs c ≡ 0 → all legal (changed f rs c) ≡ true
unfolding refusal changed withdrawn_at all
legals f rs (post k a) l e =
    rw (all_append legal rs (record_of k standing a ∷ []), l, new-legal k a (post-clear f rs k a e).faultless)
legals f rs (withdraw n) l e =
    let w = withdraw-clear rs n e in
    all_set legal rs n _ l (restatus-legal (get_or rs n no_record) (all_get_d legal rs l n no_record w.is-entry) w.not-mark)
legals f rs (control d) l e =
    controlled-legals f.coefficient f.tolerance d rs l (control-clear f rs d e).day
legals f rs (file bs) l e =
    rw (all_append legal rs (lines_of (items bs)), l, lines-legal rs (items bs) (file-clear f rs bs e).faultless)

room : (f : Frame) (rs : List Record) (c : Change) → length rs ≤ f.room → refusal f rs c ≡ 0 → length (changed f rs c) ≤ f.room
unfolding refusal changed withdrawn_at
room f rs (post k a) h e = rw (length-snoc rs (record_of k standing a)) (omega (arith, (post-clear f rs k a e).room))
room f rs (withdraw n) h e = rw (length-set rs n (with_status withdrawn (get_or rs n no_record))) h
room f rs (control d) h e =
    rw (controlled-length f.coefficient f.tolerance d rs) (omega (arith, (control-clear f rs d e).room))
room f rs (file bs) h e = rw (length-append rs (lines_of (items bs))) (file-clear f rs bs e).room

pub changes-keep : Keeps on_records
changes-keep = record { legals = legals; room = room }

-- the entries that a done call adds; it looks at the room only for whether they fit
unfoldable pub adds : Change → ℕ
adds (post k a) = 1
adds (withdraw n) = 0
adds (control d) = 1
adds (file bs) = length (lines_of (items bs))

one_more : (a b : ℕ) → ltb a b ≡ leb (a + 1) b
one_more a b =
    elim (bool_cases (ltb a b)) [
      | inl e ↦ rw e (sym (le-leb (a + 1) b (omega (arith, ltb-true a b e))))
      | inr e ↦ rw e (sym (lt-leb (a + 1) b (omega (arith, ltb-false a b e))))
    ]

roomy-cause : (R TM n m : ℕ) (rs : List Record) (c : Change) → leb (length rs + adds c) n ≡ leb (length rs + adds c) m → refusal (framed R TM n) rs c ≡ refusal (framed R TM m) rs c
unfolding adds refusal post_refusal control_refusal file_refusal
roomy-cause R TM n m rs (post k a) h = rw (one_more (length rs) n, one_more (length rs) m, h)
roomy-cause R TM n m rs (withdraw i) h = refl
roomy-cause R TM n m rs (control d) h = rw (one_more (length rs) n, one_more (length rs) m, h)
roomy-cause R TM n m rs (file bs) h = rw h

roomy-figures : (R TM n m : ℕ) (rs : List Record) (c : Change) → figures_on (framed R TM n) rs c ≡ figures_on (framed R TM m) rs c
unfolding figures_on
roomy-figures R TM n m rs (post k a) = refl
roomy-figures R TM n m rs (withdraw i) = refl
roomy-figures R TM n m rs (control d) = refl
roomy-figures R TM n m rs (file bs) = refl

roomy-done : (R TM n m : ℕ) (rs : List Record) (c : Change) → changed (framed R TM n) rs c ≡ changed (framed R TM m) rs c
unfolding changed
roomy-done R TM n m rs (post k a) = refl
roomy-done R TM n m rs (withdraw i) = refl
roomy-done R TM n m rs (control d) = refl
roomy-done R TM n m rs (file bs) = refl

pub changes-roomy : Roomy on_records adds
changes-roomy = record { cause = roomy-cause; figures = roomy-figures; done = roomy-done }
