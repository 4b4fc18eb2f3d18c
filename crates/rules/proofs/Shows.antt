-- A book against its ledger: the same calls are answered alike, and the book's words show the ledger's records. Assumes nothing.
use mathlib.Core.Path.{◌≡◌, refl, sym, subst, ◌∙◌}
use mathlib.Core.Logic.{inl, inr}
use mathlib.Core.Bool.{Bool, true, false, not, ◌&&◌, and-false}
use mathlib.Core.List.{List, [], ◌∷◌}
use Prim.Native.Nat.{ℕ, ◌≤◌}
use native.Mathlib.Omega.{arith}
use lib.Dec.{eqb, leb, ltb}
use lib.ListN.{length, get_or, length-set, length-append}
use borrow.Author.Tests.{eqb-true, ne_eqb, ltb-true}
use Rattle.numbers.specs.Tests.{all, any}
use Rattle.numbers.specs.Causes.{unless, first_of}
use Rattle.numbers.proofs.TestLaws.{all_set, bool_cases, and_split, all_append, all_get_d}
use Rattle.rules.specs.Entry.{Key, Record, record_of, key, no_record, with_status, fault, status_ok, legal, is_mark, is_standing, is_bilateral, standing, withdrawn}
use Rattle.rules.specs.Words.{Frame, frame_of, room_in, laid}
use Rattle.rules.specs.Book.{is_mark_of, is_closed, shut_to, post_refusal, withdraw_refusal, withdrawn_at}
use Rattle.rules.specs.Calls.{refusal, figures_on, changed}
use Rattle.rules.specs.Calls as calls
use Rattle.rules.specs.Ledger.{Call, post, withdraw, as_change, book_calls, ledger, ledger_cause, ledger_figures, ledger_done}
use Rattle.rules.proofs.WordLaws.{Fits, laid-book, laid-again, no-fault}
use Rattle.rules.proofs.ChangeLaws.{post-clear, withdraw-clear, changes-keep}
use Rattle.rules.proofs.LedgerLaws.{same-withdrawal, post-causes, withdraw-causes}
use Rattle.rules.proofs.Machine.{Agree}

-- a record as posts and withdrawals leave it
abbrev pub is_kept : Record → Bool
is_kept r = eqb (fault (key r) r.amount) 0 && leb r.label.status withdrawn

kept-fault : (r : Record) → is_kept r ≡ true → fault (key r) r.amount ≡ 0
kept-fault r e = eqb-true _ _ (and_split (eqb (fault (key r) r.amount) 0) (leb r.label.status withdrawn) e).0

kept-legal : (r : Record) → is_kept r ≡ true → legal r ≡ true
unfolding legal status_ok
kept-legal r e = let s = and_split (eqb (fault (key r) r.amount) 0) (leb r.label.status withdrawn) e in rw (s.0, s.1)

kept-unmarked : (r : Record) → is_kept r ≡ true → is_mark r ≡ false
kept-unmarked r e = let f = no-fault (key r) r.amount (kept-fault r e) in ne_eqb (key r).type 21 λ h. omega arith

all-legal : (rs : List Record) → all is_kept rs ≡ true → all legal rs ≡ true
unfolding all
all-legal [] e = refl
all-legal (r ∷ rs) e = let s = and_split (is_kept r) (all is_kept rs) e in rw (kept-legal r s.0) (all-legal rs s.1)

never-closed : (d : ℕ) (rs : List Record) → all is_kept rs ≡ true → any (is_mark_of d) rs ≡ false
unfolding all any
never-closed d [] e = refl
never-closed d (r ∷ rs) e = let s = and_split (is_kept r) (all is_kept rs) e in rw (kept-unmarked r s.0) (never-closed d rs s.1)

never-shut : (k : Key) (rs : List Record) → all is_kept rs ≡ true → shut_to k rs ≡ false
unfolding shut_to is_closed
never-shut k rs e = rw (never-closed k.day rs e) (and-false (is_bilateral k))

-- the words show the records
pub record Shows (base : List ℕ) (R TM : ℕ) (ws : List ℕ) (rs : List Record) : Type 0 where
  pub words : ws ≡ laid R TM rs base
  pub kept : all is_kept rs ≡ true
  pub room : length rs ≤ room_in (length base)

module _ (base : List ℕ) (R TM : ℕ) (long : 3 ≤ length base) (low : R ≤ 1000) (few : TM ≤ 200000000) where
  pub shown-fits : (ws : List ℕ) (rs : List Record) → Shows base R TM ws rs → Fits R TM rs base
  shown-fits ws rs s =
      record { legals = all-legal rs s.kept; coefficient = low; tolerance = few; long = long; room = s.room }

  -- a call on the words of these records is a call on the records
  module _ (rs : List Record) (f : Fits R TM rs base) (e : all is_kept rs ≡ true) where
    abbrev frame : Frame
    frame = record { coefficient = R; tolerance = TM; room = room_in (length base) }

    laid-frame : frame_of (laid R TM rs base) ≡ frame
    laid-frame = let l = laid-book f in rw (l.coefficient, l.tolerance, l.long)

    laid-cause : (c : Call) → book_calls.cause (laid R TM rs base) c ≡ refusal frame rs (as_change c)
    laid-cause c = let l = laid-book f in rw (l.is-book, l.holds, laid-frame)

    post-cause : (k : Key) (a : ℕ) → refusal frame rs (calls.post k a) ≡ ledger_cause (length base) rs (post k a)
    unfolding refusal post_refusal
    post-cause k a = rw (never-shut k rs e, post-causes (length base) rs k a)

    withdraw-cause : (n : ℕ) → refusal frame rs (calls.withdraw n) ≡ ledger_cause (length base) rs (withdraw n)
    unfolding refusal withdraw_refusal
    withdraw-cause n =
        rw (withdraw-causes (length base) rs n)
        elim (bool_cases (ltb n (length rs))) [
          | inl q ↦
              let m = kept-unmarked (get_or rs n no_record) (all_get_d is_kept rs e n no_record (ltb-true n (length rs) q)) in
              rw (never-shut (key (get_or rs n no_record)) rs e, m, q) (plain (is_standing (get_or rs n no_record)))
          | inr q ↦ rw q
        ]
      where
        plain : (b : Bool) → first_of (unless (not (b && false)) 8 ∷ unless (b && true) 10 ∷ []) ≡ first_of (unless b 10 ∷ [])
        plain true = refl
        plain false = refl

    call-cause : (c : Call) → refusal frame rs (as_change c) ≡ ledger_cause (length base) rs c
    call-cause (post k a) = post-cause k a
    call-cause (withdraw n) = withdraw-cause n

    call-figures : (c : Call) → figures_on frame rs (as_change c) ≡ ledger_figures rs c
    unfolding figures_on
    call-figures (post k a) = refl
    call-figures (withdraw n) = refl

    call-done : (c : Call) → changed frame rs (as_change c) ≡ ledger_done rs c
    unfolding changed withdrawn_at ledger_done
    call-done (post k a) = refl
    call-done (withdraw n) = sym (same-withdrawal rs n)

    -- a done call leaves kept records, and no fewer
    call_kept : (c : Call) → refusal frame rs (as_change c) ≡ 0 → all is_kept (changed frame rs (as_change c)) ≡ true
    unfolding refusal changed withdrawn_at all
    call_kept (post k a) z = rw (all_append is_kept rs (record_of k standing a ∷ []), e, (post-clear frame rs k a z).faultless)
    call_kept (withdraw n) z =
        let r = get_or rs n no_record in
        all_set is_kept rs n (with_status withdrawn r) e (rw (kept-fault r (all_get_d is_kept rs e n no_record (withdraw-clear rs n z).is-entry)))

    call-grows : (c : Call) → length rs ≤ length (changed frame rs (as_change c))
    unfolding changed withdrawn_at
    call-grows (post k a) = rw (length-append rs (record_of k standing a ∷ [])) (omega arith)
    call-grows (withdraw n) = rw (length-set rs n (with_status withdrawn (get_or rs n no_record))) (omega arith)

    agrees : (c : Call) → Agree book_calls (ledger (length base)) (Shows base R TM) (laid R TM rs base) rs c c
    agrees c =
        let l = laid-book f in
        record {
          causes = laid-cause c ∙ call-cause c;
          figures = λ z. rw (l.holds, laid-frame) (call-figures c);
          next = λ z.
              let clear : refusal frame rs (as_change c) ≡ 0 = sym (laid-cause c) ∙ z in
              rw (← call-done c)
              (record {
                words = rw (l.coefficient, l.tolerance, l.holds, l.long) (laid-again R TM rs (changed frame rs (as_change c)) base (call-grows c));
                kept = call_kept c clear;
                room = changes-keep.room frame rs (as_change c) f.room clear;
              });
        }

  pub show-step : (ws : List ℕ) (rs : List Record) (c d : Call) → Shows base R TM ws rs → c ≡ d → Agree book_calls (ledger (length base)) (Shows base R TM) ws rs c d
  show-step ws rs c d s e =
      subst (λ x. Agree book_calls (ledger (length base)) (Shows base R TM) ws rs c x) e
      (subst (λ x. Agree book_calls (ledger (length base)) (Shows base R TM) x rs c c) (sym s.words) (agrees rs (shown-fits ws rs s) s.kept c))
