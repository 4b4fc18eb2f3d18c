-- The two passes and the mark, one after the other, are the control of the definition. Assumes nothing.
use mathlib.Core.Path.{◌≡◌, refl, sym, ap, ap₂, subst, ◌∙◌, fun_ext}
use mathlib.Core.Bool.{true, false}
use mathlib.Core.List.{List, [], ◌∷◌, ◌++◌}
use Prim.Native.Nat.{ℕ, ◌+◌, ◌-◌, ◌*◌, ◌≤◌, ◌<◌}
use native.Mathlib.Nat.{le_refl}
use native.Mathlib.Omega.{arith}
use lib.ListN.{length, drop}
use lib.Seq.{drop-drop}
use lib.Dec.{leb}
use borrow.Author.Tests.{lt-ltb, le-ltb, leb-true, leb-false}
use Rattle.std.specs.Prelude.{Err}
use Rattle.numbers.specs.Sums.{count}
use Rattle.numbers.specs.Tests.{all}
use Rattle.numbers.proofs.TestLaws.{all_append}
use Rattle.numbers.proofs.SumLaws.{count-le-length}
use Rattle.rules.specs.Entry.{Record, key_of, legal, mark_type, day_ok}
use Rattle.rules.specs.Words.{is_book, entries, count_of, coefficient_of, tolerance_of, room_in, laid}
use Rattle.rules.specs.Book.{is_closed}
use Rattle.rules.specs.Stores.{posted}
use Rattle.rules.specs.Control.{Parties, is_to_cancel, cancel_of, first_pass, after_first, second_pass, after_second, mark_of, controlled_records, detected_parties, cancelled_entries}
use Rattle.rules.specs.Calls.{control, figures_on, changed, cause_of, words_after, control_answer}
use Rattle.rules.specs.Refusals.{number_of}
use Rattle.rules.specs.Answers.{controlled_of}
use Rattle.rules.specs.declared.refusal.Refusal.{Refusal}
use Rattle.rules.specs.declared.Controlled.{Controlled}
use Rattle.rules.proofs.RefusalLaws.{number-not_zero}
use Rattle.rules.proofs.WordLaws.{book-facts, book-laid}
use Rattle.rules.proofs.BookLaws.{Stays, laid-stays, posted-book, mark-legal, length-snoc}
use Rattle.rules.proofs.CancelLaws.{cancel-length, cancel-legals}
use Rattle.rules.proofs.CallLaws.{refused-words, refused-figures, done-figures, done-words, control-passes, control-cause}
use Rattle.detection.specs.Tables.{of_pass}
use Rattle.control.specs.Passes.{cancelled_words, pass_of}
use Rattle.control.specs.declared.passes.Passed.{Passed}

-- one change of a book after another
pub stays_after : {ws us vs : List ℕ} {rs ss : List Record} {n m : ℕ} → n ≤ m → Stays ws us rs n → Stays us vs ss m → Stays ws vs ss m
stays_after {ws} {us} {vs} {n = n} {m = m} h s t =
    record {
      is-book = t.is-book;
      holds = t.holds;
      count = t.count;
      coefficient = t.coefficient ∙ s.coefficient;
      tolerance = t.tolerance ∙ s.tolerance;
      long = t.long ∙ s.long;
      past = t.past ∙ further us ∙ ap (drop (5 * (m - n))) s.past ∙ sym (further ws);
    }
  where
    further : (xs : List ℕ) → drop (3 + 5 * m) xs ≡ drop (5 * (m - n)) (drop (3 + 5 * n) xs)
    further xs =
        let k : 3 + 5 * n + 5 * (m - n) ≡ 3 + 5 * m = omega arith in
        sym (drop-drop (5 * (m - n)) (3 + 5 * n) xs ∙ ap (λ j. drop j xs) k)

-- a book that stays one is laid over the words that came in
pub stays-laid : {ws vs : List ℕ} {rs : List Record} {n : ℕ} → Stays ws vs rs n → vs ≡ laid (coefficient_of ws) (tolerance_of ws) rs ws
unfolding laid
stays-laid {ws} {vs} {rs} {n} s =
    let l : length rs ≡ n = sym (ap length s.holds) ∙ (book-facts vs s.is-book).count ∙ s.count in
    book-laid vs s.is-book
    ∙ rw (s.coefficient, s.tolerance, s.holds, l, s.past)

module _ (ws : List ℕ) (b : is_book ws ≡ true) (d : ℕ) where
  -- a pass leaves a book
  pub pass-stays : (who : Parties) → Stays ws (cancelled_words who d ws) (cancel_of who d (entries ws)) (count_of ws)
  unfolding cancelled_words
  pass-stays who =
      let f = book-facts ws b in
      let n = cancel-length who d (entries ws) ∙ f.count in
      laid-stays
      (record {
        legals = cancel-legals who d (entries ws) f.legals;
        coefficient = f.coefficient;
        tolerance = f.tolerance;
        long = f.long;
        room = rw n f.room;
      })
      refl
      n

  pub pass-few : (who : Parties) → (pass_of who d ws).entries ≤ 3072
  unfolding pass_of
  pass-few who = let f = book-facts ws b in omega (arith, count-le-length (is_to_cancel who d) (entries ws), f.count, f.room)

  -- the mark takes the next place
  module _ (room : count_of ws < room_in (length ws)) where
    pub mark-stays : d ≤ 36524 → Stays ws (posted ws (key_of 0 d mark_type 0) 0) (entries ws ++ (mark_of d ∷ [])) (count_of ws + 1)
    unfolding mark_of all
    mark-stays h =
        let f = book-facts ws b in
        let n = length-snoc (entries ws) (mark_of d) ∙ ap (λ k. k + 1) f.count in
        laid-stays
        (record {
          legals = rw (all_append legal (entries ws) (mark_of d ∷ []), f.legals, mark-legal d h);
          coefficient = f.coefficient;
          tolerance = f.tolerance;
          long = f.long;
          room = rw n (omega (arith, room));
        })
        (posted-book ws (key_of 0 d mark_type 0) 0 b room)
        n

-- a pass by the flags of its parties: its counts, and the words after it
module _ (ws : List ℕ) (d : ℕ) {flags who : Parties} (e : flags ≡ who) where
  pub pass-counts : {p n : ℕ} → p ≡ detected_parties flags → n ≡ count (is_to_cancel flags d) (entries ws) →
      ◌≡◌ {A = Passed} (record { parties = p; entries = n }) (pass_of who d ws)
  unfolding pass_of
  pass-counts p n = ap₂ (λ x y. record { parties = x; entries = y }) p n ∙ ap (λ w. pass_of w d ws) e

-- the whole, call by call
module _ (ws : List ℕ) (d : ℕ) (z : cause_of ws (control d) ≡ 0) where
  abbrev R : ℕ
  R = coefficient_of ws

  abbrev TM : ℕ
  TM = tolerance_of ws

  pub run-book : is_book ws ≡ true
  run-book = (control-passes ws d z).is-book

  -- the first pass
  module _ {us : List ℕ} (u : us ≡ cancelled_words (of_pass false ws d) d ws) where
    pub after_first_lem : Stays ws us (after_first R TM d (entries ws)) (count_of ws)
    unfolding after_first first_pass of_pass
    after_first_lem = rw u (pass-stays ws run-book d (of_pass false ws d))

    -- the second
    buyers-are : of_pass true us d ≡ second_pass R TM d (entries ws)
    unfolding of_pass second_pass
    buyers-are = let s = after_first_lem in fun_ext (λ p. rw (s.coefficient, s.tolerance, s.holds))

    module _ {vs : List ℕ} (v : vs ≡ cancelled_words (of_pass true us d) d us) where
      pub after-second : Stays ws vs (after_second R TM d (entries ws)) (count_of ws)
      unfolding after_second
      after-second =
          let s = after_first_lem in
          let t : Stays us vs (cancel_of (of_pass true us d) d (entries us)) (count_of us) = rw v (pass-stays us s.is-book d (of_pass true us d)) in
          stays_after (le_refl (count_of ws)) s
          (subst (λ who. Stays us vs (cancel_of who d (after_first R TM d (entries ws))) (count_of ws)) buyers-are
          (subst (λ rs. Stays us vs (cancel_of (of_pass true us d) d rs) (count_of ws)) s.holds
          (subst (Stays us vs (cancel_of (of_pass true us d) d (entries us))) s.count t)))

      pub mark-room : count_of vs < room_in (length vs)
      mark-room = let s = after-second in rw (s.count, s.long) (control-passes ws d z).room

      more : count_of vs ≡ count_of ws → count_of ws ≤ count_of vs + 1
      more e = omega arith

      pub run-words : {xs : List ℕ} → xs ≡ posted vs (key_of 0 d mark_type 0) 0 → xs ≡ words_after ws (control d)
      unfolding changed controlled_records
      run-words x =
          let s = after-second in
          let m = mark-stays vs s.is-book d mark-room (control-passes ws d z).day in
          x ∙ stays-laid (stays_after (more s.count) s m) ∙ rw s.holds (sym (done-words ws (control d) z))

    -- their counts
    module _ {first second : Passed} (m : first ≡ pass_of (of_pass false ws d) d ws) (n : second ≡ pass_of (of_pass true us d) d us) where
      pub run-answers : ◌≡◌ {A = Controlled} (record { answer = 0; first = first.parties; second = second.parties; cancelled = first.entries + second.entries }) (control_answer ws d)
      unfolding figures_on cancelled_entries pass_of first_pass of_pass
      run-answers = rw (z, done-figures ws (control d) z, m, n, after_first_lem.holds, buyers-are)

      pub run_fits : first.entries + second.entries ≤ 6144
      run_fits =
          rw (m, n) (omega (arith, pass-few ws run-book d (of_pass false ws d), pass-few us after_first_lem.is-book d (of_pass true us d)))

-- why it comes back
module _ (ws : List ℕ) (d : ℕ) where
  pub cause-book : is_book ws ≡ false → 1 ≡ cause_of ws (control d)
  cause-book e = rw (control-cause, e)

  pub cause-day : is_book ws ≡ true → day_ok d ≡ false → 4 ≡ cause_of ws (control d)
  cause-day b e = rw (control-cause, b, e)

  pub cause-closed : is_book ws ≡ true → day_ok d ≡ true → is_closed d (entries ws) ≡ true → 8 ≡ cause_of ws (control d)
  cause-closed b h e = rw (control-cause, b, h, e)

  pub cause-room : is_book ws ≡ true → day_ok d ≡ true → is_closed d (entries ws) ≡ false → leb (count_of ws + 1) (room_in (length ws)) ≡ false → 9 ≡ cause_of ws (control d)
  cause-room b h c e = rw (control-cause, b, h, c, le-ltb (count_of ws) (room_in (length ws)) (let q = leb-false _ _ e in omega arith))

  pub cause-none : is_book ws ≡ true → day_ok d ≡ true → is_closed d (entries ws) ≡ false → leb (count_of ws + 1) (room_in (length ws)) ≡ true → 0 ≡ cause_of ws (control d)
  cause-none b h c e = rw (control-cause, b, h, c, lt-ltb (count_of ws) (room_in (length ws)) (let q = leb-true _ _ e in omega arith))

  pub refused : (e : Refusal) → number_of e ≡ cause_of ws (control d) → (controlled_of (Err e) ≡ control_answer ws d) × (ws ≡ words_after ws (control d))
  refused e h =
      let n : cause_of ws (control d) ≡ 0 → ⊥ = λ q. number-not_zero e (h ∙ q) in
      (rw (refused-figures ws (control d) n) (ap (λ k. record { answer = k; first = 0; second = 0; cancelled = 0 }) h), sym (refused-words ws (control d) n))
