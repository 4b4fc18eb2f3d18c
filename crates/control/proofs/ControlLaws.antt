-- Laws of the control of a day, on the records and on the words that hold them. Assumes nothing.
use mathlib.Core.Path.{◌≡◌, refl, sym, ap, ap₂, subst, ◌∙◌}
use mathlib.Core.Logic.{◌⊎◌, inl, inr}
use mathlib.Core.Bool.{true, cond}
use mathlib.Core.List.{List, [], ◌∷◌}
use Prim.Native.Nat.{ℕ, zero, suc, ◌+◌, ◌*◌, ◌<◌}
use native.Mathlib.Nat.{add-zero}
use native.Mathlib.Omega.{arith}
use lib.ListN.{length, get_or, drop, get_or-append}
use lib.Seq.{get_or-append_seam}
use borrow.Author.Tests.{eq-eqb, le-leb}
use Rattle.numbers.specs.Sums.{total, count}
use Rattle.numbers.specs.Tests.{any, every}
use Rattle.numbers.proofs.TestLaws.{bool_cases, or_right, any_append}
use Rattle.numbers.proofs.SumLaws.{total-append, total-map, total-cong}
use Rattle.rules.specs.Entry.{Record, no_record, with_status, status_where, key, is_cancelled, cancelled}
use Rattle.rules.specs.Words.{entries, count_of, coefficient_of, tolerance_of, used_words, laid}
use Rattle.rules.specs.Book.{is_closed, is_mark_of, entry_at}
use Rattle.rules.specs.Balance.{Volume, counted, counted_to, sum_of, bought_by, tally_of, balance_of, balance}
use Rattle.rules.specs.Compared.{Each}
use Rattle.rules.specs.Control.{Parties, is_to_cancel, cancel_of, first_pass, second_pass, after_first, after_second, mark_of, controlled_records, cancelled_entries}
use Rattle.rules.specs.Calls.{control, changed, cause_of, words_after}
use Rattle.rules.proofs.WordLaws.{book-facts, book-laid}
use Rattle.rules.proofs.SumOrder.{for_tests, to_tests, counts-for, counts-to}
use Rattle.rules.proofs.BookLaws.{Stays, entry-at}
use Rattle.rules.proofs.StatusLaws.{change_one}
use Rattle.rules.proofs.CancelLaws.{IsSale, to-cancel-is-sale, second-length, controlled-length}
use Rattle.rules.proofs.CallLaws.{entries-count, done-words, done-stays, control-passes, control-cause}

-- a record as a control may leave it: as it was, or cancelled where it was such a sale
abbrev pub Cancels : ℕ → Record → Record → Type 0
Cancels d r s = (s ≡ r) ⊎ (IsSale d r × (s ≡ with_status cancelled r))

module _ (who : Parties) (d : ℕ) where
  one-cancels : (r : Record) → Cancels d r (change_one (is_to_cancel who d) cancelled r)
  one-cancels r =
      elim (bool_cases (is_to_cancel who d r)) [
        | inl e ↦ rw e (inr (to-cancel-is-sale who d r e, refl))
        | inr e ↦ rw e (inl refl)
      ]

  -- what is cancelled in a pass is counted
  one-counted : (r : Record) → cond (is_cancelled (change_one (is_to_cancel who d) cancelled r)) 1 0 ≡ cond (is_cancelled r) 1 0 + cond (is_to_cancel who d r) 1 0
  one-counted r =
      elim (bool_cases (is_to_cancel who d r)) [
        | inl e ↦ rw (e, (to-cancel-is-sale who d r e).stands)
        | inr e ↦ rw e (omega arith)
      ]

  pub cancel-counted : (rs : List Record) → count is_cancelled (cancel_of who d rs) ≡ count is_cancelled rs + count (is_to_cancel who d) rs
  unfolding count total cancel_of status_where
  cancel-counted [] = refl
  cancel-counted (r ∷ rs) = omega (arith, one-counted r, cancel-counted rs)

-- an entry of another day adds to no sum of the day
counted-elsewhere : (p e t : ℕ) (r : Record) → ((key r).day ≡ e → ⊥) → counted p e t r ≡ 0
unfolding counted
counted-elsewhere p e t r h =
    elim (bool_cases (every (for_tests p e t r.label))) [
      | inl q ↦ absurd (h (counts-for p e t r.label q).day)
      | inr q ↦ rw q
    ]

bought-elsewhere : (p e : ℕ) (r : Record) → ((key r).day ≡ e → ⊥) → counted_to p e r ≡ 0
unfolding counted_to
bought-elsewhere p e r h =
    elim (bool_cases (every (to_tests p e r.label))) [
      | inl q ↦ absurd (h (counts-to p e r.label q).day)
      | inr q ↦ rw q
    ]

-- a sum over the records of a pass, where the pass changes nothing that is added
module _ (who : Parties) (d : ℕ) (f : Record → ℕ) (h : (r : Record) → is_to_cancel who d r ≡ true → f (with_status cancelled r) ≡ f r) where
  one_same : (r : Record) → f (change_one (is_to_cancel who d) cancelled r) ≡ f r
  one_same r = elim (bool_cases (is_to_cancel who d r)) [ inl e ↦ rw e (h r e) | inr e ↦ rw e ]

  pub total-cancel : (rs : List Record) → total f (cancel_of who d rs) ≡ total f rs
  unfolding cancel_of status_where
  total-cancel rs = total-map f (change_one (is_to_cancel who d) cancelled) rs ∙ total-cong _ f one_same rs

-- the mark adds to no sum of another day, and no pass changes what adds to one
module _ (R TM d : ℕ) (rs : List Record) (e : ℕ) (other : d ≡ e → ⊥) (f : Record → ℕ)
    (elsewhere : (r : Record) → ((key r).day ≡ e → ⊥) → f r ≡ 0) where
  cancel-keeps : (who : Parties) (ss : List Record) → total f (cancel_of who d ss) ≡ total f ss
  cancel-keeps who ss =
      total-cancel who d f
      (λ r q. let s = (to-cancel-is-sale who d r q).day in elsewhere (with_status cancelled r) (λ k. other (sym s ∙ k)) ∙ sym (elsewhere r (λ k. other (sym s ∙ k))))
      ss

  controlled-total : total f (controlled_records R TM d rs) ≡ total f rs
  unfolding controlled_records after_second after_first total mark_of
  controlled-total =
      total-append f (after_second R TM d rs) (mark_of d ∷ [])
      ∙ ap₂ ◌+◌
      (cancel-keeps (second_pass R TM d rs) (after_first R TM d rs) ∙ cancel-keeps (first_pass R TM d rs) rs)
      (ap (λ n. n + 0) (elsewhere (mark_of d) other))
      ∙ add-zero (total f rs)

cancels-again : (d : ℕ) (r s t : Record) → Cancels d r s → Cancels d s t → Cancels d r t
cancels-again d r s t (inl e) c = subst (λ x. Cancels d x t) e c
cancels-again d r s t (inr c) (inl e) = inr (c.0, e ∙ c.1)
cancels-again d r s t (inr c) (inr k) = absurd (omega (arith, k.0.stands, ap (λ x. x.label.status) c.1))

module _ (R TM d : ℕ) (rs : List Record) where
  -- nothing changes but the status of such sales, and a mark comes last
  pub only-sales : Each (Cancels d) rs (after_second R TM d rs)
  unfolding after_second after_first cancel_of status_where
  only-sales = twice (first_pass R TM d rs) (second_pass R TM d rs) rs
    where
      twice : (who then : Parties) (ss : List Record) → Each (Cancels d) ss (cancel_of then d (cancel_of who d ss))
      twice who then [] = tt
      twice who then (r ∷ ss) =
          (cancels-again d r (change_one (is_to_cancel who d) cancelled r) (change_one (is_to_cancel then d) cancelled (change_one (is_to_cancel who d) cancelled r)) (one-cancels who d r) (one-cancels then d (change_one (is_to_cancel who d) cancelled r)), twice who then ss)

  -- the entries cancelled are counted exactly
  pub counted-exactly : count is_cancelled (controlled_records R TM d rs) ≡ count is_cancelled rs + cancelled_entries R TM d rs
  unfolding controlled_records cancelled_entries after_second after_first count total mark_of
  counted-exactly =
      omega (
        arith,
        total-append (λ r. cond (is_cancelled r) 1 0) (after_second R TM d rs) (mark_of d ∷ []),
        cancel-counted (second_pass R TM d rs) d (after_first R TM d rs),
        cancel-counted (first_pass R TM d rs) d rs,
      )

  pub day-closed : is_closed d (controlled_records R TM d rs) ≡ true
  unfolding is_closed controlled_records mark_of any
  day-closed =
      any_append (is_mark_of d) (after_second R TM d rs) (mark_of d ∷ [])
      ∙ or_right (any (is_mark_of d) (after_second R TM d rs)) _ (rw (eq-eqb d d refl))

  -- other days' sums and balances are as before
  pub other-sums : (p e : ℕ) → (d ≡ e → ⊥) → (t : ℕ) → sum_of p e t (controlled_records R TM d rs) ≡ sum_of p e t rs
  unfolding sum_of
  other-sums p e h t = controlled-total R TM d rs e h (counted p e t) (counted-elsewhere p e t)

  pub other-bought : (p e : ℕ) → (d ≡ e → ⊥) → bought_by p e (controlled_records R TM d rs) ≡ bought_by p e rs
  unfolding bought_by
  other-bought p e h = controlled-total R TM d rs e h (counted_to p e) (bought-elsewhere p e)

  other-tally : (p e : ℕ) → (d ≡ e → ⊥) → tally_of p e (controlled_records R TM d rs) ≡ tally_of p e rs
  unfolding tally_of
  other-tally p e h = simp (other-sums p e h)

  pub other-balances : (v : Volume) (coefficient tolerance p e : ℕ) → (d ≡ e → ⊥) →
      balance v coefficient tolerance p e (controlled_records R TM d rs) ≡ balance v coefficient tolerance p e rs
  unfolding balance
  other-balances v coefficient tolerance p e h = ap₂ (balance_of v coefficient tolerance) (other-tally p e h) (other-bought p e h)

-- the call
module _ (ws : List ℕ) (d : ℕ) where
  -- the records that a done control leaves
  abbrev pub left : List Record
  left = controlled_records (coefficient_of ws) (tolerance_of ws) d (entries ws)

  -- a controlled book is a book
  pub control-stays : cause_of ws (control d) ≡ 0 → Stays ws (words_after ws (control d)) left (count_of ws + 1)
  unfolding changed
  control-stays e =
      let n : length left ≡ count_of ws + 1 = controlled-length (coefficient_of ws) (tolerance_of ws) d (entries ws) ∙ ap (λ k. k + 1) (entries-count ws) in
      subst (Stays ws (words_after ws (control d)) left) n (done-stays ws (control d) e)

  -- a second control of the day answers 8
  pub control-again : cause_of ws (control d) ≡ 0 → cause_of (words_after ws (control d)) (control d) ≡ 8
  control-again e =
      let s = control-stays e in
      rw (control-cause, s.is-book, le-leb d 36524 (control-passes ws d e).day, s.holds, day-closed (coefficient_of ws) (tolerance_of ws) d (entries ws))

each_at : {A : Type 0} (P : A → A → Type 0) (xs ys : List A) (z : A) (i : ℕ) → i < length xs → Each P xs ys → P (get_or xs i z) (get_or ys i z)
each_at P [] ys z i h each = absurd (omega arith)
each_at P (x ∷ xs) [] z i h each = absurd each
each_at P (x ∷ xs) (y ∷ ys) z zero h each = each.0
each_at P (x ∷ xs) (y ∷ ys) z (suc i) h each = each_at P xs ys z i (omega arith) each.1

laid-heads : (R TM : ℕ) (rs ss : List Record) (ws : List ℕ) →
    (get_or (laid R TM rs ws) 1 0 ≡ get_or (laid R TM ss ws) 1 0) × (get_or (laid R TM rs ws) 2 0 ≡ get_or (laid R TM ss ws) 2 0)
unfolding laid used_words
laid-heads R TM rs ss ws = (refl, refl)

-- of the words of a controlled book only these differ: the status of the day's standing bilateral sales, the count, and the five words of the mark
pub record OnlyThese (ws vs : List ℕ) (d : ℕ) : Type 0 where
  pub entry : (i : ℕ) → i < count_of ws → Cancels d (entry_at ws i) (entry_at vs i)
  pub mark : entry_at vs (count_of ws) ≡ mark_of d
  pub head : (get_or vs 1 0 ≡ get_or ws 1 0) × (get_or vs 2 0 ≡ get_or ws 2 0)
  pub past : drop (3 + 5 * (count_of ws + 1)) vs ≡ drop (3 + 5 * (count_of ws + 1)) ws

module _ (ws : List ℕ) (d : ℕ) (e : cause_of ws (control d) ≡ 0) where
  entry-left : (i : ℕ) → i < count_of ws + 1 → entry_at (words_after ws (control d)) i ≡ get_or (left ws d) i no_record
  entry-left i h =
      let s = control-stays ws d e in
      entry-at (words_after ws (control d)) i (rw s.count h) ∙ ap (λ rs. get_or rs i no_record) s.holds

  -- what two laid books have in common is kept
  at_head : (i : ℕ) → get_or (laid (coefficient_of ws) (tolerance_of ws) (left ws d) ws) i 0 ≡ get_or (laid (coefficient_of ws) (tolerance_of ws) (entries ws) ws) i 0 →
      get_or (words_after ws (control d)) i 0 ≡ get_or ws i 0
  unfolding changed
  at_head i q =
      ap (λ vs. get_or vs i 0) (done-words ws (control d) e) ∙ q ∙ sym (ap (λ vs. get_or vs i 0) (book-laid ws (control-passes ws d e).is-book))

  pub only-these : OnlyThese ws (words_after ws (control d)) d
  unfolding controlled_records
  only-these =
      let s = control-stays ws d e in
      let b = (control-passes ws d e).is-book in
      let n = (book-facts ws b).count in
      let cs : List Record = after_second (coefficient_of ws) (tolerance_of ws) d (entries ws) in
      let l : length cs ≡ count_of ws = second-length (coefficient_of ws) (tolerance_of ws) d (entries ws) ∙ n in
      record {
        entry = λ i h.
            subst (Cancels d (entry_at ws i)) (sym (entry-left i (omega arith) ∙ get_or-append cs (mark_of d ∷ []) no_record i (rw l h)))
            (subst (λ r. Cancels d r (get_or cs i no_record)) (sym (entry-at ws i h))
            (each_at (Cancels d) (entries ws) cs no_record i (rw n h) (only-sales (coefficient_of ws) (tolerance_of ws) d (entries ws))));
        mark = entry-left (count_of ws) (omega arith) ∙ rw (← l) (get_or-append_seam cs (mark_of d) [] no_record);
        head = (at_head 1 (laid-heads _ _ _ _ ws).0, at_head 2 (laid-heads _ _ _ _ ws).1);
        past = s.past;
      }
