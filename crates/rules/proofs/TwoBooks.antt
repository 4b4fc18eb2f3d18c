-- Demand 3 (specs/Order.antt), proved. Assumes nothing.
use mathlib.Core.Path.{◌≡◌, refl, sym, ◌∙◌}
use mathlib.Core.List.{List, []}
use Prim.Native.Nat.{ℕ, zero, suc, zero-le}
use native.Mathlib.Nat.{suc-ne-zero}
use lib.IntN.{ℤ, pos}
use lib.ListN.{length}
use lib.Signed.{◌≤ℤ◌, ≤ℤ_refl}
use Rattle.numbers.specs.Tests.{all}
use Rattle.numbers.specs.Causes.{if_done}
use Rattle.rules.specs.Entry.{Record}
use Rattle.rules.specs.Words.{laid}
use Rattle.rules.specs.Book.{open_cause}
use Rattle.rules.specs.Balance.{Volume, balance, party_day_cause, balance_answer}
use Rattle.rules.specs.Collateral.{collateral_cause, collateral_of, collateral_answer, refused_collateral}
use Rattle.rules.specs.Calls.{no_figures}
use Rattle.rules.specs.Ledger.{Call, book_calls, book_after, book_answers, ledger, ledger_after, ledger_answers}
use Rattle.rules.specs.Compared.{Each, AlikeCalls}
use Rattle.rules.specs.Order.{TwoBooks, AsLedger, book_of, records_of, fresh}
use Rattle.case_figures.specs.declared.Case.{Case}
use Rattle.rules.specs.declared.BalanceAnswer.{BalanceAnswer}
use Rattle.rules.specs.declared.Collateral.{Collateral}
use Rattle.rules.proofs.WordLaws.{Fits, laid-book}
use Rattle.rules.proofs.BookLaws.{open-limits, opened-laid}
use Rattle.rules.proofs.EachLaws.{each-equal}
use Rattle.rules.proofs.SumOrder.{Twins, lower-balance, same-sums, equal-balance}
use Rattle.rules.proofs.CollateralOrder.{lower-total, equal-collateral}
use Rattle.rules.proofs.AskedLaws.{asked_cause, case_cause, asked-cause, case-cause}
use Rattle.rules.proofs.Machine.{Agree, same-answers, same-states}
use Rattle.rules.proofs.Shows.{Shows, shown-fits, show-step}
use Rattle.rules.proofs.TwinCalls.{twin-step}

-- what a balance and a collateral answer on a book of these records
abbrev balance_over : Volume → ℕ → ℕ → ℕ → ℕ → List Record → BalanceAnswer
balance_over v R TM p d rs =
    record { answer = asked_cause p d; balance = if_done (asked_cause p d) (balance v R TM p d rs) (pos 0) }

abbrev collateral_over : Case → List Record → Collateral
collateral_over c rs = if_done (case_cause c) (collateral_of c rs) (refused_collateral (case_cause c))

not-refused : (k : ℕ) (a : Collateral) → (if_done k a (refused_collateral k)).answer ≡ 0 → if_done k a (refused_collateral k) ≡ a
not-refused zero a e = refl
not-refused (suc k) a e = absurd (suc-ne-zero k e)

done-lower : (k : ℕ) {a b : ℤ} → a ≤ℤ b → if_done k a (pos 0) ≤ℤ if_done k b (pos 0)
done-lower zero h = h
done-lower (suc k) h = ≤ℤ_refl (pos 0)

module _ {R TM : ℕ} {rs : List Record} {ws : List ℕ} (f : Fits R TM rs ws) where
  balance-laid : (v : Volume) (p d : ℕ) → balance_answer v (laid R TM rs ws) p d ≡ balance_over v R TM p d rs
  unfolding balance_answer party_day_cause
  balance-laid v p d = let l = laid-book f in rw (l.is-book, l.holds, l.coefficient, l.tolerance)

  collateral-laid : (c : Case) → collateral_answer (laid R TM rs ws) c ≡ collateral_over c rs
  unfolding collateral_answer collateral_cause party_day_cause
  collateral-laid c = let l = laid-book f in rw (l.is-book, l.holds)

-- one list on one fresh book
module _ (ws : List ℕ) (R TM : ℕ) (cs : List Call) (opened : open_cause (length ws) R TM ≡ 0) where
  step : (w : List ℕ) (rs : List Record) (c d : Call) → Shows ws R TM w rs → c ≡ d → Agree book_calls (ledger (length ws)) (Shows ws R TM) w rs c d
  step =
      let o = open-limits (length ws) R TM opened in
      show-step ws R TM o.long o.coefficient o.tolerance

  start : Shows ws R TM (fresh ws R TM) []
  unfolding all
  start = record { words = opened-laid ws R TM opened; kept = refl; room = zero-le }

  shown : Shows ws R TM (book_of ws R TM cs) (records_of ws cs)
  unfolding book_after ledger_after
  shown = same-states no_figures book_calls (ledger (length ws)) (Shows ws R TM) (λ c d. c ≡ d) step cs cs (each-equal cs) (fresh ws R TM) [] start

  fits : Fits R TM (records_of ws cs) ws
  fits =
      let o = open-limits (length ws) R TM opened in
      shown-fits ws R TM o.long o.coefficient o.tolerance (book_of ws R TM cs) (records_of ws cs) shown

  same-as-ledger : book_answers (fresh ws R TM) cs ≡ ledger_answers (length ws) cs
  unfolding book_answers ledger_answers
  same-as-ledger =
      same-answers no_figures book_calls (ledger (length ws)) (Shows ws R TM) (λ c d. c ≡ d) step cs cs (each-equal cs) (fresh ws R TM) [] start

  balance-of : (v : Volume) (p d : ℕ) → balance_answer v (book_of ws R TM cs) p d ≡ balance_over v R TM p d (records_of ws cs)
  balance-of v p d = rw shown.words (balance-laid fits v p d)

  collateral-of : (c : Case) → collateral_answer (book_of ws R TM cs) c ≡ collateral_over c (records_of ws cs)
  collateral-of c = rw shown.words (collateral-laid fits c)

  done-collateral : (c : Case) → (collateral_answer (book_of ws R TM cs) c).answer ≡ 0 → collateral_answer (book_of ws R TM cs) c ≡ collateral_of c (records_of ws cs)
  done-collateral c e = collateral-of c ∙ not-refused (case_cause c) (collateral_of c (records_of ws cs)) (rw (collateral-of c) at e)

  pub as-ledger : AsLedger ws R TM cs
  as-ledger =
      record {
        answers = same-as-ledger;
        words = shown.words;
        lent = rw shown.words (laid-book fits).long;
        balances = λ v p d k a. balance-of v p d ∙ rw (asked-cause p d k a);
        collaterals = λ c k a. collateral-of c ∙ rw (case-cause c k a);
      }

module _ (ws vs : List ℕ) (R TM : ℕ) (cs ds : List Call) (same : length ws ≡ length vs) (alike : Each AlikeCalls cs ds) where
  twins : Twins (records_of ws cs) (records_of vs ds)
  unfolding ledger_after
  twins =
      rw (← same)
      (same-states no_figures (ledger (length ws)) (ledger (length ws)) Twins AlikeCalls
      (λ rs ss c d tw a. twin-step (length ws) rs ss tw c d a) cs ds alike [] [] tt)

  ledgers-alike : ledger_answers (length ws) cs ≡ ledger_answers (length vs) ds
  unfolding ledger_answers
  ledgers-alike =
      rw (← same)
      (same-answers no_figures (ledger (length ws)) (ledger (length ws)) Twins AlikeCalls
      (λ rs ss c d tw a. twin-step (length ws) rs ss tw c d a) cs ds alike [] [] tt)

pub two-books : TwoBooks
unfolding collateral_of
two-books ws vs R TM cs ds same opened alike =
    let rs = records_of ws cs in
    let ss = records_of vs ds in
    let opened' : open_cause (length vs) R TM ≡ 0 = rw (← same) opened in
    let tw = twins ws vs R TM cs ds same alike in
    let one = as-ledger ws R TM cs opened in
    let two = as-ledger vs R TM ds opened' in
    record {
      first = one;
      second = two;
      alike = one.answers ∙ ledgers-alike ws vs R TM cs ds same alike ∙ sym two.answers;
      keys = tw;
      lower_balance = λ v p d each.
          rw (balance-of ws R TM cs opened v p d, balance-of vs R TM ds opened' v p d)
          (done-lower (asked_cause p d) (lower-balance p d rs ss tw each v R TM));
      lower_collateral = λ b c l m e e'.
          rw (done-collateral ws R TM cs opened b e, done-collateral vs R TM ds opened' c e') (lower-total b c rs ss l m);
      equal_balance = λ v p d each.
          rw (balance-of ws R TM cs opened v p d, balance-of vs R TM ds opened' v p d, equal-balance p rs ss tw each v R TM d);
      equal_collateral = λ c each.
          rw (collateral-of ws R TM cs opened c, collateral-of vs R TM ds opened' c, equal-collateral c rs ss (same-sums c.asked.party rs ss tw each));
    }
