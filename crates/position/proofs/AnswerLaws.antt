-- What the calls answer, by cause. Assumes nothing.
use mathlib.Core.Path.{◌≡◌, sym, ap}
use mathlib.Core.Bool.{true}
use mathlib.Core.List.{List, [], ◌∷◌}
use Prim.Native.Nat.{ℕ, ◌≤◌}
use lib.IntN.{ℤ, pos}
use borrow.Author.Tests.{leb-true}
use Rattle.numbers.specs.Causes.{unless}
use Rattle.numbers.proofs.CauseLaws.{clear-all, unless-zero, done-else}
use Rattle.rules.specs.Refusals.{number_of}
use Rattle.rules.specs.Entry.{party_ok, day_ok}
use Rattle.rules.specs.Words.{is_book, entries, coefficient_of, tolerance_of}
use Rattle.rules.specs.Balance.{Volume, tally_of, bought_by, balance, balance_of, party_day_cause, tally_answer, balance_answer, no_tally}
use Rattle.rules.specs.declared.refusal.Refusal.{Refusal}
use Rattle.rules.specs.declared.PartyDay.{PartyDay}
use Rattle.rules.specs.declared.TallyAnswer.{TallyAnswer}
use Rattle.rules.specs.declared.BalanceAnswer.{BalanceAnswer}
use Rattle.rules.proofs.WordLaws.{within-true}
use Rattle.rules.proofs.RefusalLaws.{number-not_zero}
use Rattle.tally.specs.Scan.{scanned}

-- a call that is not refused
pub record Passes (ws : List ℕ) (p d : ℕ) : Type 0 where
  pub is-book : is_book ws ≡ true
  pub party : p ≤ 999
  pub day : d ≤ 36524

module _ (ws : List ℕ) (p d : ℕ) where
  pub passes : 0 ≡ party_day_cause ws p d → Passes ws p d
  unfolding party_day_cause
  passes e =
      let h = clear-all (unless (is_book ws) 1 ∷ unless (party_ok p) 3 ∷ unless (day_ok d) 4 ∷ []) (sym e) in
      record {
        is-book = unless-zero _ 0 h.0;
        party = (within-true 1 999 p (unless-zero _ 2 h.1.0)).1;
        day = leb-true d 36524 (unless-zero _ 3 h.1.1.0);
      }

  pub tally-refused : (e : Refusal) → number_of e ≡ party_day_cause ws p d → ◌≡◌ {A = TallyAnswer} (record { answer = number_of e; tally = no_tally; bought = 0 }) (tally_answer ws p d)
  unfolding tally_answer
  tally-refused e q =
      rw (← q, done-else (number_of e) (tally_of p d (entries ws)) no_tally (number-not_zero e), done-else (number_of e) (bought_by p d (entries ws)) 0 (number-not_zero e))

  pub tally-done : 0 ≡ party_day_cause ws p d → {x : PartyDay} → x ≡ scanned p d (entries ws) → ◌≡◌ {A = TallyAnswer} (record { answer = 0; tally = x.tally; bought = x.bought }) (tally_answer ws p d)
  unfolding tally_answer
  tally-done e q = rw (q, ← e)

  module _ (v : Volume) where
    pub balance-refused : (e : Refusal) → number_of e ≡ party_day_cause ws p d → ◌≡◌ {A = BalanceAnswer} (record { answer = number_of e; balance = pos 0 }) (balance_answer v ws p d)
    unfolding balance_answer
    balance-refused e q =
        rw (← q, done-else (number_of e) (balance v (coefficient_of ws) (tolerance_of ws) p d (entries ws)) (pos 0) (number-not_zero e))

    -- the balance of what the scan read, with the book's R and TM
    pub balance-done : 0 ≡ party_day_cause ws p d → {x : PartyDay} {R TM : ℕ} {z : ℤ} → x ≡ scanned p d (entries ws) → R ≡ coefficient_of ws → TM ≡ tolerance_of ws →
        z ≡ balance_of v R TM x.tally x.bought → ◌≡◌ {A = BalanceAnswer} (record { answer = 0; balance = z }) (balance_answer v ws p d)
    unfolding balance_answer balance
    balance-done e q g h b = rw (← e) (ap (λ z. record { answer = 0; balance = z }) (rw (q, g, h) at b))
