-- Trading and the total of a case over a book's entries, and the answer by its cause. Assumes nothing.
use mathlib.Core.Path.{◌≡◌, sym, ◌∙◌}
use mathlib.Core.Bool.{true, cond, ◌&&◌}
use mathlib.Core.List.{List}
use Prim.Native.Nat.{ℕ, ◌+◌, ◌*◌, max, ◌≤◌}
use native.Mathlib.Nat.{mul-le-mul}
use native.Mathlib.Omega.{arith}
use lib.Dec.{eqb, ltb}
use lib.ListN.{length}
use Rattle.numbers.specs.Causes.{unless}
use Rattle.numbers.specs.Rounding.{round_up}
use Rattle.numbers.proofs.CauseLaws.{else-stop, else-none, done-else}
use Rattle.rules.specs.Refusals.{number_of}
use Rattle.rules.specs.Words.{is_book, entries}
use Rattle.rules.specs.Balance.{party_day_cause}
use Rattle.rules.specs.Collateral.{trading_days, money_of, debts, debt, quarters, margin, trading, imbalance, risk, yek, total_of, figures_ok, collateral_cause, collateral_of, collateral_answer, refused_collateral}
use Rattle.case_figures.specs.declared.Case.{Case}
use Rattle.rules.specs.declared.Collateral.{Collateral}
use Rattle.rules.specs.declared.refusal.Refusal.{Refusal}
use Rattle.rules.proofs.WordLaws.{book-facts}
use Rattle.rules.proofs.RefusalLaws.{number-not_zero}
use Rattle.rules.proofs.Limits.{case-ranges, debt-sum, trading-product, total-limit}

few-entries : (ws : List ℕ) → is_book ws ≡ true → length (entries ws) ≤ 3072
few-entries ws b = let f = book-facts ws b in omega arith

-- k, D and q as the code finds them
module _ (c : Case) (ws : List ℕ) (b : is_book ws ≡ true) (f : figures_ok c ≡ true) {k d q : ℕ}
    (ek : k ≡ trading_days c.trading.nonbusiness)
    (ed : d ≡ debts (money_of c.asked.party (entries ws)) 30 c.asked.day k k)
    (eq : q ≡ cond (eqb c.trading.holiday 1 && ltb 3 k) 3 4) where
  debt-is : d ≡ debt c (entries ws)
  unfolding debt
  debt-is = rw (← ek) ed

  quarters-is : q ≡ quarters c
  unfolding quarters
  quarters-is = rw (← ek) eq

  pub weighted-fits : d * (20 + c.trading.defaults) ≤ 1536000000000000000
  weighted-fits =
      let r = case-ranges c f in
      rw debt-is (mul-le-mul {m₂ = 50} (debt-sum (entries ws) (book-facts ws b).legals (few-entries ws b) c) (omega arith))

  pub trading-fits : d * (20 + c.trading.defaults) * q ≤ 6144000000000000000
  trading-fits = rw (debt-is, quarters-is) (trading-product c (case-ranges c f) (entries ws) (book-facts ws b).legals (few-entries ws b))

  pub trading-is : {r : ℕ} → r ≡ round_up (d * (20 + c.trading.defaults) * q) 80 → r ≡ trading c (entries ws)
  unfolding trading
  trading-is e = rw (← debt-is, ← quarters-is) e

-- the items and the larger of the first two
module _ (c : Case) (ws : List ℕ) (b : is_book ws ≡ true) (f : figures_ok c ≡ true) {m t i r y l : ℕ}
    (em : m ≡ margin c) (et : t ≡ trading c (entries ws)) (ei : i ≡ imbalance c) (er : r ≡ risk c) (ey : y ≡ yek c) (el : l ≡ max m t) where
  total-is : l + i + r + y ≡ total_of c (entries ws)
  unfolding total_of
  total-is = rw (el, em, et, ei, er, ey)

  pub total-fits : l + i + r + y ≤ 77974500000000000
  total-fits = rw total-is (total-limit c (case-ranges c f) (entries ws) (book-facts ws b).legals (few-entries ws b))

  pub items-are : record { answer = 0; margin = m; trading = t; imbalance = i; risk = r; yek = y; total = l + i + r + y } ≡ collateral_of c (entries ws)
  unfolding collateral_of
  items-are = rw (total-is, em, et, ei, er, ey)

-- the answer by its cause
module _ (ws : List ℕ) (c : Case) where
  refused : (e : Refusal) → number_of e ≡ collateral_cause ws c → refused_collateral (number_of e) ≡ collateral_answer ws c
  unfolding collateral_answer
  refused e q =
      rw (← q) (sym (done-else (number_of e) (collateral_of c (entries ws)) (refused_collateral (number_of e)) (number-not_zero e)))

  pub not-asked : (e : Refusal) → number_of e ≡ party_day_cause ws c.asked.party c.asked.day → refused_collateral (number_of e) ≡ collateral_answer ws c
  unfolding collateral_cause
  not-asked e q = refused e (rw (← q) (sym (else-stop _ _ (number-not_zero e))))

  pub out_of_range : (e : Refusal) → 0 ≡ party_day_cause ws c.asked.party c.asked.day → number_of e ≡ unless (figures_ok c) 12 → refused_collateral (number_of e) ≡ collateral_answer ws c
  unfolding collateral_cause
  out_of_range e n q = refused e (rw (← n, ← q) (sym (else-none _)))

  pub answer-done : {r : Collateral} → 0 ≡ party_day_cause ws c.asked.party c.asked.day → 0 ≡ unless (figures_ok c) 12 → r ≡ collateral_of c (entries ws) → r ≡ collateral_answer ws c
  unfolding collateral_answer collateral_cause
  answer-done n m q = q ∙ sym (rw (← n, ← m))
