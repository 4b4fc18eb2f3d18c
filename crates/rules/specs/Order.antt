-- Demand 3: the order of two books, one claim about two whole lists of calls (00, demand 3). `two-books` of proofs/TwoBooks.antt proves it.
use Rattle.std.specs.Prelude.{◌≡◌, List, ℕ, ◌≤◌, pos, length, ◌≤ℤ◌}
use Rattle.numbers.specs.Causes.{if_done}
use Rattle.rules.specs.Entry.{Record}
use Rattle.rules.specs.Words.{laid}
use Rattle.rules.specs.Book.{open_cause, open_words}
use Rattle.rules.specs.Balance.{Volume, balance, balance_answer}
use Rattle.rules.specs.Collateral.{collateral_of, collateral_answer, refused_collateral}
use Rattle.rules.specs.Ledger.{Call, book_after, book_answers, ledger_after, ledger_answers}
use Rattle.rules.specs.Compared.{Each, AlikeCalls, SameLabel, NoWorse, SameWhereNamed, LowerMoney, LowerCase, AskedAnswer, CaseAnswer}
use Rattle.case_figures.specs.declared.Case.{Case}

-- a fresh book: as opening left it; and the book that a list of calls leaves of it
abbrev pub fresh : List ℕ → ℕ → ℕ → List ℕ
fresh ws R TM = open_words ws R TM

abbrev pub book_of : List ℕ → ℕ → ℕ → List Call → List ℕ
book_of ws R TM cs = book_after (fresh ws R TM) cs

-- the ledger is fed the number of words lent and the calls' figures
abbrev pub records_of : List ℕ → List Call → List Record
records_of ws cs = ledger_after (length ws) cs

-- a book answers as its ledger and ends with the ledger's count, R and TM as opened, the records in order and the words past them as they were;
-- on it both balances and collateral equal their formulas over the ledger's standing records
pub record AsLedger (ws : List ℕ) (R TM : ℕ) (cs : List Call) : Type 0 where
  pub answers : book_answers (fresh ws R TM) cs ≡ ledger_answers (length ws) cs
  pub words : book_of ws R TM cs ≡ laid R TM (records_of ws cs) ws
  pub lent : length (book_of ws R TM cs) ≡ length ws
  -- a party or day out of range is refused by 3 or 4, with balance 0
  pub balances : (v : Volume) (p d k : ℕ) → AskedAnswer p d k →
      balance_answer v (book_of ws R TM cs) p d ≡ record { answer = k; balance = if_done k (balance v R TM p d (records_of ws cs)) (pos 0) }
  -- a case out of range is refused by 3, 4 or 12, with all figures 0
  pub collaterals : (c : Case) (k : ℕ) → CaseAnswer c k →
      collateral_answer (book_of ws R TM cs) c ≡ if_done k (collateral_of c (records_of ws cs)) (refused_collateral k)

pub record Claim (ws vs : List ℕ) (R TM : ℕ) (cs ds : List Call) : Type 0 where
  pub first : AsLedger ws R TM cs
  pub second : AsLedger vs R TM ds
  -- all calls are answered alike
  pub alike : book_answers (fresh ws R TM) cs ≡ book_answers (fresh vs R TM) ds
  -- records of equal number have equal keys and statuses
  pub keys : Each SameLabel (records_of ws cs) (records_of vs ds)
  -- standing sales of a day no larger, standing cover no smaller: neither balance is larger
  pub lower_balance : (v : Volume) (p d : ℕ) → Each (NoWorse p d) (records_of ws cs) (records_of vs ds) →
      (balance_answer v (book_of vs R TM ds) p d).balance ≤ℤ (balance_answer v (book_of ws R TM cs) p d).balance
  -- lower purchase money, higher sale money, equal zeros, month tables with prices no higher: the total is no larger
  pub lower_collateral : (b c : Case) → LowerCase b c → LowerMoney b.asked.party (records_of ws cs) (records_of vs ds) →
      (collateral_answer (book_of ws R TM cs) b).answer ≡ 0 → (collateral_answer (book_of vs R TM ds) c).answer ≡ 0 →
      (collateral_answer (book_of vs R TM ds) c).total ≤ (collateral_answer (book_of ws R TM cs) b).total
  -- no standing record that names the party differs: equal balances, and on equal cases equal collateral
  pub equal_balance : (v : Volume) (p d : ℕ) → Each (SameWhereNamed p) (records_of ws cs) (records_of vs ds) →
      balance_answer v (book_of ws R TM cs) p d ≡ balance_answer v (book_of vs R TM ds) p d
  pub equal_collateral : (c : Case) → Each (SameWhereNamed c.asked.party) (records_of ws cs) (records_of vs ds) →
      collateral_answer (book_of ws R TM cs) c ≡ collateral_answer (book_of vs R TM ds) c

-- any two slices of equal length, any R and TM for which opening answers 0, any two lists alike but for legal amounts
abbrev pub TwoBooks : Type 0
TwoBooks =
    (ws vs : List ℕ) (R TM : ℕ) (cs ds : List Call) →
    length ws ≡ length vs → open_cause (length ws) R TM ≡ 0 → Each AlikeCalls cs ds → Claim ws vs R TM cs ds
