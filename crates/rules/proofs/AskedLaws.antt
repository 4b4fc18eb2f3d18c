-- What may be asked of a book, as the claim of demand 3 says it and as the calls test it. Assumes nothing.
use mathlib.Core.Path.{◌≡◌, refl, sym, ◌∙◌}
use mathlib.Core.Logic.{inl, inr}
use mathlib.Core.Bool.{Bool, true, false, false≢true}
use mathlib.Core.List.{List, [], ◌∷◌}
use Prim.Native.Nat.{ℕ, zero, suc}
use lib.IntN.{nat_abs}
use lib.ListN.{take}
use borrow.Author.Tests.{le-leb, leb-true}
use Rattle.numbers.specs.Tests.{all}
use Rattle.numbers.specs.Causes.{unless, first_of}
use Rattle.numbers.proofs.TestLaws.{bool_cases, and_split}
use Rattle.rules.specs.Entry.{party_ok, day_ok}
use Rattle.rules.specs.Collateral.{month_ok, figures_ok}
use Rattle.rules.specs.Compared.{IsParty, IsDay, AskedAnswer, asked_done, no_party, no_day, UsedInRange, IsCase, CaseAnswer, case_done, not_asked, no_figure}
use Rattle.case_figures.specs.declared.Month.{Month}
use Rattle.case_figures.specs.declared.Case.{Case}
use Rattle.rules.proofs.WordLaws.{within-true}
use Rattle.rules.proofs.Limits.{case-ranges, month-limit}

-- the calls' causes, past 'not a book'
abbrev pub asked_cause : ℕ → ℕ → ℕ
asked_cause p d = first_of (unless (party_ok p) 3 ∷ unless (day_ok d) 4 ∷ [])

abbrev pub case_cause : Case → ℕ
case_cause c = first_of (asked_cause c.asked.party c.asked.day ∷ unless (figures_ok c) 12 ∷ [])

-- a test and a proposition that say the same: what the one refuses the other does
fails : {P : Type 0} (t : Bool) → (t ≡ true → P) → ¬ P → t ≡ false
fails true h n = absurd (n (h refl))
fails false h n = refl

refuses : {P : Type 0} (t : Bool) → (P → t ≡ true) → t ≡ false → ¬ P
refuses t h e p = false≢true (sym e ∙ h p)

is-party : (p : ℕ) → IsParty p → party_ok p ≡ true
is-party p h = rw (le-leb 1 p h.0) (le-leb p 999 h.1)

party-is : (p : ℕ) → party_ok p ≡ true → IsParty p
party-is p e = within-true 1 999 p e

is-day : (d : ℕ) → IsDay d → day_ok d ≡ true
is-day d h = le-leb d 36524 h

day-is : (d : ℕ) → day_ok d ≡ true → IsDay d
day-is d e = leb-true d 36524 e

-- month answers that are used
months-are : (n : ℕ) (ms : List Month) → all month_ok (take n ms) ≡ true → UsedInRange n ms
unfolding all
months-are zero ms e = tt
months-are (suc n) [] e = tt
months-are (suc n) (m ∷ ms) e =
    let s = and_split (month_ok m) (all month_ok (take n ms)) e in
    let h = month-limit m s.0 in
    (h.0, h.1, months-are n ms s.1)

are-months : (n : ℕ) (ms : List Month) → UsedInRange n ms → all month_ok (take n ms) ≡ true
unfolding all month_ok
are-months zero ms h = refl
are-months (suc n) [] h = refl
are-months (suc n) (m ∷ ms) h =
    rw (le-leb m.aosmf 1000000 h.0, le-leb (nat_abs m.aedm) 14900000000 h.1) (are-months n ms h.2)

case-is : (c : Case) → figures_ok c ≡ true → IsCase c
case-is c e =
    let r = case-ranges c e in
    record {
      licence = r.licence;
      holiday = r.holiday;
      responsible = r.responsible;
      capacity = r.capacity;
      nonbusiness = r.nonbusiness;
      defaults = r.defaults;
      used = r.used;
      months = months-are c.group.used c.group.months r.months;
      rk = r.rk;
      rt = r.rt;
      yt = r.yt;
      best = r.best;
      score = r.score;
    }

is-case : (c : Case) → IsCase c → figures_ok c ≡ true
unfolding figures_ok
is-case c h =
    rw (
      le-leb _ 2 h.licence,
      le-leb _ 1 h.holiday,
      le-leb _ 1 h.responsible,
      le-leb _ 100000000 h.capacity,
      le-leb _ 29 h.nonbusiness,
      le-leb _ 30 h.defaults,
      le-leb _ 3 h.used,
      are-months c.group.used c.group.months h.months,
      le-leb _ 500 h.rk,
      le-leb _ 1000000000000000 h.rt,
      le-leb _ 100000000000000 h.yt,
      le-leb 1 _ h.best.0,
      le-leb _ 10000 h.best.1,
      le-leb _ _ h.score,
    )

-- the answers of the claim are the calls' causes, and every question has one
pub asked-cause : (p d k : ℕ) → AskedAnswer p d k → asked_cause p d ≡ k
asked-cause p d k (asked_done h g) = rw (is-party p h, is-day d g)
asked-cause p d k (no_party n) = rw (fails (party_ok p) (party-is p) n)
asked-cause p d k (no_day h n) = rw (is-party p h, fails (day_ok d) (day-is d) n)

pub asked-answer : (p d : ℕ) → AskedAnswer p d (asked_cause p d)
asked-answer p d =
    elim (bool_cases (party_ok p)) [
      | inl e ↦
          elim (bool_cases (day_ok d)) [
            | inl g ↦ rw (e, g) (asked_done (party-is p e) (day-is d g))
            | inr g ↦ rw (e, g) (no_day (party-is p e) (refuses (day_ok d) (is-day d) g))
          ]
      | inr e ↦ rw e (no_party (refuses (party_ok p) (is-party p) e))
    ]

pub case-cause : (c : Case) (k : ℕ) → CaseAnswer c k → case_cause c ≡ k
case-cause c k (case_done a h) = rw (asked-cause c.asked.party c.asked.day 0 a, is-case c h)
case-cause c k (not_asked {k = j} a) = rw (asked-cause c.asked.party c.asked.day (suc j) a)
case-cause c k (no_figure a n) = rw (asked-cause c.asked.party c.asked.day 0 a, fails (figures_ok c) (case-is c) n)

pub case-answer : (c : Case) → CaseAnswer c (case_cause c)
case-answer c = go (asked_cause c.asked.party c.asked.day) (asked-answer c.asked.party c.asked.day)
  where
    go : (k : ℕ) → AskedAnswer c.asked.party c.asked.day k → CaseAnswer c (first_of (k ∷ unless (figures_ok c) 12 ∷ []))
    go zero a =
        elim (bool_cases (figures_ok c)) [
          | inl e ↦ rw e (case_done a (case-is c e))
          | inr e ↦ rw e (no_figure a (refuses (figures_ok c) (is-case c) e))
        ]
    go (suc k) a = not_asked a
