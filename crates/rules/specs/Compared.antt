-- What the order of two books compares (01, 'Demand 3 and its ledger'), as propositions apart from the tests of the other files.
use Rattle.std.specs.Prelude.{◌⊎◌, ◌↔◌, ◌≡◌, List, [], ◌∷◌, ℕ, zero, suc, ◌+◌, ◌≤◌, nat_abs}
use Rattle.rules.specs.Entry.{Key, Record, key}
use Rattle.rules.specs.Month.{Tables, tables_of, month_answer}
use Rattle.case_figures.specs.CaseFigures.{with_months}
use Rattle.rules.specs.Ledger.{Call, post}
use Rattle.case_figures.specs.declared.Month.{Month}
use Rattle.case_figures.specs.declared.Case.{Case}

-- two lists equally long, with P at each place
module _ {A : Type 0} (P : A → A → Type 0) where
  abbrev pub Each : List A → List A → Type 0
  Each [] [] = Unit {0}
  Each [] (y ∷ ys) = ⊥
  Each (x ∷ xs) [] = ⊥
  Each (x ∷ xs) (y ∷ ys) = P x y × Each xs ys

-- the types of volumes are 1-16 and 22 (02, T-02), those of cover 7-16 and 22
abbrev pub VolumeType : ℕ → Type 0
VolumeType t = ((1 ≤ t) × (t ≤ 16)) ⊎ (t ≡ 22)

abbrev pub CoverType : ℕ → Type 0
CoverType t = ((7 ≤ t) × (t ≤ 16)) ⊎ (t ≡ 22)

-- an amount in range for its type
abbrev pub InRange : ℕ → ℕ → Type 0
InRange t a = (VolumeType t × (a ≤ 1000000000)) ⊎ ((17 ≤ t) × (t ≤ 20) × (a ≤ 10000000000000))

-- two calls alike: equal, or posts whose two amounts are both in range
pub data AlikeCalls : Call → Call → Type 0 where
  equal : {c : Call} → AlikeCalls c c
  amounts : {k : Key} {a b : ℕ} → InRange k.type a → InRange k.type b → AlikeCalls (post k a) (post k b)

-- records of equal number: equal party, day, type, counterparty and status
abbrev pub SameLabel : Record → Record → Type 0
SameLabel r s = r.label ≡ s.label

-- a party's sales of a day are its standing types 1-6, its cover its types 7-16 and 22 and others' type 6 to it
abbrev pub Standing : Record → Type 0
Standing r = r.label.status ≡ 0

abbrev pub Sale : ℕ → ℕ → Record → Type 0
Sale p d r = ((key r).party ≡ p) × ((key r).day ≡ d) × (1 ≤ (key r).type) × ((key r).type ≤ 6)

abbrev pub Cover : ℕ → ℕ → Record → Type 0
Cover p d r =
    (((key r).party ≡ p) × ((key r).day ≡ d) × CoverType (key r).type)
    ⊎ (((key r).type ≡ 6) × ((key r).counterparty ≡ p) × ((key r).day ≡ d))

-- records of equal number: a sale no larger in the second book, an item of cover no smaller
abbrev pub NoWorse : ℕ → ℕ → Record → Record → Type 0
NoWorse p d r s =
    (Standing r → Sale p d r → s.amount ≤ r.amount) × (Standing r → Cover p d r → r.amount ≤ s.amount)

-- records of equal number: a standing one that names the party does not differ
abbrev pub SameWhereNamed : ℕ → Record → Record → Type 0
SameWhereNamed p r s = Standing r → (((key r).party ≡ p) ⊎ ((key r).counterparty ≡ p)) → r.amount ≡ s.amount

-- a sum over the records for which P holds
pub data Sum (P : Record → Type 0) : List Record → ℕ → Type 0 where
  none : Sum P [] 0
  added : {r : Record} {rs : List Record} {n : ℕ} → P r → Sum P rs n → Sum P (r ∷ rs) (r.amount + n)
  passed : {r : Record} {rs : List Record} {n : ℕ} → ¬ P r → Sum P rs n → Sum P (r ∷ rs) n

-- sums of money are one party's, day's and type's, over standing records
abbrev pub IsMoney : ℕ → ℕ → ℕ → Record → Type 0
IsMoney p d t r = Standing r × ((key r).party ≡ p) × ((key r).day ≡ d) × ((key r).type ≡ t)

-- sums m of the first book and n of the second: purchases (17, 19) no larger in the second, sales (18, 20) no smaller,
-- zero in one exactly when in the other
pub record LowerMoney (p : ℕ) (rs ss : List Record) : Type 0 where
  pub purchases : (d t m n : ℕ) → (t ≡ 17) ⊎ (t ≡ 19) → Sum (IsMoney p d t) rs m → Sum (IsMoney p d t) ss n → n ≤ m
  pub sales : (d t m n : ℕ) → (t ≡ 18) ⊎ (t ≡ 20) → Sum (IsMoney p d t) rs m → Sum (IsMoney p d t) ss n → m ≤ n
  pub zeros : (d t m n : ℕ) → 17 ≤ t → t ≤ 20 → Sum (IsMoney p d t) rs m → Sum (IsMoney p d t) ss n → (m ≡ 0) ↔ (n ≡ 0)

-- a month answer from tables not refused, and one from tables alike but for prices, each no higher
pub record Cheaper (m n : Month) : Type 0 where
  pub tables : Tables
  pub prices : List ℕ
  pub lower : Each (λ x y. y ≤ x) tables.prices prices
  pub first : month_answer tables ≡ record { answer = 0; month = m }
  pub second : month_answer (tables_of prices tables.imbalance tables.rows tables.dm tables.group) ≡ record { answer = 0; month = n }

-- cases equal save that month answers come from tables with prices no higher
abbrev pub LowerCase : Case → Case → Type 0
LowerCase b c =
    (b ≡ with_months c b.group.months) × Each (λ m n. (m ≡ n) ⊎ Cheaper m n) b.group.months c.group.months

-- what may be asked of a book (01, 'Why a call comes back'): a party of 1 to 999 and a day of at most 36,524
abbrev pub IsParty : ℕ → Type 0
IsParty p = (1 ≤ p) × (p ≤ 999)

abbrev pub IsDay : ℕ → Type 0
IsDay d = d ≤ 36524

-- the answer of a call for a party and a day: 0, or the lowest cause
pub data AskedAnswer (p d : ℕ) : ℕ → Type 0 where
  asked_done : IsParty p → IsDay d → AskedAnswer p d 0
  no_party : ¬ IsParty p → AskedAnswer p d 3
  no_day : IsParty p → ¬ IsDay d → AskedAnswer p d 4

-- the figures of a case in their ranges, month answers only if used (01, 'Collateral')
abbrev pub UsedInRange : ℕ → List Month → Type 0
UsedInRange zero ms = Unit {0}
UsedInRange (suc n) [] = Unit {0}
UsedInRange (suc n) (m ∷ ms) = (m.aosmf ≤ 1000000) × (nat_abs m.aedm ≤ 14900000000) × UsedInRange n ms

pub record IsCase (c : Case) : Type 0 where
  pub licence : c.margin.licence ≤ 2
  pub holiday : c.trading.holiday ≤ 1
  pub responsible : c.group.responsible ≤ 1
  pub capacity : c.margin.capacity ≤ 100000000
  pub nonbusiness : c.trading.nonbusiness ≤ 29
  pub defaults : c.trading.defaults ≤ 30
  pub used : c.group.used ≤ 3
  pub months : UsedInRange c.group.used c.group.months
  pub rk : c.group.rk ≤ 500
  pub rt : c.group.rt ≤ 1000000000000000
  pub yt : c.yek.yt ≤ 100000000000000
  pub best : (1 ≤ c.yek.best) × (c.yek.best ≤ 10000)
  pub score : c.yek.score ≤ c.yek.best

-- the answer of a call for a case: that for its party and day, else 12 if another figure is out of its range
pub data CaseAnswer (c : Case) : ℕ → Type 0 where
  case_done : AskedAnswer c.asked.party c.asked.day 0 → IsCase c → CaseAnswer c 0
  not_asked : {k : ℕ} → AskedAnswer c.asked.party c.asked.day (suc k) → CaseAnswer c (suc k)
  no_figure : AskedAnswer c.asked.party c.asked.day 0 → ¬ IsCase c → CaseAnswer c 12
