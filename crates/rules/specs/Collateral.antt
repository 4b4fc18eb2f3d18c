-- The collateral case, each item and the total (01, 'Collateral').
use Rattle.std.specs.Prelude.{Bool, cond, ◌&&◌, List, [], ◌∷◌, ℕ, zero, suc, ◌+◌, ◌-◌, ◌*◌, max, eqb, leb, ltb, ℤ, nat_abs, take}
use Rattle.numbers.specs.Tests.{every, all}
use Rattle.numbers.specs.Causes.{unless, first_of, if_done}
use Rattle.numbers.specs.Rounding.{round_up}
use Rattle.numbers.specs.Signed.{is_negative, lower}
use Rattle.rules.specs.Refusals.{bad_figure}
use Rattle.rules.specs.Entry.{Record, within}
use Rattle.rules.specs.Words.{entries}
use Rattle.rules.specs.Balance.{sum_of, party_day_cause}
use Rattle.rules.specs.Month.{most_price}
use Rattle.case_figures.specs.declared.Month.{Month}
use Rattle.case_figures.specs.declared.Case.{Case}
use Rattle.rules.specs.declared.Collateral.{Collateral}

-- licences
abbrev pub generation : ℕ
generation = 2

-- Margin
unfoldable pub generation_margin : ℕ → ℕ
generation_margin capacity =
    cond (ltb 1000000 capacity) 20000000 (cond (leb 50000 capacity) (20 * capacity) 1000000)

unfoldable pub margin : Case → ℕ
margin c = cond (eqb c.margin.licence generation) (generation_margin c.margin.capacity) 20000000

-- Trading. k = 3 if h is at most 2, else 1 + h
unfoldable pub trading_days : ℕ → ℕ
trading_days h = cond (leb h 2) 3 (1 + h)

-- the sums of money of one party, by day and type
abbrev pub Money : Type 0
Money = ℕ → ℕ → ℕ

-- a day has a non-zero money entry of a market, whose purchase and sale types are b and s
abbrev pub is_active : Money → ℕ → ℕ → ℕ → Bool
is_active f b s d = ltb 0 (f d b + f d s)

-- day-ahead and intraday, of which the day is chosen by one, both or none: purchases − sales over the markets that chose it, or 0 if negative
unfoldable pub debt_of : Money → ℕ → Bool → Bool → ℕ
debt_of f d ahead intraday =
    (cond ahead (f d 17) 0 + cond intraday (f d 19) 0) - (cond ahead (f d 18) 0 + cond intraday (f d 20) 0)

-- the latest days first: n days before day g, of which the markets still choose a and b
unfoldable pub debts : Money → ℕ → ℕ → ℕ → ℕ → ℕ
debts f zero g a b = 0
debts f (suc n) zero a b = 0
debts f (suc n) (suc d) a b =
    let ahead : Bool = ltb 0 a && is_active f 17 18 d in
    let intraday : Bool = ltb 0 b && is_active f 19 20 d in
    debt_of f d ahead intraday + debts f n d (a - cond ahead 1 0) (b - cond intraday 1 0)

abbrev pub money_of : ℕ → List Record → Money
money_of p rs = λ d t. sum_of p d t rs

-- D, over the days g − 30 to g − 1
unfoldable pub debt : Case → List Record → ℕ
debt c rs = debts (money_of c.asked.party rs) 30 c.asked.day (trading_days c.trading.nonbusiness) (trading_days c.trading.nonbusiness)

-- q is 3 before a holiday with k above 3, else 4
unfoldable pub quarters : Case → ℕ
quarters c = cond (eqb c.trading.holiday 1 && ltb 3 (trading_days c.trading.nonbusiness)) 3 4

unfoldable pub trading : Case → List Record → ℕ
trading c rs = round_up (debt c rs * (20 + c.trading.defaults) * quarters c) 80

-- Imbalance: the first n month answers, latest first
abbrev pub used_months : Case → List Month
used_months c = take c.group.used c.group.months

unfoldable pub highest_price : List Month → ℕ
highest_price [] = 0
highest_price (m ∷ ms) = max m.aosmf (highest_price ms)

unfoldable pub lowest_volume : Month → List Month → ℤ
lowest_volume m [] = m.aedm
lowest_volume m (k ∷ ms) = lower m.aedm (lowest_volume k ms)

-- RK × highest AOSMF × |lowest AEDM| / 100,000 if n > 0 and the lowest AEDM is negative
unfoldable pub imbalance_over : ℕ → List Month → ℕ
imbalance_over rk [] = 0
imbalance_over rk (m ∷ ms) =
    cond (is_negative (lowest_volume m ms)) (round_up (rk * highest_price (m ∷ ms) * nat_abs (lowest_volume m ms)) 100000) 0

-- a party not responsible for its group has neither imbalance nor RT
unfoldable pub imbalance : Case → ℕ
imbalance c = cond (eqb c.group.responsible 1) (imbalance_over c.group.rk (used_months c)) 0

unfoldable pub risk : Case → ℕ
risk c = cond (eqb c.group.responsible 1) c.group.rt 0

-- YEK: YT × (larger of 5(M − T) and M) / (5M)
unfoldable pub yek : Case → ℕ
yek c = round_up (c.yek.yt * max (5 * (c.yek.best - c.yek.score)) c.yek.best) (5 * c.yek.best)

unfoldable pub total_of : Case → List Record → ℕ
total_of c rs = max (margin c) (trading c rs) + imbalance c + risk c + yek c

-- all figures are held to their ranges, month answers only if used
unfoldable pub month_ok : Month → Bool
month_ok m = leb m.aosmf most_price && leb (nat_abs m.aedm) 14900000000

unfoldable pub figures_ok : Case → Bool
figures_ok c =
    every
    (leb c.margin.licence generation
    ∷ leb c.trading.holiday 1
    ∷ leb c.group.responsible 1
    ∷ leb c.margin.capacity 100000000
    ∷ leb c.trading.nonbusiness 29
    ∷ leb c.trading.defaults 30
    ∷ leb c.group.used 3
    ∷ all month_ok (used_months c)
    ∷ leb c.group.rk 500
    ∷ leb c.group.rt 1000000000000000
    ∷ leb c.yek.yt 100000000000000
    ∷ within 1 10000 c.yek.best
    ∷ leb c.yek.score c.yek.best
    ∷ [])

unfoldable pub collateral_cause : List ℕ → Case → ℕ
collateral_cause ws c = first_of (party_day_cause ws c.asked.party c.asked.day ∷ unless (figures_ok c) bad_figure ∷ [])

abbrev pub refused_collateral : ℕ → Collateral
refused_collateral cause =
    record { answer = cause; margin = 0; trading = 0; imbalance = 0; risk = 0; yek = 0; total = 0 }

unfoldable pub collateral_of : Case → List Record → Collateral
collateral_of c rs =
    record {
      answer = 0;
      margin = margin c;
      trading = trading c rs;
      imbalance = imbalance c;
      risk = risk c;
      yek = yek c;
      total = total_of c rs;
    }

unfoldable pub collateral_answer : List ℕ → Case → Collateral
collateral_answer ws c =
    if_done (collateral_cause ws c) (collateral_of c (entries ws)) (refused_collateral (collateral_cause ws c))
