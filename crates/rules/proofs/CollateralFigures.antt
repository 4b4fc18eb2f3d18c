-- Worked figures of 01, 'Collateral': the ranges of a case, each item, the total and the case's figures one by one.
-- Each figure is worked out from the sentence of 01 that its comment names, with numbers small enough to do it by hand.
use mathlib.Core.Bool.{Bool, true}
use mathlib.Core.List.{List, [], ◌∷◌, ◌++◌}
use mathlib.Core.Path.{◌≡◌, refl}
use Prim.Native.Nat.{ℕ, zero, suc}
use lib.Dec.{eqb}
use lib.IntN.{ℤ, pos, nat_abs}
use lib.ListN.{set}
use Rattle.numbers.specs.Tests.{every}
use Rattle.rules.specs.Entry.{Record, key_of, record_of}
use Rattle.rules.specs.Collateral.{trading_days, trading, collateral_answer}
use Rattle.case_figures.specs.CaseFigures.{no_month, plain_case, with_party, with_day, with_licence, with_capacity, with_nonbusiness, with_holiday, with_defaults, with_responsible, with_months, with_used, with_rk, with_rt, with_yt, with_score, with_best}
use Rattle.rules.specs.Ledger.{Call, post, withdraw}
use Rattle.case_figures.specs.declared.Month.{Month}
use Rattle.case_figures.specs.declared.Case.{Case}
use Rattle.rules.specs.declared.Collateral.{Collateral}
use Rattle.rules.proofs.Worked.{minus, book, on, trading_is, same_numbers, computed}

-- the whole answer: answer, margin, trading, imbalance, risk, YEK, total
abbrev figures : Collateral → List ℕ
figures a = a.answer ∷ a.margin ∷ a.trading ∷ a.imbalance ∷ a.risk ∷ a.yek ∷ a.total ∷ []

abbrev answer_is : List ℕ → Case → List ℕ → Bool
answer_is ws c xs = same_numbers (figures (collateral_answer ws c)) xs

abbrev month : ℕ → ℤ → Month
month price volume = record { aosmf = price; aedm = volume }

-- party 1 on day 40: a plain supplier; and a case whose items are all above 0
abbrev here : Case
here = with_day (with_party plain_case 1) 40

-- the highest price and the lowest volume of different months
abbrev dear : Month
dear = month 3000 (minus 10)

abbrev middle : Month
middle = month 2000 (minus 20)

abbrev low : Month
low = month 1000 (minus 30)

abbrev generator : Case
generator = with_defaults (with_holiday (with_nonbusiness (with_capacity (with_licence here 2) 60000) 3) 1) 20

abbrev in_group : Case
in_group = with_rt (with_rk (with_used (with_months generator (dear ∷ middle ∷ low ∷ [])) 2) 100) 77

abbrev filled : Case
filled = with_score (with_best (with_yt in_group 1000) 8) 3

-- a purchase of 4,000,000 on the day before
abbrev bought : List ℕ
bought = book (on 39 17 4000000 ∷ [])

abbrev takes : Case → Bool
takes c = eqb (collateral_answer bought c).answer 0

-- on a refusal the other figures are 0
abbrev refused_by : ℕ → List ℕ → Case → Bool
refused_by cause ws c = answer_is ws c (cause ∷ 0 ∷ 0 ∷ 0 ∷ 0 ∷ 0 ∷ 0 ∷ [])

abbrev refuses : Case → Bool
refuses c = refused_by 12 bought c

-- the third month answer with this price and volume, used
abbrev third : ℕ → ℤ → Case
third price volume = with_used (with_months filled (dear ∷ middle ∷ month price volume ∷ [])) 3

-- these month answers, of which n are used
abbrev used_of : ℕ → List Month → Case
used_of n ms = with_used (with_months filled ms) n

abbrev wild_price : Month
wild_price = month 1000001 (pos 0)

-- each range at its edge, and one beyond it: licence 0 to 2, two figures of 0 or 1, capacity to 10^8, h to 29, t to 30
pub case_ranges : List Bool
case_ranges =
    takes (with_licence filled 0)
    ∷ takes (with_licence filled 1)
    ∷ takes (with_licence filled 2)
    ∷ refuses (with_licence filled 3)
    ∷ takes (with_holiday filled 0)
    ∷ takes (with_holiday filled 1)
    ∷ refuses (with_holiday filled 2)
    ∷ takes (with_responsible filled 0)
    ∷ takes (with_responsible filled 1)
    ∷ refuses (with_responsible filled 2)
    ∷ takes (with_capacity filled 0)
    ∷ takes (with_capacity filled 100000000)
    ∷ refuses (with_capacity filled 100000001)
    -- the capacity of a supplier and of a transmission company is held to its range too
    ∷ takes (with_licence (with_capacity filled 100000000) 0)
    ∷ refuses (with_licence (with_capacity filled 100000001) 0)
    ∷ refuses (with_licence (with_capacity filled 100000001) 1)
    ∷ takes (with_nonbusiness filled 29)
    ∷ refuses (with_nonbusiness filled 30)
    ∷ takes (with_defaults filled 30)
    ∷ refuses (with_defaults filled 31)
    -- n to 3; AOSMF to 10^6 and AEDM within ±14,900,000,000
    ∷ takes (with_used filled 0)
    ∷ takes (with_used filled 3)
    ∷ refuses (with_used filled 4)
    ∷ takes (third 1000000 (minus 14900000000))
    ∷ takes (third 0 (pos 14900000000))
    ∷ refuses (third 1000001 (minus 1))
    ∷ refuses (third 0 (minus 14900000001))
    ∷ refuses (third 0 (pos 14900000001))
    -- month answers only if used
    ∷ takes (used_of 0 (wild_price ∷ wild_price ∷ wild_price ∷ []))
    ∷ refuses (used_of 1 (wild_price ∷ low ∷ low ∷ []))
    ∷ takes (used_of 1 (low ∷ wild_price ∷ wild_price ∷ []))
    ∷ refuses (used_of 2 (low ∷ wild_price ∷ low ∷ []))
    ∷ takes (used_of 2 (low ∷ low ∷ month 0 (minus 14900000001) ∷ []))
    ∷ takes (used_of 2 (low ∷ low ∷ month 0 (pos 14900000001) ∷ []))
    -- RK to 500, RT to 10^15, YT to 10^14, M 1 to 10,000, T 0 to M
    ∷ takes (with_rk filled 500)
    ∷ refuses (with_rk filled 501)
    ∷ takes (with_rt filled 1000000000000000)
    ∷ refuses (with_rt filled 1000000000000001)
    ∷ takes (with_yt filled 100000000000000)
    ∷ refuses (with_yt filled 100000000000001)
    ∷ refuses (with_score (with_best filled 0) 0)
    ∷ takes (with_score (with_best filled 1) 0)
    ∷ takes (with_score (with_best filled 1) 1)
    ∷ refuses (with_score (with_best filled 1) 2)
    ∷ takes (with_best filled 10000)
    ∷ refuses (with_best filled 10001)
    ∷ takes (with_score (with_best filled 10000) 10000)
    ∷ refuses (with_score (with_best filled 10000) 10001)
    -- a party not responsible for its group has its figures held to their ranges too
    ∷ refuses (with_responsible (with_rk filled 501) 0)
    ∷ refuses (with_responsible (with_rt filled 1000000000000001) 0)
    ∷ refuses (with_responsible (with_used filled 4) 0)
    ∷ refuses (with_responsible (third 1000001 (minus 1)) 0)
    -- party 1 to 999 and day to 36,524 before any other figure; 1 before all
    ∷ refused_by 3 bought (with_party filled 0)
    ∷ takes (with_party filled 999)
    ∷ refused_by 3 bought (with_party filled 1000)
    ∷ takes (with_day filled 0)
    ∷ takes (with_day filled 36524)
    ∷ refused_by 4 bought (with_day filled 36525)
    ∷ refused_by 3 bought (with_party (with_day (with_rk filled 501) 36525) 1000)
    ∷ refused_by 4 bought (with_day (with_rk filled 501) 36525)
    ∷ refused_by 1 [] filled
    ∷ refused_by 1 (set bought 1 0x700003E9) filled
    ∷ refused_by 1 (set bought 1 0x700003E9) (with_party (with_day (with_rk filled 501) 36525) 1000)
    ∷ []

pub case_ranges-hold : every case_ranges ≡ true
unfolding computed case_ranges
case_ranges-hold = refl

-- Margin: 20 per kW from 50,000 kW on, 1,000,000 below, 20,000,000 above 1,000,000 kW and for the other licences
abbrev margin_of : ℕ → ℕ → ℕ
margin_of licence capacity = (collateral_answer (book []) (with_capacity (with_licence here licence) capacity)).margin

pub margins : List Bool
margins =
    eqb (margin_of 0 0) 20000000
    ∷ eqb (margin_of 0 60000) 20000000
    ∷ eqb (margin_of 1 0) 20000000
    ∷ eqb (margin_of 1 60000) 20000000
    ∷ eqb (margin_of 2 0) 1000000
    ∷ eqb (margin_of 2 49999) 1000000
    ∷ eqb (margin_of 2 50000) 1000000
    ∷ eqb (margin_of 2 50001) 1000020
    ∷ eqb (margin_of 2 60000) 1200000
    ∷ eqb (margin_of 2 999999) 19999980
    ∷ eqb (margin_of 2 1000000) 20000000
    ∷ eqb (margin_of 2 1000001) 20000000
    ∷ eqb (margin_of 2 100000000) 20000000
    ∷ []

pub margins-hold : every margins ≡ true
unfolding computed margins
margins-hold = refl

-- Trading: which days are chosen and what they owe. Without default days and holiday trading is D, so that
-- purchases of 1, 10, 100 and so on, day by day, show as digits which days were chosen.
abbrev h : ℕ → Case
h n = with_nonbusiness here n

-- both markets on each of the five days before day 40
abbrev five_days : List Call
five_days =
    on 39 17 1
    ∷ on 38 17 10
    ∷ on 37 17 100
    ∷ on 36 17 1000
    ∷ on 35 17 10000
    ∷ on 39 19 2
    ∷ on 38 19 20
    ∷ on 37 19 200
    ∷ on 36 19 2000
    ∷ on 35 19 20000
    ∷ []

abbrev three_days : List Call
three_days = on 38 17 1 ∷ on 37 17 10 ∷ on 36 17 100 ∷ []

abbrev three_intraday : List Call
three_intraday = on 38 19 1 ∷ on 37 19 10 ∷ on 36 19 100 ∷ []

-- a purchase of 1 on each day below d
unfoldable daily : ℕ → List Record
daily zero = []
daily (suc d) = record_of (key_of 1 d 17 0) 0 1 ∷ daily d

pub trading_debts : List Bool
trading_debts =
    -- k = 3 if h is at most 2, else 1 + h
    eqb (trading_days 0) 3
    ∷ eqb (trading_days 1) 3
    ∷ eqb (trading_days 2) 3
    ∷ eqb (trading_days 3) 4
    ∷ eqb (trading_days 4) 5
    ∷ eqb (trading_days 5) 6
    ∷ eqb (trading_days 29) 30
    -- the latest k days of each market
    ∷ trading_is five_days (h 0) 333
    ∷ trading_is five_days (h 2) 333
    ∷ trading_is five_days (h 3) 3333
    ∷ trading_is five_days (h 4) 33333
    -- among g − 30 to g − 1: 41 days of purchases, g's own among them; fewer where g is below 30
    ∷ eqb (trading (h 29) (daily 41)) 30
    ∷ eqb (trading (h 28) (daily 41)) 29
    ∷ eqb (trading (with_day (h 29) 20) (daily 41)) 20
    ∷ trading_is (on 10 17 1 ∷ on 9 17 10 ∷ on 40 17 100 ∷ on 41 17 1000 ∷ []) here 1
    ∷ trading_is (on 10 19 1 ∷ on 9 19 10 ∷ on 40 19 100 ∷ on 41 19 1000 ∷ []) here 1
    ∷ trading_is (on 0 17 1 ∷ on 1 17 10 ∷ on 2 17 100 ∷ []) (with_day here 2) 11
    ∷ trading_is (on 0 17 1 ∷ on 1 17 10 ∷ on 2 17 100 ∷ []) (with_day here 1) 1
    ∷ trading_is (on 0 17 1 ∷ on 1 17 10 ∷ on 2 17 100 ∷ []) (with_day here 0) 0
    ∷ trading_is (on 0 17 1 ∷ []) (with_day here 30) 1
    ∷ trading_is (on 0 17 1 ∷ []) (with_day here 31) 0
    -- a day whose purchases and sales net to 0, and one of sales alone, are chosen: of the three days before, two are left
    ∷ trading_is (on 39 17 5 ∷ on 39 18 5 ∷ three_days) here 11
    ∷ trading_is (on 39 18 5 ∷ three_days) here 11
    ∷ trading_is (on 39 19 5 ∷ on 39 20 5 ∷ three_intraday) here 11
    ∷ trading_is (on 39 20 5 ∷ three_intraday) here 11
    -- a zero entry, withdrawn money, another party's money and volumes choose no day
    ∷ trading_is (on 39 17 0 ∷ on 39 18 0 ∷ three_days) here 111
    ∷ trading_is (on 39 19 0 ∷ on 39 20 0 ∷ three_intraday) here 111
    ∷ trading_is (on 39 17 5 ∷ withdraw 0 ∷ three_days) here 111
    ∷ trading_is (on 39 20 5 ∷ withdraw 0 ∷ three_intraday) here 111
    ∷ trading_is (post (key_of 2 39 17 0) 5 ∷ post (key_of 2 38 18 0) 1 ∷ three_days) here 111
    ∷ trading_is (post (key_of 2 39 17 0) 5 ∷ post (key_of 2 38 18 0) 1 ∷ three_days) (with_party here 2) 5
    ∷ trading_is (on 39 16 5 ∷ on 39 7 5 ∷ post (key_of 2 39 6 1) 5 ∷ three_days) here 111
    -- each market chooses for itself: the other's days use up none of its k, nor does it choose the other's day
    ∷ trading_is (on 39 19 1000 ∷ three_days) here 1111
    ∷ trading_is (on 39 17 1000 ∷ three_intraday) here 1111
    ∷ trading_is (on 39 17 1000 ∷ on 35 19 20000 ∷ on 35 17 5 ∷ three_days) here 21011
    ∷ trading_is (on 39 17 1000 ∷ on 35 19 20000 ∷ on 35 18 5 ∷ three_days) here 21011
    ∷ trading_is (on 39 19 1000 ∷ on 35 17 20000 ∷ on 35 19 5 ∷ three_intraday) here 21011
    ∷ trading_is (on 39 19 1000 ∷ on 35 17 20000 ∷ on 35 20 5 ∷ three_intraday) here 21011
    -- purchases − sales over both markets, day by day; a negative net owes nothing and lessens no other day
    ∷ trading_is (on 39 17 70 ∷ []) here 70
    ∷ trading_is (on 39 17 70 ∷ on 39 18 30 ∷ []) here 40
    ∷ trading_is (on 39 19 70 ∷ on 39 20 30 ∷ []) here 40
    ∷ trading_is (on 39 17 70 ∷ on 39 20 30 ∷ []) here 40
    ∷ trading_is (on 39 19 70 ∷ on 39 18 30 ∷ []) here 40
    ∷ trading_is (on 39 17 70 ∷ on 39 19 30 ∷ []) here 100
    ∷ trading_is (on 39 18 70 ∷ on 39 20 30 ∷ on 38 17 7 ∷ []) here 7
    ∷ trading_is (on 39 17 30 ∷ on 39 18 70 ∷ on 38 17 7 ∷ []) here 7
    ∷ trading_is (on 39 17 1 ∷ on 39 17 2 ∷ on 39 18 1 ∷ on 39 18 1 ∷ []) here 1
    ∷ []

pub trading_debts-hold : every trading_debts ≡ true
unfolding computed daily trading_debts
trading_debts-hold = refl

-- Trading = D × (20 + t) × q / 80, rounded up; q is 3 before a holiday with k above 3, else 4
abbrev trading_for : ℕ → Case → ℕ → Bool
trading_for d c a = trading_is (on 39 17 d ∷ []) c a

abbrev before_holiday : ℕ → Case
before_holiday n = with_holiday (h n) 1

pub trading_figures : List Bool
trading_figures =
    -- 1 × 21 × 4 / 80 = 1.05; 1 × 30 × 4 / 80 = 1.5; 1 × 35 × 4 / 80 = 1.75; 1 × 40 × 4 / 80 = 2; 80 × 50 × 4 / 80 = 200
    trading_for 1 (with_defaults here 1) 2
    ∷ trading_for 1 (with_defaults here 10) 2
    ∷ trading_for 1 (with_defaults here 15) 2
    ∷ trading_for 1 (with_defaults here 20) 2
    ∷ trading_for 80 (with_defaults here 30) 200
    ∷ trading_for 80 here 80
    -- 100 × 20 × 3 / 80 = 75; 1 × 60 / 80 = 0.75; 3 × 60 / 80 = 2.25; 4 × 60 / 80 = 3; 2 × 60 / 80 = 1.5
    ∷ trading_for 100 (before_holiday 3) 75
    ∷ trading_for 100 (before_holiday 4) 75
    ∷ trading_for 100 (before_holiday 29) 75
    ∷ trading_for 100 (before_holiday 2) 100
    ∷ trading_for 100 (before_holiday 0) 100
    ∷ trading_for 100 (h 3) 100
    ∷ trading_for 100 (h 29) 100
    ∷ trading_for 1 (before_holiday 3) 1
    ∷ trading_for 2 (before_holiday 3) 2
    ∷ trading_for 3 (before_holiday 3) 3
    ∷ trading_for 4 (before_holiday 3) 3
    -- rounded once, over the whole product and the sum of the days: 1 × 21 × 3 / 80 = 0.79; (1 + 1) × 84 / 80 = 2.1
    ∷ trading_for 1 (with_defaults (before_holiday 3) 1) 1
    ∷ trading_is (on 39 17 1 ∷ on 38 17 1 ∷ []) (with_defaults here 1) 3
    ∷ trading_is [] (with_defaults here 30) 0
    -- without loss at the largest amount: 10^13 × 50 × 4 / 80; 2 × 10^13 less a kuruş × 50 × 4 / 80 = 49,999,999,999,997.5
    ∷ trading_for 10000000000000 (with_defaults here 30) 25000000000000
    ∷ trading_is (on 39 17 10000000000000 ∷ on 39 19 10000000000000 ∷ on 39 18 1 ∷ []) (with_defaults here 30) 49999999999998
    ∷ []

pub trading_figures-hold : every trading_figures ≡ true
unfolding computed trading_figures
trading_figures-hold = refl

-- Imbalance = RK × highest AOSMF × |lowest AEDM| / 100,000, rounded up: with RK 100 it is price × volume / 1,000
abbrev imbalance_of : ℕ → ℕ → List Month → ℕ
imbalance_of n rk ms = (collateral_answer (book []) (with_rk (with_used (with_months here ms) n) rk)).imbalance

abbrev one_month : ℕ → ℕ → ℤ → ℕ
one_month rk price volume = imbalance_of 1 rk (month price volume ∷ no_month ∷ no_month ∷ [])

pub imbalances : List Bool
imbalances =
    -- n month answers, latest first; the highest price and the lowest volume at each of the three places
    eqb (imbalance_of 0 100 (dear ∷ middle ∷ low ∷ [])) 0
    ∷ eqb (imbalance_of 1 100 (dear ∷ middle ∷ low ∷ [])) 30
    ∷ eqb (imbalance_of 2 100 (dear ∷ middle ∷ low ∷ [])) 60
    ∷ eqb (imbalance_of 3 100 (dear ∷ middle ∷ low ∷ [])) 90
    ∷ eqb (imbalance_of 1 100 (low ∷ middle ∷ dear ∷ [])) 30
    ∷ eqb (imbalance_of 2 100 (low ∷ middle ∷ dear ∷ [])) 60
    ∷ eqb (imbalance_of 3 100 (low ∷ middle ∷ dear ∷ [])) 90
    ∷ eqb (imbalance_of 1 100 (middle ∷ dear ∷ low ∷ [])) 40
    ∷ eqb (imbalance_of 2 100 (middle ∷ dear ∷ low ∷ [])) 60
    ∷ eqb (imbalance_of 3 100 (middle ∷ dear ∷ low ∷ [])) 90
    ∷ eqb (imbalance_of 2 100 (dear ∷ low ∷ middle ∷ [])) 90
    ∷ eqb (imbalance_of 3 100 (dear ∷ low ∷ middle ∷ [])) 90
    -- a lowest volume of 0 or above; one below 0 among others above, whose price counts
    ∷ eqb (one_month 100 1000 (pos 0)) 0
    ∷ eqb (one_month 100 1000 (pos 10)) 0
    ∷ eqb (imbalance_of 2 100 (month 1000 (pos 10) ∷ month 1000 (pos 0) ∷ low ∷ [])) 0
    ∷ eqb (one_month 100 1000 (minus 1)) 1
    ∷ eqb (imbalance_of 3 100 (month 1000 (pos 50) ∷ middle ∷ month 3000 (pos 0) ∷ [])) 60
    ∷ eqb (imbalance_of 3 100 (month 3000 (pos 50) ∷ month 1000 (pos 40) ∷ middle ∷ [])) 60
    -- rounded up: 1, 50,000, 99,999, 100,000 and 100,001 hundred-thousandths; RK as it is
    ∷ eqb (one_month 1 1 (minus 1)) 1
    ∷ eqb (one_month 1 1 (minus 50000)) 1
    ∷ eqb (one_month 1 1 (minus 99999)) 1
    ∷ eqb (one_month 1 1 (minus 100000)) 1
    ∷ eqb (one_month 1 1 (minus 100001)) 2
    ∷ eqb (one_month 1 1 (minus 150000)) 2
    ∷ eqb (one_month 0 1000 (minus 10)) 0
    ∷ eqb (one_month 100 0 (minus 10)) 0
    ∷ eqb (one_month 500 1000 (minus 10)) 50
    ∷ eqb (one_month 500 1000000 (minus 14900000000)) 74500000000000
    ∷ []

pub imbalances-hold : every imbalances ≡ true
unfolding computed imbalances
imbalances-hold = refl

-- YEK = YT × (larger of 5(M − T) and M) / (5M), rounded up
abbrev yek_of : ℕ → ℕ → ℕ → ℕ
yek_of yt best score = (collateral_answer (book []) (with_score (with_best (with_yt here yt) best) score)).yek

pub yeks : List Bool
yeks =
    -- 5(8 − 3) = 25 of 40; 5(10 − 7) = 15 of 50; 5(10 − 8) = 10 = M; 5(10 − 9) = 5 below M; T = M; T = 0
    eqb (yek_of 1000 8 3) 625
    ∷ eqb (yek_of 1000 10 7) 300
    ∷ eqb (yek_of 1000 10 8) 200
    ∷ eqb (yek_of 1000 10 9) 200
    ∷ eqb (yek_of 1000 10 10) 200
    ∷ eqb (yek_of 1000 10 0) 1000
    ∷ eqb (yek_of 1000 1 0) 1000
    ∷ eqb (yek_of 1000 1 1) 200
    ∷ eqb (yek_of 1000 10000 5000) 500
    ∷ eqb (yek_of 100000000000000 10000 0) 100000000000000
    ∷ eqb (yek_of 0 1 0) 0
    -- a fifth of 1 to 10, rounded up; halves of 1 and 3
    ∷ eqb (yek_of 1 1 1) 1
    ∷ eqb (yek_of 4 1 1) 1
    ∷ eqb (yek_of 5 1 1) 1
    ∷ eqb (yek_of 6 1 1) 2
    ∷ eqb (yek_of 8 1 1) 2
    ∷ eqb (yek_of 10 1 1) 2
    ∷ eqb (yek_of 1 2 1) 1
    ∷ eqb (yek_of 3 2 1) 2
    ∷ []

pub yeks-hold : every yeks ≡ true
unfolding computed yeks
yeks-hold = refl

-- Total = larger of margin and trading, + imbalance + risk RT + YEK: the whole answer
abbrev mixed : ℕ → List ℕ → Bool
mixed d xs = answer_is (book (on 39 17 d ∷ [])) here xs

pub totals : List Bool
totals =
    -- filled: 20 × 60,000; 4,000,000 × 40 × 3 / 80; 100 × 3,000 × 20 / 100,000; 77; 1,000 × 25 / 40
    answer_is bought filled (0 ∷ 1200000 ∷ 6000000 ∷ 60 ∷ 77 ∷ 625 ∷ 6000762 ∷ [])
    ∷ answer_is (book []) filled (0 ∷ 1200000 ∷ 0 ∷ 60 ∷ 77 ∷ 625 ∷ 1200762 ∷ [])
    -- not responsible: neither imbalance nor RT, but YEK
    ∷ answer_is bought (with_responsible filled 0) (0 ∷ 1200000 ∷ 6000000 ∷ 0 ∷ 0 ∷ 625 ∷ 6000625 ∷ [])
    -- each item alone beside the margin
    ∷ answer_is (book []) here (0 ∷ 20000000 ∷ 0 ∷ 0 ∷ 0 ∷ 0 ∷ 20000000 ∷ [])
    ∷ answer_is (book []) (with_rk (with_used (with_months here (low ∷ low ∷ low ∷ [])) 1) 100) (0 ∷ 20000000 ∷ 0 ∷ 30 ∷ 0 ∷ 0 ∷ 20000030 ∷ [])
    ∷ answer_is (book []) (with_rt here 7) (0 ∷ 20000000 ∷ 0 ∷ 0 ∷ 7 ∷ 0 ∷ 20000007 ∷ [])
    ∷ answer_is (book []) (with_yt here 9) (0 ∷ 20000000 ∷ 0 ∷ 0 ∷ 0 ∷ 9 ∷ 20000009 ∷ [])
    -- trading below, at and above the margin
    ∷ mixed 19999999 (0 ∷ 20000000 ∷ 19999999 ∷ 0 ∷ 0 ∷ 0 ∷ 20000000 ∷ [])
    ∷ mixed 20000000 (0 ∷ 20000000 ∷ 20000000 ∷ 0 ∷ 0 ∷ 0 ∷ 20000000 ∷ [])
    ∷ mixed 20000001 (0 ∷ 20000000 ∷ 20000001 ∷ 0 ∷ 0 ∷ 0 ∷ 20000001 ∷ [])
    ∷ []

pub totals-hold : every totals ≡ true
unfolding computed totals
totals-hold = refl

-- A case takes one figure at a time: a case whose figures are all different, as the list of them, and each change of one figure
abbrev months_of : List Month → List ℕ
months_of [] = []
months_of (m ∷ ms) = m.aosmf ∷ nat_abs m.aedm ∷ months_of ms

abbrev group_of : Case → List ℕ
group_of c = c.group.responsible ∷ months_of c.group.months ++ (c.group.used ∷ c.group.rk ∷ c.group.rt ∷ [])

abbrev case_of : Case → List ℕ
case_of c =
    c.asked.party
    ∷ c.asked.day
    ∷ c.margin.licence
    ∷ c.margin.capacity
    ∷ c.trading.nonbusiness
    ∷ c.trading.holiday
    ∷ c.trading.defaults
    ∷ c.yek.yt
    ∷ c.yek.score
    ∷ c.yek.best
    ∷ group_of c

abbrev numbered : Case
numbered =
    record {
      asked = record { party = 100; day = 101 };
      margin = record { licence = 102; capacity = 103 };
      trading = record { nonbusiness = 104; holiday = 105; defaults = 106 };
      group =
          record {
            responsible = 110;
            months = month 111 (pos 112) ∷ month 113 (pos 114) ∷ month 115 (pos 116) ∷ [];
            used = 117;
            rk = 118;
            rt = 119;
          };
      yek = record { yt = 107; score = 108; best = 109 };
    }

abbrev numbers : List ℕ
numbers =
    100 ∷ 101 ∷ 102 ∷ 103 ∷ 104 ∷ 105 ∷ 106 ∷ 107 ∷ 108 ∷ 109 ∷ 110 ∷ 111 ∷ 112 ∷ 113 ∷ 114 ∷ 115 ∷ 116 ∷ 117 ∷ 118 ∷ 119 ∷ []

-- figure i is 7 now, the others are as before
abbrev changes : Case → ℕ → Bool
changes c i = same_numbers (case_of c) (set numbers i 7)

pub case_figures : List Bool
case_figures =
    same_numbers (case_of numbered) numbers
    ∷ changes (with_party numbered 7) 0
    ∷ changes (with_day numbered 7) 1
    ∷ changes (with_licence numbered 7) 2
    ∷ changes (with_capacity numbered 7) 3
    ∷ changes (with_nonbusiness numbered 7) 4
    ∷ changes (with_holiday numbered 7) 5
    ∷ changes (with_defaults numbered 7) 6
    ∷ changes (with_yt numbered 7) 7
    ∷ changes (with_score numbered 7) 8
    ∷ changes (with_best numbered 7) 9
    ∷ changes (with_responsible numbered 7) 10
    ∷ changes (with_used numbered 7) 17
    ∷ changes (with_rk numbered 7) 18
    ∷ changes (with_rt numbered 7) 19
    ∷ changes (with_months numbered (month 7 (pos 112) ∷ month 113 (pos 114) ∷ month 115 (pos 116) ∷ [])) 11
    -- a plain supplier's: all figures 0, three month answers among them, M 1, own group
    ∷ same_numbers (case_of plain_case) (0 ∷ 0 ∷ 0 ∷ 0 ∷ 0 ∷ 0 ∷ 0 ∷ 0 ∷ 0 ∷ 1 ∷ 1 ∷ 0 ∷ 0 ∷ 0 ∷ 0 ∷ 0 ∷ 0 ∷ 0 ∷ 0 ∷ 0 ∷ [])
    ∷ []

pub case_figures-hold : every case_figures ≡ true
unfolding computed case_figures
case_figures-hold = refl
