-- Worked figures of 01, 'The two balances': 100 × S - the larger of 100 × TM and C × R, with R and TM other than 110 and 600,000.
-- Each type alone, all types together with amounts 2, 4, 8 .. (so that each set of types has its own sum), who and what counts, and where zero lies.
use mathlib.Core.Bool.{Bool, true, false, not, ◌&&◌, beq}
use mathlib.Core.List.{List, [], ◌∷◌, ◌++◌, map}
use mathlib.Core.Path.{◌≡◌, refl}
use Prim.Native.Nat.{ℕ}
use lib.Dec.{eqb}
use lib.IntN.{ℤ, pos}
use lib.ListN.{replicate, set}
use Rattle.numbers.specs.Tests.{every}
use Rattle.rules.specs.Entry.{Record, key_of, record_of}
use Rattle.rules.specs.Words.{used_words}
use Rattle.rules.specs.Balance.{Volume, day_ahead, delivery, sum_of, bought_by, acquired, is_detected, balance_answer, tally_answer}
use Rattle.rules.specs.declared.Tally.{Tally}
use Rattle.rules.specs.declared.TallyAnswer.{TallyAnswer}
use Rattle.rules.proofs.Worked.{minus, is_signed, same_numbers, computed}

abbrev same_signed : List ℤ → List ℤ → Bool
same_signed [] [] = true
same_signed [] (y ∷ ys) = false
same_signed (x ∷ xs) [] = false
same_signed (x ∷ xs) (y ∷ ys) = is_signed x y && same_signed xs ys

-- a standing entry of day 9,000: party, type, counterparty, amount; party 1's of a type alone
abbrev of : ℕ → ℕ → ℕ → ℕ → Record
of p t c a = record_of (key_of p 9000 t c) 0 a

abbrev of_one : ℕ → ℕ → Record
of_one t a = of 1 t 0 a

-- both balances of party 1 on day 9,000, in a book of these entries
abbrev balance_on : Volume → ℕ → ℕ → List Record → ℤ
balance_on v R TM rs = (balance_answer v (used_words R TM rs) 1 9000).balance

abbrev both_on : ℕ → ℕ → List Record → ℤ → Bool
both_on R TM rs z = is_signed (balance_on day_ahead R TM rs) z && is_signed (balance_on delivery R TM rs) z

-- types 1 to 16 without 6, and 22, 7 kWh each in a book of its own
abbrev each_alone : Volume → ℕ → ℕ → List ℤ
each_alone v R TM =
    map
    (λ t. balance_on v R TM (of_one t 7 ∷ []))
    (1 ∷ 2 ∷ 3 ∷ 4 ∷ 5 ∷ 7 ∷ 8 ∷ 9 ∷ 10 ∷ 11 ∷ 12 ∷ 13 ∷ 14 ∷ 15 ∷ 16 ∷ 22 ∷ [])

-- 2, 4, .. 65,536 of types 1 to 16, and sales to the party by two sellers, 131,072 and 262,144
abbrev all_types : List Record
all_types =
    of_one 1 2
    ∷ of_one 2 4
    ∷ of_one 3 8
    ∷ of_one 4 16
    ∷ of_one 5 32
    ∷ of 1 6 2 64
    ∷ of_one 7 128
    ∷ of_one 8 256
    ∷ of_one 9 512
    ∷ of_one 10 1024
    ∷ of_one 11 2048
    ∷ of_one 12 4096
    ∷ of_one 13 8192
    ∷ of_one 14 16384
    ∷ of_one 15 32768
    ∷ of_one 16 65536
    ∷ of 2 6 1 131072
    ∷ of 3 6 1 262144
    ∷ []

-- what counts nowhere for party 1 on day 9,000: exports, money, withdrawn and cancelled entries, other days, other parties, a mark
abbrev others : List Record
others =
    of_one 6 1
    ∷ of_one 17 2
    ∷ of_one 18 4
    ∷ record_of (key_of 1 9000 1 0) 1 8
    ∷ record_of (key_of 1 9000 6 2) 1 16
    ∷ record_of (key_of 1 9000 6 2) 2 32
    ∷ record_of (key_of 1 9000 12 0) 1 64
    ∷ record_of (key_of 2 9000 6 1) 1 128
    ∷ record_of (key_of 2 9000 6 1) 2 256
    ∷ record_of (key_of 1 8999 1 0) 0 512
    ∷ record_of (key_of 1 9001 12 0) 0 1024
    ∷ record_of (key_of 2 8999 6 1) 0 2048
    ∷ of 2 1 0 4096
    ∷ of 2 12 0 8192
    ∷ of 2 6 3 16384
    ∷ of 2 6 0 32768
    ∷ of 0 21 0 0
    ∷ []

-- the same and an updated program of 524,288
abbrev updated : List Record
updated = of_one 22 524288 ∷ all_types

-- updates that count nowhere for party 1 on day 9,000: a withdrawn one, another day's, another party's
abbrev other_updates : List Record
other_updates = record_of (key_of 1 9000 22 0) 1 100 ∷ record_of (key_of 1 9001 22 0) 0 100 ∷ of 2 22 0 100 ∷ []

-- cover of these programs alone, in hundredths: day-ahead and delivery
abbrev programs_are : List Record → ℕ → ℕ → Bool
programs_are rs ahead after = is_signed (balance_on day_ahead 100 0 rs) (minus ahead) && is_signed (balance_on delivery 100 0 rs) (minus after)

abbrev tally_is : List ℕ → ℕ → ℕ → ℕ → ℕ → List ℕ → ℕ → Bool
tally_is ws p d answer party sums bought =
    let t : TallyAnswer = tally_answer ws p d in
    every
    (eqb t.answer answer ∷ eqb t.tally.party party ∷ same_numbers t.tally.sums sums ∷ eqb t.bought bought ∷ [])

-- a refused call: its cause, and all other figures 0
abbrev refused_for : List ℕ → ℕ → ℕ → ℕ → Bool
refused_for ws p d cause =
    every
    (eqb (balance_answer day_ahead ws p d).answer cause
    ∷ is_signed (balance_answer day_ahead ws p d).balance (pos 0)
    ∷ eqb (balance_answer delivery ws p d).answer cause
    ∷ is_signed (balance_answer delivery ws p d).balance (pos 0)
    ∷ tally_is ws p d cause 0 (replicate 17 0) 0
    ∷ [])

abbrev detected_is : ℕ → ℕ → List Record → Bool → Bool
detected_is R TM rs b =
    beq (is_detected (balance_on day_ahead R TM rs)) b && beq (is_detected (balance_on delivery R TM rs)) b

abbrev tally_of_b : ℕ → ℕ → Tally
tally_of_b tender import = (tally_answer (used_words 200 0 (of_one 15 tender ∷ of_one 16 import ∷ [])) 1 9000).tally

pub balance_figures : List Bool
balance_figures =
    -- TM 0, R 200: a sale of 7 is 700, cover of 7 is -1,400; intraday types 2, 5, 8, 11 and type 22 are not in the day-ahead balance
    same_signed
    (each_alone day_ahead 200 0)
    (pos 700 ∷ pos 0 ∷ pos 700 ∷ pos 700 ∷ pos 0 ∷ minus 1400 ∷ pos 0 ∷ minus 1400 ∷ minus 1400 ∷ pos 0 ∷ minus 1400 ∷ minus 1400 ∷ minus 1400 ∷ minus 1400 ∷ minus 1400 ∷ pos 0 ∷ [])
    ∷ same_signed (each_alone delivery 200 0) (replicate 5 (pos 700) ++ replicate 11 (minus 1400))
    -- TM 5: a sale of 7 is 700 - 500, cover × 200 decides, cover × 50 does not
    ∷ same_signed (each_alone delivery 200 5) (replicate 5 (pos 200) ++ replicate 11 (minus 1400))
    ∷ same_signed (each_alone delivery 50 5) (replicate 5 (pos 200) ++ replicate 11 (minus 500))
    -- type 6: to another party, an export, another party's to this one, two sellers to one buyer
    ∷ both_on 200 0 (of 1 6 2 7 ∷ []) (pos 700)
    ∷ both_on 200 0 (of 1 6 0 7 ∷ []) (pos 0)
    ∷ both_on 200 0 (of 2 6 1 7 ∷ []) (minus 1400)
    ∷ both_on 200 0 (of 2 6 1 7 ∷ of 3 6 1 5 ∷ []) (minus 2400)
    -- S 2 + 8 + 16 + 64, C 30,336 + 393,216 + 65,536, R 300; S 126, C 32,640 + 458,752
    ∷ is_signed (balance_on day_ahead 300 1 all_types) (minus 146717400)
    ∷ is_signed (balance_on delivery 300 1 all_types) (minus 147405000)
    ∷ is_signed (balance_on day_ahead 300 1 (others ++ all_types)) (minus 146717400)
    ∷ is_signed (balance_on delivery 300 1 (all_types ++ others)) (minus 147405000)
    ∷ both_on 200 0 others (pos 0)
    -- S against the tolerance alone, R 0: 9,000 and 12,600
    ∷ is_signed (balance_on day_ahead 0 0 (all_types ++ others)) (pos 9000)
    ∷ is_signed (balance_on delivery 0 0 (all_types ++ others)) (pos 12600)
    -- updated programs: delivery has 28,544 + 524,288 + 458,752 for C, day-ahead keeps 4,096 of sum 12; an update below it changes nothing
    ∷ is_signed (balance_on day_ahead 300 1 (updated ++ others)) (minus 146717400)
    ∷ is_signed (balance_on delivery 300 1 (others ++ updated)) (minus 303462600)
    ∷ is_signed (balance_on delivery 300 1 (of_one 22 4095 ∷ all_types)) (minus 147405000)
    ∷ is_signed (balance_on delivery 300 1 (of_one 22 4097 ∷ all_types)) (minus 147405300)
    -- the larger of sums 12 and 22, never both: 30 and 20, 20 and 30, 30 and 30, 22 alone; each is a sum of its entries
    ∷ programs_are (of_one 12 30 ∷ of_one 22 20 ∷ []) 3000 3000
    ∷ programs_are (of_one 12 20 ∷ of_one 22 30 ∷ []) 2000 3000
    ∷ programs_are (of_one 22 30 ∷ of_one 12 30 ∷ []) 3000 3000
    ∷ programs_are (of_one 22 30 ∷ []) 0 3000
    ∷ programs_are (of_one 12 20 ∷ of_one 22 10 ∷ of_one 22 15 ∷ []) 2000 2500
    ∷ programs_are (of_one 12 10 ∷ of_one 22 20 ∷ of_one 12 15 ∷ []) 2500 2500
    ∷ programs_are (of_one 12 20 ∷ of_one 22 21 ∷ other_updates) 2000 2100
    -- an update of 1,000,000,000 beside all others of R and TM: 1,000 × 10^9
    ∷ is_signed (balance_on delivery 1000 200000000 (of_one 22 1000000000 ∷ [])) (minus 1000000000000)
    -- the tally: the party and seventeen sums, and B beside them
    ∷ tally_is (used_words 300 1 (all_types ++ others)) 1 9000 0 1 (2 ∷ 4 ∷ 8 ∷ 16 ∷ 32 ∷ 64 ∷ 128 ∷ 256 ∷ 512 ∷ 1024 ∷ 2048 ∷ 4096 ∷ 8192 ∷ 16384 ∷ 32768 ∷ 65536 ∷ 0 ∷ []) 393216
    ∷ tally_is (used_words 300 1 (of_one 3 5 ∷ of_one 3 6 ∷ of_one 16 9 ∷ [])) 1 9000 0 1 (0 ∷ 0 ∷ 11 ∷ 0 ∷ 0 ∷ 0 ∷ 0 ∷ 0 ∷ 0 ∷ 0 ∷ 0 ∷ 0 ∷ 0 ∷ 0 ∷ 0 ∷ 9 ∷ 0 ∷ []) 0
    ∷ tally_is (used_words 300 1 (updated ++ other_updates)) 1 9000 0 1 (2 ∷ 4 ∷ 8 ∷ 16 ∷ 32 ∷ 64 ∷ 128 ∷ 256 ∷ 512 ∷ 1024 ∷ 2048 ∷ 4096 ∷ 8192 ∷ 16384 ∷ 32768 ∷ 65536 ∷ 524288 ∷ []) 393216
    ∷ tally_is (used_words 300 1 (of_one 22 5 ∷ of_one 22 6 ∷ [])) 1 9000 0 1 (replicate 16 0 ++ (11 ∷ [])) 0
    ∷ tally_is (used_words 300 1 (of_one 3 5 ∷ [])) 2 9000 0 2 (replicate 17 0) 0
    -- sums over records: money by its type; B of type 6 alone
    ∷ eqb (sum_of 1 9000 17 others) 2
    ∷ eqb (sum_of 1 9000 18 others) 4
    ∷ eqb (bought_by 1 9000 (of 2 7 1 5 ∷ of 2 5 1 6 ∷ of 2 6 1 9 ∷ [])) 9
    -- another day: a sale of 512, a purchase of 2,048; another party: S 4,096 + 16,384, C 8,192; R 200
    ∷ eqb (sum_of 1 8999 1 others) 512
    ∷ eqb (bought_by 1 8999 others) 2048
    ∷ is_signed (balance_answer day_ahead (used_words 200 0 others) 1 8999).balance (minus 358400)
    ∷ is_signed (balance_answer delivery (used_words 200 0 others) 2 9000).balance (pos 409600)
    -- A = B + the larger of tender and import
    ∷ eqb (acquired (tally_of_b 30 20) 5) 35
    ∷ eqb (acquired (tally_of_b 20 30) 5) 35
    ∷ eqb (acquired (tally_of_b 30 30) 0) 30
    ∷ both_on 100 0 (of_one 15 30 ∷ of_one 16 20 ∷ of 2 6 1 5 ∷ []) (minus 3500)
    ∷ both_on 100 0 (of_one 15 20 ∷ of_one 16 30 ∷ of 2 6 1 5 ∷ []) (minus 3500)
    -- the larger of 100 × TM and C × R, one hundredth to either side
    ∷ both_on 99 1 (of_one 1 2 ∷ of_one 12 1 ∷ []) (pos 100)
    ∷ both_on 101 1 (of_one 1 2 ∷ of_one 12 1 ∷ []) (pos 99)
    -- above zero is detected, zero is clear: 100 - 99, 100 - 100, 100 - 101; 100 - 100 × TM
    ∷ detected_is 99 0 (of_one 1 1 ∷ of_one 12 1 ∷ []) true
    ∷ detected_is 100 0 (of_one 1 1 ∷ of_one 12 1 ∷ []) false
    ∷ detected_is 101 0 (of_one 1 1 ∷ of_one 12 1 ∷ []) false
    ∷ detected_is 0 1 (of_one 1 1 ∷ []) false
    ∷ detected_is 0 1 (of_one 1 2 ∷ []) true
    ∷ detected_is 0 0 [] false
    ∷ is_detected (pos 1)
    ∷ not (is_detected (pos 0))
    ∷ not (is_detected (minus 1))
    -- the largest R, TM and amount
    ∷ both_on 1000 200000000 [] (minus 20000000000)
    ∷ both_on 1000 200000000 (of_one 12 1000000000 ∷ []) (minus 1000000000000)
    ∷ both_on 1000 0 (of_one 1 1000000000 ∷ []) (pos 100000000000)
    -- causes 1, 3 and 4, and the lowest of two
    ∷ refused_for (set (used_words 300 1 all_types) 1 0x700003E9) 1 9000 1
    ∷ refused_for (set (used_words 300 1 all_types) 1 0x700003E9) 0 36525 1
    ∷ refused_for (used_words 300 1 all_types) 0 9000 3
    ∷ refused_for (used_words 300 1 all_types) 1000 9000 3
    ∷ refused_for (used_words 300 1 all_types) 0 36525 3
    ∷ refused_for (used_words 300 1 all_types) 1 36525 4
    ∷ is_signed (balance_answer day_ahead (used_words 300 1 []) 999 36524).balance (minus 100)
    ∷ is_signed (balance_answer delivery (used_words 300 1 []) 1 0).balance (minus 100)
    ∷ tally_is (used_words 300 1 []) 999 36524 0 999 (replicate 17 0) 0
    ∷ []

pub balance_figures-hold : every balance_figures ≡ true
unfolding computed balance_figures
balance_figures-hold = refl
