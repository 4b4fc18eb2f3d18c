-- The tally and the two balances (01, 'The two balances').
use Rattle.std.specs.Prelude.{Bool, not, cond, List, [], ◌∷◌, map, ℕ, ◌+◌, ◌-◌, ◌*◌, max, eqb, ℤ, pos, get_or, replicate}
use Rattle.std.proofs.Math.IntN.{sub_ℕ}
use Rattle.numbers.specs.Sums.{total}
use Rattle.numbers.specs.Tests.{every}
use Rattle.numbers.specs.Causes.{unless, first_of, if_done}
use Rattle.numbers.specs.Signed.{is_positive}
use Rattle.rules.specs.Refusals.{not_a_book, bad_party, bad_day}
use Rattle.rules.specs.Entry.{Record, key, is_standing, is_export, bilateral, updated_program, party_ok, day_ok}
use Rattle.rules.specs.Words.{is_book, entries, coefficient_of, tolerance_of}
use Rattle.rules.specs.declared.Tally.{Tally}
use Rattle.rules.specs.declared.TallyAnswer.{TallyAnswer}
use Rattle.rules.specs.declared.BalanceAnswer.{BalanceAnswer}

-- what a record adds to a party's sum of a day and type: only standing entries count, and an export counts nowhere
unfoldable pub counted : ℕ → ℕ → ℕ → Record → ℕ
counted p d t r =
    cond
    (every
    (is_standing r
    ∷ eqb (key r).party p
    ∷ eqb (key r).day d
    ∷ eqb (key r).type t
    ∷ not (is_export (key r))
    ∷ []))
    r.amount
    0

-- what a record adds to B: type 6 entries with this party as counterparty
unfoldable pub counted_to : ℕ → ℕ → Record → ℕ
counted_to p d r =
    cond
    (every
    (is_standing r
    ∷ eqb (key r).counterparty p
    ∷ eqb (key r).day d
    ∷ eqb (key r).type bilateral
    ∷ []))
    r.amount
    0

unfoldable pub sum_of : ℕ → ℕ → ℕ → List Record → ℕ
sum_of p d t rs = total (counted p d t) rs

unfoldable pub bought_by : ℕ → ℕ → List Record → ℕ
bought_by p d rs = total (counted_to p d) rs

-- one sum for each volume type, that of type 22 last (02, T-02)
abbrev pub volume_types : List ℕ
volume_types = 1 ∷ 2 ∷ 3 ∷ 4 ∷ 5 ∷ 6 ∷ 7 ∷ 8 ∷ 9 ∷ 10 ∷ 11 ∷ 12 ∷ 13 ∷ 14 ∷ 15 ∷ 16 ∷ 22 ∷ []

-- the number of sums, and the place of a type's sum, counted from 0
abbrev pub sum_count : ℕ
sum_count = 17

abbrev pub sum_place : ℕ → ℕ
sum_place t = cond (eqb t updated_program) 16 (t - 1)

unfoldable pub tally_of : ℕ → ℕ → List Record → Tally
tally_of p d rs = record { party = p; sums = map (λ t. sum_of p d t rs) volume_types }

abbrev pub sum_no : Tally → ℕ → ℕ
sum_no t k = get_or t.sums (sum_place k) 0

-- A = B + the larger of sums 15 and 16
unfoldable pub acquired : Tally → ℕ → ℕ
acquired t B = B + max (sum_no t 15) (sum_no t 16)

pub data Volume : Type 0 where
  day_ahead delivery : Volume

-- delivery: Article 5; day-ahead: Article 7
abbrev pub sale_types : Volume → List ℕ
sale_types delivery = 1 ∷ 2 ∷ 3 ∷ 4 ∷ 5 ∷ 6 ∷ []
sale_types day_ahead = 1 ∷ 3 ∷ 4 ∷ 6 ∷ []

-- cover but for the generation program and A
abbrev pub cover_types : Volume → List ℕ
cover_types delivery = 7 ∷ 8 ∷ 9 ∷ 10 ∷ 11 ∷ 13 ∷ 14 ∷ []
cover_types day_ahead = 7 ∷ 9 ∷ 10 ∷ 13 ∷ 14 ∷ []

-- the generation program used: delivery takes the larger of sums 12 and 22, the day-ahead keeps sum 12 (02, T-02)
unfoldable pub program_used : Volume → Tally → ℕ
program_used delivery t = max (sum_no t 12) (sum_no t 22)
program_used day_ahead t = sum_no t 12

unfoldable pub sale_side : Volume → Tally → ℕ
sale_side v t = total (sum_no t) (sale_types v)

unfoldable pub cover_side : Volume → Tally → ℕ → ℕ
cover_side v t B = total (sum_no t) (cover_types v) + program_used v t + acquired t B

-- 100 × S − the larger of 100 × TM and C × R
unfoldable pub balance_of : Volume → ℕ → ℕ → Tally → ℕ → ℤ
balance_of v R TM t B = sub_ℕ (100 * sale_side v t) (max (100 * TM) (cover_side v t B * R))

unfoldable pub balance : Volume → ℕ → ℕ → ℕ → ℕ → List Record → ℤ
balance v R TM p d rs = balance_of v R TM (tally_of p d rs) (bought_by p d rs)

-- above zero is detected; zero is clear
unfoldable pub is_detected : ℤ → Bool
is_detected z = is_positive z

-- the calls: a balance, and the tally that it is made of
unfoldable pub party_day_cause : List ℕ → ℕ → ℕ → ℕ
party_day_cause ws p d =
    first_of (unless (is_book ws) not_a_book ∷ unless (party_ok p) bad_party ∷ unless (day_ok d) bad_day ∷ [])

unfoldable pub balance_answer : Volume → List ℕ → ℕ → ℕ → BalanceAnswer
balance_answer v ws p d =
    record {
      answer = party_day_cause ws p d;
      balance = if_done (party_day_cause ws p d) (balance v (coefficient_of ws) (tolerance_of ws) p d (entries ws)) (pos 0);
    }

abbrev pub no_tally : Tally
no_tally = record { party = 0; sums = replicate sum_count 0 }

unfoldable pub tally_answer : List ℕ → ℕ → ℕ → TallyAnswer
tally_answer ws p d =
    record {
      answer = party_day_cause ws p d;
      tally = if_done (party_day_cause ws p d) (tally_of p d (entries ws)) no_tally;
      bought = if_done (party_day_cause ws p d) (bought_by p d (entries ws)) 0;
    }
