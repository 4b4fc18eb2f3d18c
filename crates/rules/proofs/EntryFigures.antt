-- Worked figures of 01, 'Entry types', 'The words' (statuses, marks) and 'Why a call comes back' (checks 3 to 7):
-- each limit at its edge and one beyond, each type, each status, each part of a mark, and the lowest of two causes.
use mathlib.Core.Bool.{Bool, true, not}
use mathlib.Core.List.{List, [], ◌∷◌, map}
use mathlib.Core.Path.{◌≡◌, refl}
use Prim.Native.Nat.{ℕ}
use lib.Dec.{eqb}
use Rattle.numbers.specs.Tests.{every}
use Rattle.rules.specs.Refusals.{not_a_book, bad_file, bad_party, bad_day, bad_type, bad_counterparty, bad_amount, day_closed, no_room, no_entry, bad_length, bad_figure}
use Rattle.rules.specs.Entry.{Record, key_of, record_of, record_in, entry_of, is_volume, is_money, is_type, is_export, is_bilateral, is_standing, is_cancelled, is_mark, fault, mark_ok, status_ok, legal}
use Rattle.rules.specs.declared.Entry.{Entry}
use Rattle.rules.proofs.Worked.{same_numbers, computed}

-- types 1 to 16 and 22 are volumes, 17 to 20 money; all but 6 have no counterparty
abbrev volumes : List ℕ
volumes = 1 ∷ 2 ∷ 3 ∷ 4 ∷ 5 ∷ 6 ∷ 7 ∷ 8 ∷ 9 ∷ 10 ∷ 11 ∷ 12 ∷ 13 ∷ 14 ∷ 15 ∷ 16 ∷ 22 ∷ []

abbrev moneys : List ℕ
moneys = 17 ∷ 18 ∷ 19 ∷ 20 ∷ []

abbrev not_bilateral : List ℕ
not_bilateral =
    1 ∷ 2 ∷ 3 ∷ 4 ∷ 5 ∷ 7 ∷ 8 ∷ 9 ∷ 10 ∷ 11 ∷ 12 ∷ 13 ∷ 14 ∷ 15 ∷ 16 ∷ 17 ∷ 18 ∷ 19 ∷ 20 ∷ 22 ∷ []

-- the cause of 3 to 7 that a post of these figures has
abbrev cause_is : ℕ → ℕ → ℕ → ℕ → ℕ → ℕ → Bool
cause_is p d t c a cause = eqb (fault (key_of p d t c) a) cause

-- posts of these types, alike but for the type, have this cause each
abbrev causes_are : List ℕ → ℕ → ℕ → ℕ → Bool
causes_are ts c a cause =
    every
    (map (λ t. eqb (fault (key_of 1 9000 t c) a) cause) ts)

-- an entry as words could hold it
abbrev entry : ℕ → ℕ → ℕ → ℕ → ℕ → ℕ → Record
entry p d t c s a = record_of (key_of p d t c) s a

-- an entry as code carries it, and its figures
abbrev held : Entry
held = record { key = record { party = 7; day = 8; entry_type = 9; counterparty = 10 }; status = 11; amount = 12 }

abbrev held_figures : Entry → List ℕ
held_figures e = e.key.party ∷ e.key.day ∷ e.key.entry_type ∷ e.key.counterparty ∷ e.status ∷ e.amount ∷ []

pub entry_figures : List Bool
entry_figures =
    -- the causes by number
    same_numbers
    (not_a_book ∷ bad_file ∷ bad_party ∷ bad_day ∷ bad_type ∷ bad_counterparty ∷ bad_amount ∷ day_closed ∷ no_room ∷ no_entry ∷ bad_length ∷ bad_figure ∷ [])
    (1 ∷ 2 ∷ 3 ∷ 4 ∷ 5 ∷ 6 ∷ 7 ∷ 8 ∷ 9 ∷ 10 ∷ 11 ∷ 12 ∷ [])
    -- parties are 1 to 999
    ∷ cause_is 0 9000 1 0 5 3
    ∷ cause_is 1 9000 1 0 5 0
    ∷ cause_is 999 9000 1 0 5 0
    ∷ cause_is 1000 9000 1 0 5 3
    -- days are 0 to 36,524
    ∷ cause_is 1 0 1 0 5 0
    ∷ cause_is 1 36524 1 0 5 0
    ∷ cause_is 1 36525 1 0 5 4
    -- types are 1 to 20 and 22 (02, T-02)
    ∷ causes_are volumes 0 5 0
    ∷ causes_are moneys 0 5 0
    ∷ causes_are (0 ∷ 21 ∷ 23 ∷ 255 ∷ []) 0 5 5
    ∷ every (map is_volume volumes)
    ∷ not (is_volume 0)
    ∷ not (is_volume 17)
    ∷ not (is_volume 21)
    ∷ not (is_volume 23)
    ∷ every (map is_money moneys)
    ∷ not (is_money 16)
    ∷ not (is_money 21)
    ∷ not (is_money 22)
    ∷ not (is_type 0)
    ∷ not (is_type 21)
    ∷ is_type 22
    ∷ not (is_type 23)
    -- counterparty is 0 outside type 6; in type 6 it is 0 to 999 and not the party
    ∷ causes_are not_bilateral 1 5 6
    ∷ causes_are not_bilateral 2 5 6
    ∷ cause_is 7 9000 6 0 5 0
    ∷ cause_is 7 9000 6 1 5 0
    ∷ cause_is 7 9000 6 999 5 0
    ∷ cause_is 7 9000 6 1000 5 6
    ∷ cause_is 7 9000 6 7 5 6
    ∷ cause_is 7 9000 6 6 5 0
    ∷ cause_is 999 9000 6 999 5 6
    -- amounts are 0 to 10^9 for types 1 to 16 and 22, 0 to 10^13 for 17 to 20
    ∷ causes_are volumes 0 0 0
    ∷ causes_are volumes 0 1000000000 0
    ∷ causes_are volumes 0 1000000001 7
    ∷ causes_are volumes 0 1000000000000 7
    ∷ causes_are moneys 0 0 0
    ∷ causes_are moneys 0 10000000000000 0
    ∷ causes_are moneys 0 10000000000001 7
    -- the lowest cause wins: each with all the later ones
    ∷ cause_is 0 36525 0 1 1000000001 3
    ∷ cause_is 1 36525 0 1 1000000001 4
    ∷ cause_is 1 9000 0 1 1000000001 5
    ∷ cause_is 1 9000 6 1 1000000001 6
    ∷ cause_is 1 9000 6 2 1000000001 7
    -- counterparty 0 in type 6 is an export; above 0 it is a bilateral sale
    ∷ is_export (key_of 1 9000 6 0)
    ∷ not (is_export (key_of 1 9000 6 1))
    ∷ not (is_export (key_of 1 9000 1 0))
    ∷ is_bilateral (key_of 2 9000 6 1)
    ∷ not (is_bilateral (key_of 2 9000 6 0))
    ∷ not (is_bilateral (key_of 2 9000 7 1))
    ∷ not (is_bilateral (key_of 2 9000 5 1))
    -- 0 standing, 1 withdrawn, 2 cancelled
    ∷ is_standing (entry 1 9000 1 0 0 5)
    ∷ not (is_standing (entry 1 9000 1 0 1 5))
    ∷ not (is_standing (entry 1 9000 6 2 2 5))
    ∷ is_cancelled (entry 1 9000 6 2 2 5)
    ∷ not (is_cancelled (entry 1 9000 6 2 1 5))
    ∷ not (is_cancelled (entry 1 9000 6 2 0 5))
    ∷ not (is_cancelled (entry 1 9000 6 2 3 5))
    -- status 2 stands only on type 6 with a counterparty above 0; there is no status 3
    ∷ legal (entry 1 9000 1 0 0 5)
    ∷ legal (entry 1 9000 1 0 1 5)
    ∷ not (legal (entry 1 9000 1 0 2 5))
    ∷ legal (entry 1 9000 6 2 0 5)
    ∷ legal (entry 1 9000 6 2 1 5)
    ∷ legal (entry 1 9000 6 2 2 5)
    ∷ not (legal (entry 1 9000 6 2 3 5))
    ∷ legal (entry 1 9000 6 0 1 5)
    ∷ not (legal (entry 1 9000 6 0 2 5))
    ∷ not (legal (entry 1 9000 17 0 2 5))
    ∷ legal (entry 1 9000 22 0 0 5)
    ∷ legal (entry 1 9000 22 0 1 5)
    ∷ not (legal (entry 1 9000 22 0 2 5))
    ∷ not (legal (entry 1 9000 1 0 3 5))
    ∷ status_ok (entry 1 9000 6 2 2 5).label
    ∷ not (status_ok (entry 1 9000 7 2 2 5).label)
    -- an entry passes checks 3 to 7, whatever its status
    ∷ not (legal (entry 0 9000 1 0 0 5))
    ∷ not (legal (entry 1 36525 1 0 1 5))
    ∷ not (legal (entry 1 9000 0 0 0 5))
    ∷ not (legal (entry 1 9000 23 0 0 0))
    ∷ not (legal (entry 1 9000 1 1 0 5))
    ∷ not (legal (entry 1 9000 6 1 2 5))
    ∷ not (legal (entry 1 9000 6 2 2 1000000001))
    -- or it is a mark: type 21, a day in range, party, counterparty, amount and status 0
    ∷ legal (entry 0 0 21 0 0 0)
    ∷ legal (entry 0 36524 21 0 0 0)
    ∷ mark_ok (entry 0 36524 21 0 0 0)
    ∷ not (legal (entry 0 36525 21 0 0 0))
    ∷ not (legal (entry 1 9000 21 0 0 0))
    ∷ not (legal (entry 0 9000 21 1 0 0))
    ∷ not (legal (entry 0 9000 21 0 1 0))
    ∷ not (legal (entry 0 9000 21 0 2 0))
    ∷ not (legal (entry 0 9000 21 0 0 1))
    ∷ not (legal (entry 0 9000 20 0 0 0))
    ∷ not (legal (entry 0 9000 22 0 0 0))
    ∷ not (mark_ok (entry 1 9000 1 0 0 0))
    ∷ is_mark (entry 0 9000 21 0 0 0)
    ∷ not (is_mark (entry 1 9000 20 0 0 0))
    ∷ not (is_mark (entry 1 9000 22 0 0 0))
    -- an entry as code carries it, figure by figure, both ways
    ∷ same_numbers (held_figures (entry_of (entry 1 2 3 4 5 6))) (1 ∷ 2 ∷ 3 ∷ 4 ∷ 5 ∷ 6 ∷ [])
    ∷ same_numbers (held_figures (entry_of (record_in held))) (7 ∷ 8 ∷ 9 ∷ 10 ∷ 11 ∷ 12 ∷ [])
    ∷ []

pub entry_figures-hold : every entry_figures ≡ true
unfolding computed entry_figures
entry_figures-hold = refl
