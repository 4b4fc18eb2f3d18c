-- What the scan of a control makes of the entries: of each party what its day-ahead balance reads, and who is detected by it.
-- Only the contracts of internal functions cite these; the laws tie them to rules/specs/Control.
use Rattle.std.specs.Prelude.{Bool, true, not, cond, ◌&&◌, ◌||◌, List, [], ◌∷◌, ℕ, ◌+◌, ◌*◌, max, eqb, ℤ, get_or}
use Rattle.std.proofs.Math.IntN.{sub_ℕ}
use Rattle.numbers.specs.Tests.{every}
use Rattle.rules.specs.Entry.{Label, Record, is_export, bilateral, updated_program, standing, party_ok, last_party}
use Rattle.rules.specs.Words.{entries, coefficient_of, tolerance_of}
use Rattle.rules.specs.Balance.{is_detected}
use Rattle.rules.specs.Control.{Parties, detected_in, is_repeated_buyer}
use Rattle.cells.specs.Cells.{Cells, one_if, filled}
use Rattle.repeated_pairs.specs.Flags.{flagged}

-- the largest number of a type
abbrev pub last_type : ℕ
last_type = updated_program

-- the sales of the day-ahead balance, types 1, 3, 4 and 6, and its purchases and generation (01, 'The two balances')
abbrev pub is_sale_type : ℕ → Bool
is_sale_type t = ((eqb t 1 || eqb t 3) || eqb t 4) || eqb t bilateral

abbrev pub is_cover_type : ℕ → Bool
is_cover_type t = ((((eqb t 7 || eqb t 9) || eqb t 10) || eqb t 12) || eqb t 13) || eqb t 14

-- the types that it reads: these, capacity tender and import notification
unfoldable pub is_read_type : ℕ → Bool
is_read_type t = ((is_sale_type t || is_cover_type t) || eqb t 15) || eqb t 16

-- what it reads of a party's day, a cell each: S, C but for the next two, capacity tender, import notification
abbrev pub party_cells : ℕ
party_cells = 4

abbrev pub cover_place : ℕ
cover_place = 1

unfoldable pub side_of : ℕ → ℕ
side_of t = cond (is_cover_type t) cover_place (cond (eqb t 15) 2 (cond (eqb t 16) 3 0))

abbrev pub cell_of : ℕ → ℕ → ℕ
cell_of p side = party_cells * p + side

-- an entry that such a balance of the day reads: standing, of the day, of one of these types, no export
unfoldable pub is_read : ℕ → Label → Bool
is_read d l = every (eqb l.status standing ∷ eqb l.key.day d ∷ is_read_type l.key.type ∷ not (is_export l.key) ∷ [])

-- what an entry adds to its party's cell: 0 where it is not read
unfoldable pub own_amount : ℕ → Record → ℕ
own_amount d r = cond (is_read d r.label) r.amount 0

-- it goes to its party's cell and, of a bilateral sale, to its counterparty's cover
abbrev pub day_cells : ℕ → Cells
day_cells d l =
    cond (is_read d l) (cell_of l.key.party (side_of l.key.type) ∷ one_if (eqb l.key.type bilateral) (cell_of l.key.counterparty cover_place)) []

-- for each number from 0 to 999
abbrev pub table_cells : ℕ
table_cells = party_cells * (last_party + 1)

unfoldable pub table_of : ℕ → List Record → List ℕ
table_of d rs = filled (day_cells d) table_cells rs

-- the day-ahead balance by a party's cells
unfoldable pub ahead_at : ℕ → ℕ → List ℕ → ℕ → ℤ
ahead_at R TM cells p =
    sub_ℕ (100 * get_or cells (cell_of p 0) 0)
    (max (100 * TM) ((get_or cells (cell_of p cover_place) 0 + max (get_or cells (cell_of p 2) 0) (get_or cells (cell_of p 3) 0)) * R))

-- the detected ones among some parties, by their cells
unfoldable pub detected_among : List ℕ → ℕ → ℕ → List Bool → Parties
detected_among cells R TM among p = flagged among p && (party_ok p && is_detected (ahead_at R TM cells p))

-- the same, by the entries of a book
unfoldable pub checked : List ℕ → ℕ → List Bool → Parties
checked ws d among p = flagged among p && detected_in (coefficient_of ws) (tolerance_of ws) d (entries ws) p

-- the parties of a pass over a book: those detected, in the second pass among the buyers of repeated pairs
unfoldable pub of_pass : Bool → List ℕ → ℕ → Parties
of_pass second ws d p = cond second (is_repeated_buyer d (entries ws) p) true && detected_in (coefficient_of ws) (tolerance_of ws) d (entries ws) p
