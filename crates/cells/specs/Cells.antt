-- Sums over entries as the cells of a table: the amount of an entry goes to no, one or two cells.
-- For the crates that scan a book. Each says which cells an entry goes to, and ties the cells to the sums of document 01.
use Rattle.std.specs.Prelude.{◌≡◌, Bool, true, not, cond, ◌&&◌, List, [], ◌∷◌, ℕ, ◌+◌, ◌≤◌, eqb, get_or, set, replicate}
use Rattle.numbers.specs.Tests.{any}
use Rattle.rules.specs.Entry.{Label, Record, legal}

-- the cells that an entry goes to, by its key and status; one past the table is none
abbrev pub Cells : Type 0
Cells = Label → List ℕ

-- one cell where a test holds, else none
abbrev pub one_if : Bool → ℕ → List ℕ
one_if b i = cond b (i ∷ []) []

-- an amount more in a cell, and in each of several
abbrev pub add_to : List ℕ → ℕ → ℕ → List ℕ
add_to table i a = set table i (get_or table i 0 + a)

unfoldable pub add_to_each : List ℕ → List ℕ → ℕ → List ℕ
add_to_each table [] a = table
add_to_each table (i ∷ is) a = add_to_each (add_to table i a) is a

-- a table with one entry more
unfoldable pub added : Cells → Record → List ℕ → List ℕ
added at r table = add_to_each table (at r.label) r.amount

-- each entry in turn
module _ {S : Type 0} where
  unfoldable pub over : (Record → S → S) → List Record → S → S
  over f [] s = s
  over f (r ∷ rs) s = over f rs (f r s)

-- n cells without an amount, and after these entries
unfoldable pub blank : ℕ → List ℕ
blank n = replicate n 0

unfoldable pub filled : Cells → ℕ → List Record → List ℕ
filled at n rs = over (added at) rs (blank n)

-- what an entry adds to a cell
abbrev pub goes_to : Cells → ℕ → Label → Bool
goes_to at j l = any (eqb j) (at l)

abbrev pub in_cell : Cells → ℕ → Record → ℕ
in_cell at j r = cond (goes_to at j r.label) r.amount 0

-- no cell stands twice among several
unfoldable pub apart : List ℕ → Bool
apart [] = true
apart (i ∷ is) = not (any (eqb i) is) && apart is

-- an entry goes to a cell once, and an amount that goes to one is at most a number
pub record Limited (at : Cells) (most : ℕ) : Type 0 where
  pub apart-at : (l : Label) → apart (at l) ≡ true
  pub amount : (r : Record) (j : ℕ) → legal r ≡ true → goes_to at j r.label ≡ true → r.amount ≤ most

-- no cell is above a number
pub record AtMost (most : ℕ) (table : List ℕ) : Type 0 where
  pub at_most : (j : ℕ) → get_or table j 0 ≤ most
