-- One day of the walk from the latest day back: which markets choose it, and what it owes (01, 'Collateral', Trading).
use Rattle.std.specs.Prelude.{Bool, cond, ◌&&◌, ℕ, ◌+◌, ◌-◌, ltb}

-- a market with days left to choose takes a day with money
abbrev pub chosen : ℕ → ℕ → ℕ → Bool
chosen left bought sold = ltb 0 left && ltb 0 (bought + sold)

abbrev pub left_after : ℕ → ℕ → ℕ → ℕ
left_after left bought sold = left - cond (chosen left bought sold) 1 0

-- the debt of a day by which markets chose it: day-ahead money, then intraday money
abbrev pub owed : Bool → Bool → ℕ → ℕ → ℕ → ℕ → ℕ
owed ahead intraday b s c t = (cond ahead b 0 + cond intraday c 0) - (cond ahead s 0 + cond intraday t 0)
