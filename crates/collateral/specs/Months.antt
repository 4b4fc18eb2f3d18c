-- The lowest volume of used month answers, 0 where none is used.
use Rattle.std.specs.Prelude.{List, [], ◌∷◌, ℤ, pos}
use Rattle.rules.specs.Collateral.{lowest_volume}
use Rattle.case_figures.specs.declared.Month.{Month}

unfoldable pub lowest_of : List Month → ℤ
lowest_of [] = pos 0
lowest_of (m ∷ ms) = lowest_volume m ms
