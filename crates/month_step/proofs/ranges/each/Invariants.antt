-- The loop's invariant: for each test that the closure is, `ok` and the figures left decide. Assumes nothing.
use mathlib.Core.Path.{◌≡◌}
use mathlib.Core.Bool.{Bool, ◌&&◌}
use lib.ListN.{drop}
use Rattle.numbers.specs.Tests.{all}
use Rattle.month_step.specs.Ranges.{Tests}
use Rattle.month_step.proofs.ranges.each.Given as goal

abbrev pub invariant-loop-i : goal.invariant-loop-i
invariant-loop-i g l =
    (ok : _ → Bool) → Tests (goal.C-post g l.test) ok → all ok (g.F.Figures.figures l.figures) ≡ l.ok && all ok (drop l.i (g.F.Figures.figures l.figures))
