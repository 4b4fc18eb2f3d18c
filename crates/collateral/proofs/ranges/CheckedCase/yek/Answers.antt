-- `collateral::ranges::CheckedCase::yek` meets its contract. Assumes nothing.
use native.Mathlib.Omega.{arith}
use Rattle.rules.proofs.Limits.{case-ranges, yek-product}
use Rattle.collateral.proofs.ranges.CheckedCase.yek.Goals as goal

pub overflow_sub-best : goal.overflow_sub-best
overflow_sub-best c =
    let s = c.args.self.now in
    rw (c.from-score.ensures, c.from-best.ensures) (case-ranges s.case s.in_range).score

pub overflow_mul-yek : goal.overflow_mul-yek
overflow_mul-yek c =
    let s = c.args.self.now in
    record { fits = rw (c.max-share.ensures, c.from-score.ensures, c.from-best.ensures) (omega (arith, yek-product s.case (case-ranges s.case s.in_range))) }
