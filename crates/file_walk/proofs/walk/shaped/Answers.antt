use mathlib.Core.Path.{ap}
use native.Mathlib.Omega.{arith}
use Rattle.std.proofs.lemmas.Grind.{common_steps}
use Rattle.file_walk.proofs.WalkLaws.{along-start, along-on, less-on, along-end}
use Rattle.file_walk.proofs.walk.shaped.Goals as goal

pub loop-pass-init : goal.loop-pass-init
loop-pass-init c = along-start _ c.new.result (ap (λ b. b.now) c.new.ensures.0) c.new.ensures.1

pub loop-pass-smaller : goal.loop-pass-smaller
loop-pass-smaller c = less-on _ c.in-Open.is c.pass_on-pass.ensures

pub loop-pass-preserved : goal.loop-pass-preserved
loop-pass-preserved c = along-on c.loop-pass.invariant c.in-Open.is c.pass_on-pass.ensures

pub returns : goal.returns
returns c = rw (← along-end c.loop-pass.invariant c.in_default.not-Open) (grind (arith, common_steps))
