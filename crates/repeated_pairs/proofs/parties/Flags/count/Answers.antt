use mathlib.Core.Path.{◌≡◌, refl, sym, ap, ap₂, ◌∙◌}
use Prim.Native.Nat.{◌+◌}
use native.Mathlib.Omega.{arith}
use Rattle.numbers.specs.Sums.{sum, count_below}
use Rattle.numbers.proofs.SumLaws.{count_below-le, count_below-step}
use Rattle.rules.specs.Control.{detected_parties}
use Rattle.repeated_pairs.specs.Flags.{flagged}
use Rattle.repeated_pairs.proofs.FlagLaws.{byte-is}
use Rattle.repeated_pairs.proofs.parties.Flags.count.Goals as goal

pub loop-flag-init : goal.loop-flag-init
unfolding count_below sum
loop-flag-init c = refl

pub overflow_add-n : goal.overflow_add-n
overflow_add-n c =
    omega (arith, c.loop-flag.invariant, count_below-le c.loop-flag.flag-index (flagged c.self.inside.set), byte-is (flagged c.self.inside.set c.loop-flag.flag-index), c.from-n.ensures)

pub loop-flag-preserved : goal.loop-flag-preserved
loop-flag-preserved c =
    let f = flagged c.self.inside.set in
    ap₂ ◌+◌ c.loop-flag.invariant (c.from-n.ensures ∙ (byte-is (f c.loop-flag.flag-index)).0) ∙ sym (count_below-step c.loop-flag.flag-index f)

pub returns : goal.returns
unfolding detected_parties
returns c =
    let e : c.loop-flag.flag-index ≡ 1000 = omega arith in
    rw (← c.self.view_is) (c.loop-flag.invariant ∙ ap (λ p. count_below p (flagged c.self.inside.set)) e)
