-- `repeated_pairs::pairs::PairBits::mark_other` meets its contract. Assumes nothing.
use mathlib.Core.Path.{sym, ap, ◌∙◌}
use Rattle.rules.specs.Entry.{record_in}
use Rattle.repeated_pairs.specs.Pairs.{Paired, with_bit}
use Rattle.repeated_pairs.proofs.PairLaws.{paired, other-cancelled, bit-within, pair-marked, pair-kept}
use Rattle.repeated_pairs.proofs.pairs.PairBits.mark_other.Goals as goal
use Rattle.repeated_pairs.proofs.pairs.PairBits.mark_other.Goals.{Then-other}

-- past the test: the pair of a cancelled entry of another day
pair : (g : _) (c : Then-other g) → Paired (record_in c.args.e)
pair g c = paired _ c.requires (other-cancelled c.args.period.now.day _ (sym c.is_other-other.ensures ∙ c.if-other.true))

pub bit_of-bit-requires-clause-pair : goal.bit_of-bit-requires-clause-pair
bit_of-bit-requires-clause-pair g c = pair g (goal.at.bit_of-bit-requires-clause-pair g c).Then-other

pub set_bit-requires : goal.set_bit-requires
set_bit-requires g c = bit-within _ c.self.invariant c.self.told (pair g (goal.at.set_bit-requires g c).Then-other) c.bit_of-bit.ensures

pub returns-then-other-clause-bits : goal.returns-then-other-clause-bits
returns-then-other-clause-bits g c =
    pair-marked _ _ _ _ (sym c.is_other-other.ensures ∙ c.if-other.true) c.bit_of-bit.ensures (c.set_bit.ensures ∙ ap (λ ws. with_bit ws c.bit_of-bit.result) c.self.view_is)

pub returns-else-other-clause-bits : goal.returns-else-other-clause-bits
returns-else-other-clause-bits g c = pair-kept _ _ _ _ (sym c.is_other-other.ensures ∙ c.if-other.false)
