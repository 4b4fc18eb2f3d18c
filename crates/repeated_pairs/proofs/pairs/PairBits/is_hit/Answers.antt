-- `repeated_pairs::pairs::PairBits::is_hit` meets its contract. Assumes nothing.
use mathlib.Core.Path.{ap₂, ◌∙◌}
use mathlib.Core.Bool.{◌&&◌}
use Rattle.rules.specs.Entry.{record_in}
use Rattle.repeated_pairs.specs.Pairs.{Paired, bit_at, is_hit}
use Rattle.repeated_pairs.proofs.PairLaws.{paired, of-day-cancelled, bit-within}
use Rattle.repeated_pairs.proofs.pairs.PairBits.is_hit.Goals as goal
use Rattle.repeated_pairs.proofs.pairs.PairBits.is_hit.Goals.{Else-not-e-day}

-- past the first test: the pair of a cancelled entry
pair : (g : _) (c : Else-not-e-day g) → Paired (record_in c.args.e)
pair g c = paired _ c.requires (of-day-cancelled c.args.day (record_in c.args.e) c.if-not-e-day.false)

pub returns-then-not-e-day : goal.returns-then-not-e-day
unfolding is_hit
returns-then-not-e-day g c = rw c.if-not-e-day.true

pub bit_of-bit-requires-clause-pair : goal.bit_of-bit-requires-clause-pair
bit_of-bit-requires-clause-pair g c = pair g (goal.at.bit_of-bit-requires-clause-pair g c).Else-not-e-day

pub has-requires : goal.has-requires
has-requires g c = (pair g (goal.at.has-requires g c).Else-not-e-day).buyer

pub bit_at-requires : goal.bit_at-requires
bit_at-requires g c = bit-within _ c.self.invariant c.self.told (pair g (goal.at.bit_at-requires g c).Else-not-e-day) c.bit_of-bit.ensures

pub returns : goal.returns
unfolding is_hit
returns g c =
    rw c.if-not-e-day.false (ap₂ ◌&&◌ c.has.ensures (c.bit_at.ensures ∙ ap₂ bit_at c.self.view_is c.bit_of-bit.ensures))
