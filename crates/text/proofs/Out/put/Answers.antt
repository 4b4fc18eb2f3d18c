-- `text::Out::put` meets its contract. Assumes nothing.
use Rattle.std.proofs.Common.{refl}
use Rattle.text.proofs.TextLaws.{wrote_none, wrote_one}
use Rattle.text.proofs.Out.put.Goals as goal

pub returns-then-self : goal.returns-then-self
returns-then-self c = record { lent = refl; wrote = wrote_one _ _ c.args.byte c.if-self.true }

pub returns-else-self : goal.returns-else-self
returns-else-self c = record { lent = refl; wrote = wrote_none _ _ c.args.byte c.args.self.now.within c.if-self.false }
