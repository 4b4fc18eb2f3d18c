-- `file_names::mark_party` meets its contract. Assumes nothing.
use mathlib.Core.Path.{ap}
use mathlib.Core.Bool.{or-false}
use lib.Dec.{eqb}
use Rattle.file_names.specs.Names.{item_has, is_named}
use Rattle.file_names.proofs.NameLaws.{marked, both-marked}
use Rattle.file_names.proofs.mark_party.Goals as goal

pub returns-then-key-ne0 : goal.returns-then-key-ne0
unfolding item_has
returns-then-key-ne0 c =
    let k = c.in-Line.key in
    λ p l. rw (c.in-Line.is, c.mark-then-key-ne0.ensures, c.mark.ensures) (both-marked c.args.parties.now k.party k.counterparty p c.if-key-ne0.true l)

pub returns-else-key-ne0 : goal.returns-else-key-ne0
unfolding item_has
returns-else-key-ne0 c =
    let k = c.in-Line.key in
    λ p l. rw (c.in-Line.is, c.mark.ensures, ap (λ q. is_named k.party q p) c.if-key-ne0.false, or-false (eqb k.party p)) (marked c.args.parties.now k.party p l)

pub returns-in-EmptyBlock : goal.returns-in-EmptyBlock
unfolding item_has
returns-in-EmptyBlock c = λ p l. rw (c.in-EmptyBlock.is, c.mark-in-EmptyBlock.ensures) (marked c.args.parties.now c.in-EmptyBlock.party p l)
