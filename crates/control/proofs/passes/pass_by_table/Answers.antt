-- `control::passes::pass_by_table` meets its contract. Assumes nothing.
use Rattle.control.proofs.RunLaws.{pass-counts}
use Rattle.control.proofs.passes.pass_by_table.Goals as goal

pub returns-clause-counts : goal.returns-clause-counts
returns-clause-counts c =
    pass-counts _ _ (rw c.known.ensures at c.flag_parties-flags.ensures) c.count-parties.ensures c.cancel-entries.ensures.cancelled
