-- `empty_passes::is_sale_on` meets its contract. Assumes nothing.
use Rattle.empty_passes.specs.Sought.{is_sale_on}
use Rattle.empty_passes.proofs.is_sale_on.Goals as goal

pub returns : goal.returns
unfolding is_sale_on
returns c = rw c.is_sale.ensures
