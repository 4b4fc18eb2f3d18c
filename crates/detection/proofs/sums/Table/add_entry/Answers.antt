-- `detection::sums::Table::add_entry` meets its contract. Assumes nothing.
use mathlib.Core.Path.{◌≡◌, ap, ◌∙◌}
use native.Mathlib.Omega.{arith}
use Rattle.rules.specs.Entry.{key, record_in}
use Rattle.cells.specs.Cells.{AtMost, added}
use Rattle.balance_formulas.specs.Bounded.{most_sum}
use Rattle.detection.specs.Tables.{own_amount, day_cells}
use Rattle.detection.proofs.TableLaws.{type-most, side-few, Adds, adds, add-fits, add-fits-again, own-is, added_is}
use borrow.Author.Rules.{rules}
use Rattle.detection.proofs.sums.Table.add_entry.Goals as goal
use Rattle.detection.proofs.sums.Table.add_entry.Goals.{After-amount_if-sold, After-self}

own : (c : After-amount_if-sold) → c.amount_if-amount.result ≡ own_amount c.args.day (record_in c.args.e)
own c = own-is _ _ c.is_read.ensures c.amount_if-amount.ensures

facts : (c : After-amount_if-sold) → Adds (record_in c.args.e) c.amount_if-amount.result c.amount_if-sold.result
facts c = adds c.args.day (record_in c.args.e) c.requires.e_value (own c) c.amount_if-sold.ensures

most : (c : After-self) → AtMost most_sum c.self.inside.cells
most c = rw c.self.view_is c.requires.at_most

pub side_of-side-requires : goal.side_of-side-requires
side_of-side-requires c = type-most _ c.requires.e_value

pub is_read-requires : goal.is_read-requires
is_read-requires c = type-most _ c.requires.e_value

pub overflow_add-e : goal.overflow_add-e
overflow_add-e c =
    let f = facts (goal.at.overflow_add-e c).After-amount_if-sold in
    omega (arith, c.side_of-side.ensures, side-few (key (record_in c.args.e)).type)

pub add_to-requires : goal.add_to-requires
add_to-requires c =
    let f = facts (goal.at.add_to-requires c).After-amount_if-sold in
    let m = most (goal.at.add_to-requires c).After-self in
    (search rules, add-fits _ m _ _ (omega (arith, c.side_of-side.ensures, side-few (key (record_in c.args.e)).type)) f.own)

pub add_to-requires-2 : goal.add_to-requires-2
add_to-requires-2 c =
    let f = facts (goal.at.add_to-requires-2 c).After-amount_if-sold in
    let m = most (goal.at.add_to-requires-2 c).After-self in
    (search rules, add-fits-again _ m _ _ _ _ c.add_to.ensures f.own (omega arith) f.sold)

pub returns : goal.returns
returns c =
    added_is _ _ _ c.side_of-side.ensures (own (goal.at.returns c).After-amount_if-sold) c.amount_if-sold.ensures c.add_to.ensures c.add_to-2.ensures
    ∙ ap (added (day_cells c.args.day) (record_in c.args.e)) c.self.view_is
