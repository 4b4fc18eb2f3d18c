-- `file_names::mark_day` meets its contract. Assumes nothing.
use mathlib.Core.Path.{sym}
use mathlib.Core.Bool.{or-false, and-true, and-false}
use lib.Dec.{eqb}
use borrow.Author.Tests.{eq-eqb, ne_eqb}
use Rattle.rules.specs.DayFile.{item_names}
use Rattle.entry_checks.proofs.Ladder.{told}
use Rattle.file_names.proofs.NameLaws.{marked}
use Rattle.file_names.proofs.mark_day.Goals as goal

pub returns-in-Line : goal.returns-in-Line
unfolding item_names
returns-in-Line c =
    let k = c.in-Line.key in
    λ d l. rw (c.in-Line.is, c.mark.ensures, told c.is_named.ensures c.if-is_named.true, and-true (eqb k.day d)) (marked c.args.days.now k.day d l)

pub returns-else-is_named : goal.returns-else-is_named
unfolding item_names
returns-else-is_named c =
    λ d _. rw (c.in-Line.is, told c.is_named.ensures c.if-is_named.false, and-false) (sym (or-false _))

pub returns-in-EmptyBlock : goal.returns-in-EmptyBlock
unfolding item_names
returns-in-EmptyBlock c =
    λ d l. rw (c.in-EmptyBlock.is, c.mark-in-EmptyBlock.ensures, eq-eqb _ _ c.if-named-party.true) (marked c.args.days.now c.in-EmptyBlock.day d l)

pub returns-else-named-party : goal.returns-else-named-party
unfolding item_names
returns-else-named-party c = λ d _. rw (c.in-EmptyBlock.is, ne_eqb _ _ c.if-named-party.false) (sym (or-false _))
