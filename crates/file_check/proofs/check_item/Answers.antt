-- `file_check::check_item` meets its contract. Assumes nothing.
use Rattle.std.proofs.lemmas.Result.{err_from_is_err_and}
use Rattle.rules.specs.DayFile.{lines_of}
use Rattle.file_check.specs.Check.{cause_by}
use Rattle.file_check.proofs.check_item.Goals as goal

pub returns-in_err-check_block-in-EmptyBlock-clause-answer :
    goal.returns-in_err-check_block-in-EmptyBlock-clause-answer
unfolding cause_by
returns-in_err-check_block-in-EmptyBlock-clause-answer c =
    let r = c.from_residual-in_err-check_block-in-EmptyBlock in
    let p = err_from_is_err_and r.result r.ensures.1 in
    rw (p.1, p.2, c.in-EmptyBlock.is) c.in_err-check_block-in-EmptyBlock.ensures

pub returns-in_ok-check_line-in-Line-clause-ok : goal.returns-in_ok-check_line-in-Line-clause-ok
unfolding lines_of
returns-in_ok-check_line-in-Line-clause-ok c = rw c.in-Line.is

pub returns-in_ok-check_block-in-EmptyBlock-clause-answer :
    goal.returns-in_ok-check_block-in-EmptyBlock-clause-answer
unfolding cause_by
returns-in_ok-check_block-in-EmptyBlock-clause-answer c = rw c.in-EmptyBlock.is c.in_ok-check_block-in-EmptyBlock.ensures

pub returns-in_ok-check_block-in-EmptyBlock-clause-ok :
    goal.returns-in_ok-check_block-in-EmptyBlock-clause-ok
unfolding lines_of
returns-in_ok-check_block-in-EmptyBlock-clause-ok c = rw c.in-EmptyBlock.is
