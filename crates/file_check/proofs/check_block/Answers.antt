-- `file_check::check_block` meets its contract. Assumes nothing.
use Rattle.rules.specs.DayFile.{item_cause}
use Rattle.entry_checks.proofs.Ladder.{passed, failed}
use Rattle.file_check.proofs.check_block.Goals as goal

pub returns-then-not-party_ok : goal.returns-then-not-party_ok
unfolding item_cause
returns-then-not-party_ok c = rw (failed c.party_ok.ensures c.if-not-party_ok.true)

pub returns-then-not-day_ok : goal.returns-then-not-day_ok
unfolding item_cause
returns-then-not-day_ok c =
    rw (passed c.party_ok.ensures c.if-not-party_ok.false, failed c.day_ok.ensures c.if-not-day_ok.true)

pub returns : goal.returns
unfolding item_cause
returns c =
    rw (passed c.party_ok.ensures c.if-not-party_ok.false, passed c.day_ok.ensures c.if-not-day_ok.false)
