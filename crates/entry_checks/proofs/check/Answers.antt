-- `entry_checks::check` meets its contract. Assumes nothing.
use Rattle.rules.specs.Entry.{fault, counterparty_ok}
use Rattle.entry_checks.proofs.Ladder.{passed, failed}
use Rattle.entry_checks.proofs.check.Goals as goal

pub returns-then-not-party_ok : goal.returns-then-not-party_ok
unfolding fault
returns-then-not-party_ok c = rw (failed c.party_ok.ensures c.if-not-party_ok.true)

pub returns-then-not-day_ok : goal.returns-then-not-day_ok
unfolding fault
returns-then-not-day_ok c =
    rw (passed c.party_ok.ensures c.if-not-party_ok.false, failed c.day_ok.ensures c.if-not-day_ok.true)

pub returns-then-not-is_type : goal.returns-then-not-is_type
unfolding fault
returns-then-not-is_type c =
    rw (passed c.party_ok.ensures c.if-not-party_ok.false, passed c.day_ok.ensures c.if-not-day_ok.false, failed c.is_type.ensures c.if-not-is_type.true)

pub returns-then-not-counterparty_ok : goal.returns-then-not-counterparty_ok
unfolding fault counterparty_ok
returns-then-not-counterparty_ok c =
    rw (passed c.party_ok.ensures c.if-not-party_ok.false, passed c.day_ok.ensures c.if-not-day_ok.false, passed c.is_type.ensures c.if-not-is_type.false, failed c.counterparty_ok.ensures c.if-not-counterparty_ok.true)

pub returns-then-not-amount_ok : goal.returns-then-not-amount_ok
unfolding fault counterparty_ok
returns-then-not-amount_ok c =
    rw (passed c.party_ok.ensures c.if-not-party_ok.false, passed c.day_ok.ensures c.if-not-day_ok.false, passed c.is_type.ensures c.if-not-is_type.false, passed c.counterparty_ok.ensures c.if-not-counterparty_ok.false, failed c.amount_ok.ensures c.if-not-amount_ok.true)

pub returns : goal.returns
unfolding fault counterparty_ok
returns c =
    rw (passed c.party_ok.ensures c.if-not-party_ok.false, passed c.day_ok.ensures c.if-not-day_ok.false, passed c.is_type.ensures c.if-not-is_type.false, passed c.counterparty_ok.ensures c.if-not-counterparty_ok.false, passed c.amount_ok.ensures c.if-not-amount_ok.false)
