-- `book::asked` meets its contract. Assumes nothing.
use Rattle.std.proofs.lemmas.Result.{err_from_is_err_and}
use Rattle.rules.specs.Balance.{party_day_cause}
use Rattle.entry_checks.proofs.Ladder.{passed, failed}
use Rattle.book.proofs.asked.Goals as goal

pub returns-in_err-checked-clause-answer : goal.returns-in_err-checked-clause-answer
unfolding party_day_cause
returns-in_err-checked-clause-answer c =
    let p = err_from_is_err_and c.from_residual.result c.from_residual.ensures.1 in
    rw (p.1, p.2, c.in_err-checked.ensures.err, c.in_err-checked.ensures.no_book)

pub returns-then-not-party_ok-clause-answer : goal.returns-then-not-party_ok-clause-answer
unfolding party_day_cause
returns-then-not-party_ok-clause-answer c =
    rw (c.in_ok-checked.ensures.book, failed c.party_ok.ensures c.if-not-party_ok.true)

pub returns-then-not-day_ok-clause-answer : goal.returns-then-not-day_ok-clause-answer
unfolding party_day_cause
returns-then-not-day_ok-clause-answer c =
    rw (c.in_ok-checked.ensures.book, passed c.party_ok.ensures c.if-not-party_ok.false, failed c.day_ok.ensures c.if-not-day_ok.true)

pub returns-clause-answer : goal.returns-clause-answer
unfolding party_day_cause
returns-clause-answer c =
    rw (c.in_ok-checked.ensures.book, passed c.party_ok.ensures c.if-not-party_ok.false, passed c.day_ok.ensures c.if-not-day_ok.false)
