-- `position::figures` meets its contract. Assumes nothing.
use Rattle.position.proofs.AnswerLaws.{passes}
use Rattle.position.proofs.figures.Goals as goal

pub scan-requires-clause-party_in_range : goal.scan-requires-clause-party_in_range
scan-requires-clause-party_in_range c =
    let a = c.args in
    (passes a.book.now a.party a.day c.in_ok-checked.ensures.answer).party

pub scan-requires-clause-day_in_range : goal.scan-requires-clause-day_in_range
scan-requires-clause-day_in_range c =
    let a = c.args in
    (passes a.book.now a.party a.day c.in_ok-checked.ensures.answer).day
