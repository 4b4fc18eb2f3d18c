-- `EntryWords::is_ok` meets its contract. Assumes nothing.
use Rattle.entry_words.proofs.WordTests.{plain-words, mark-words}
use Rattle.entry_words.proofs.EntryWords.is_ok.Goals as goal

pub returns-then-not-party-day : goal.returns-then-not-party-day
returns-then-not-party-day c =
    let a = c.args in
    rw c.is_mark_ok.ensures (mark-words a.self.party a.self.day a.self.figures a.self.low a.self.high c.if-not-party-day.true)

pub returns : goal.returns
returns c =
    let a = c.args in
    rw (c.who_limit.ensures, c.is_amount_ok.ensures) (plain-words a.self.party a.self.day a.self.figures a.self.low a.self.high c.if-not-party-day.false)
