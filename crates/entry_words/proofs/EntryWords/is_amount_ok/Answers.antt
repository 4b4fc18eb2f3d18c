-- `EntryWords::is_amount_ok` meets its contract. Assumes nothing.
use Rattle.rules.specs.Entry.{amount_limit}
use Rattle.rules.proofs.WordLaws.{amount-range}
use Rattle.entry_words.specs.Parts.{amount_words_ok}
use Rattle.entry_words.proofs.WordTests.{amount-words}
use Rattle.entry_words.proofs.EntryWords.is_amount_ok.Goals as goal

pub returns : goal.returns
unfolding amount_words_ok
returns c =
    let a = c.args in
    rw (c.from.ensures, c.from-2.ensures, c.amount_words_limit.ensures) (amount-words (amount_limit a.who) a.self.low a.self.high (amount-range a.who))
