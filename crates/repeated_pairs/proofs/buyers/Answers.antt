-- `repeated_pairs::buyers` meets its contract. Assumes nothing.
use Rattle.repeated_pairs.proofs.PairLaws.{words-fit, words-blank, buyers-are, no-others}
use Rattle.repeated_pairs.proofs.buyers.Goals as goal

pub mark_pairs-requires : goal.mark_pairs-requires
mark_pairs-requires g c = (words-fit c.requires, words-blank c.requires)

pub returns-then-mark_pairs-eq0-clause-flags : goal.returns-then-mark_pairs-eq0-clause-flags
returns-then-mark_pairs-eq0-clause-flags g c = no-others _ _ _ _ _ c.mark_pairs.ensures.others c.if-mark_pairs-eq0.true c.none.ensures

pub returns-clause-flags : goal.returns-clause-flags
returns-clause-flags g c = buyers-are _ _ _ _ _ c.mark_pairs.ensures.book c.mark_pairs.ensures.bits c.mark_buyers.ensures
