use Rattle.file_walk.proofs.ReadLaws.{taken-start, taken-on, taken-end}
use Rattle.file_walk.proofs.reader.Reader.take_words.Goals as goal

pub loop-word-init : goal.loop-word-init
loop-word-init g c = taken-start _ _

pub loop-word-preserved : goal.loop-word-preserved
loop-word-preserved g c = taken-on c.loop-word.invariant c.loop-word-test.true c.take-taken.ensures

pub returns : goal.returns
returns g c = taken-end c.loop-word.invariant c.loop-word-test.false
