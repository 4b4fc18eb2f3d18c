use mathlib.Core.Path.{sym, ◌∙◌}
use native.Mathlib.Omega.{arith}
use borrow.Author.Rules.{rules}
use lib.ListN.{length-set}
use Rattle.word_bytes.proofs.BytesLaws.{length-words, word-at, fill_step}
use Rattle.word_bytes.proofs.read_words.Goals as goal

pub loop-i-preserved : goal.loop-i-preserved
loop-i-preserved c =
    let l = c.loop-i in
    let bs = c.args.bytes.now in
    (simp length-set (search rules), fill_step 0 _ _ l.i _ (omega arith) (omega (arith, length-words bs)) (c.word_at.ensures ∙ sym (word-at bs l.i (omega arith))) l.invariant.1)
