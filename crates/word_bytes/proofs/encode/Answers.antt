use mathlib.Core.Path.{◌≡◌, ◌∙◌}
use native.Mathlib.Omega.{arith}
use borrow.Author.Rules.{rules}
use lib.ListN.{length}
use lib.Seq.{take-length}
use Rattle.word_bytes.specs.Bytes.{bytes_of}
use Rattle.word_bytes.specs.Coding.{over_bytes}
use Rattle.word_bytes.proofs.BytesLaws.{write_step}
use Rattle.word_bytes.proofs.encode.Goals as goal

pub loop-k-init : goal.loop-k-init
unfolding bytes_of
loop-k-init c = search rules

pub loop-k-preserved : goal.loop-k-preserved
loop-k-preserved c =
    let l = c.loop-k in
    (omega arith, c.put_word.ensures ∙ write_step _ _ l.k (omega arith) _ l.invariant.1)

pub returns : goal.returns
unfolding over_bytes
returns c =
    let l = c.loop-k in
    let ws = c.args.words.now in
    let e : l.k ≡ length ws = omega arith in
    l.invariant.1 ∙ rw (e, take-length ws)
