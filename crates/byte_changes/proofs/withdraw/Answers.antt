-- `byte_changes::withdraw` meets its contract. Assumes nothing.
use mathlib.Core.Path.{◌≡◌, ◌∙◌}
use native.Mathlib.Omega.{arith}
use borrow.Author.Rules.{rules}
use Rattle.rules.specs.Calls.{withdraw, cause_of}
use Rattle.rules.specs.Refusals.{answer_of}
use Rattle.rules.proofs.ChangeLaws.{adds}
use Rattle.word_bytes.proofs.CallLaws.{words_read, on-change, change-bytes}
use Rattle.byte_changes.proofs.withdraw.Goals as goal

pub returns-clause-answer : goal.returns-clause-answer
unfolding adds
returns-clause-answer c =
    let call = withdraw c.args.number in
    let a : answer_of c.change.result ≡ cause_of (words_read 0 c.args.book.now) call = search rules in
    a ∙ on-change 0 c.args.book.now call (omega arith) (λ cause f. cause)

pub returns-clause-bytes : goal.returns-clause-bytes
unfolding adds
returns-clause-bytes c =
    let call = withdraw c.args.number in
    let e = c.change.ensures in
    let a : answer_of c.change.result ≡ cause_of (words_read 0 c.args.book.now) call = search rules in
    e.written ∙ change-bytes 0 c.args.book.now call (omega arith) e.are-bytes e.long (search rules) a
