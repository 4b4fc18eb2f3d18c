-- `byte_changes::control` meets its contract. Assumes nothing.
use mathlib.Core.Path.{◌≡◌, ◌∙◌, ap}
use native.Mathlib.Omega.{arith}
use borrow.Author.Rules.{rules}
use Rattle.rules.specs.Calls.{control, control_answer}
use Rattle.rules.specs.Answers.{controlled_of}
use Rattle.rules.proofs.ChangeLaws.{adds}
use Rattle.word_bytes.proofs.CallLaws.{words_read, on-change, change-bytes}
use Rattle.byte_changes.proofs.AnswerLaws.{control-cause}
use Rattle.byte_changes.proofs.control.Goals as goal

pub returns-clause-answer : goal.returns-clause-answer
unfolding adds
returns-clause-answer c =
    let call = control c.args.day in
    let a : controlled_of c.change.result ≡ control_answer (words_read 1 c.args.book.now) c.args.day = search rules in
    a ∙ on-change 1 c.args.book.now call (omega arith) (λ cause f. record { answer = cause; first = f.first; second = f.second; cancelled = f.cancelled })

pub returns-clause-bytes : goal.returns-clause-bytes
unfolding adds
returns-clause-bytes c =
    let call = control c.args.day in
    let e = c.change.ensures in
    let a : controlled_of c.change.result ≡ control_answer (words_read 1 c.args.book.now) c.args.day = search rules in
    e.written ∙ change-bytes 1 c.args.book.now call (omega arith) e.are-bytes e.long (search rules) (control-cause c.change.result ∙ ap (λ r. r.answer) a)
