-- `byte_changes::post` meets its contract. Assumes nothing.
use mathlib.Core.Path.{◌≡◌, ◌∙◌, ap}
use native.Mathlib.Omega.{arith}
use borrow.Author.Rules.{rules}
use Rattle.rules.specs.Entry.{key_in}
use Rattle.rules.specs.Calls.{post, post_answer}
use Rattle.rules.specs.Answers.{posted_of}
use Rattle.rules.proofs.ChangeLaws.{adds}
use Rattle.word_bytes.proofs.CallLaws.{words_read, on-change, change-bytes}
use Rattle.byte_changes.proofs.post.Goals as goal

pub returns-clause-answer : goal.returns-clause-answer
unfolding adds
returns-clause-answer c =
    let call = post (key_in c.args.key) c.args.amount in
    let a : posted_of c.change.result ≡ post_answer (words_read 1 c.args.book.now) (key_in c.args.key) c.args.amount = search rules in
    a ∙ on-change 1 c.args.book.now call (omega arith) (λ cause f. record { answer = cause; number = f.number })

pub returns-clause-bytes : goal.returns-clause-bytes
unfolding adds
returns-clause-bytes c =
    let call = post (key_in c.args.key) c.args.amount in
    let e = c.change.ensures in
    let a : posted_of c.change.result ≡ post_answer (words_read 1 c.args.book.now) (key_in c.args.key) c.args.amount = search rules in
    e.written ∙ change-bytes 1 c.args.book.now call (omega arith) e.are-bytes e.long (search rules) (ap (λ r. r.answer) a)
