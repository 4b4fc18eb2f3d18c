-- `book::post` meets its contract. Assumes nothing.
use mathlib.Core.Path.{refl}
use Rattle.std.proofs.lemmas.Result.{err_from_is_err_and}
use Rattle.rules.specs.Entry.{key_in}
use Rattle.rules.proofs.RefusalLaws.{number-not_zero}
use Rattle.book.proofs.Calls.{post-refuses, post-room, post-legal, post-answers, post-leaves}
use Rattle.book.proofs.post.Goals as goal

pub returns-in_err-number-clause-answer : goal.returns-in_err-number-clause-answer
returns-in_err-number-clause-answer c =
    let p = err_from_is_err_and c.from_residual.result c.from_residual.ensures.1 in
    let a = c.args in
    rw (p.1, p.2) (post-refuses a.book.now (key_in a.key) a.amount c.in_err-number.ensures.answer (number-not_zero _)).0

pub returns-in_err-number-clause-words : goal.returns-in_err-number-clause-words
returns-in_err-number-clause-words c =
    let a = c.args in
    (post-refuses a.book.now (key_in a.key) a.amount c.in_err-number.ensures.answer (number-not_zero _)).1

pub append-requires-clause-book_bound : goal.append-requires-clause-book_bound
append-requires-clause-book_bound c =
    let a = c.args in
    post-room a.book.now (key_in a.key) a.amount c.in_ok-number.ensures.answer refl

pub append-requires-clause-amount_value : goal.append-requires-clause-amount_value
append-requires-clause-amount_value c =
    let a = c.args in
    post-legal a.book.now (key_in a.key) a.amount c.in_ok-number.ensures.answer refl

pub returns-clause-answer : goal.returns-clause-answer
returns-clause-answer c =
    let a = c.args in
    post-answers a.book.now (key_in a.key) a.amount c.in_ok-number.ensures.answer refl c.in_ok-number.ensures.ok

pub returns-clause-words : goal.returns-clause-words
returns-clause-words c =
    let a = c.args in
    post-leaves a.book.now (key_in a.key) a.amount c.in_ok-number.ensures.answer refl c.append.ensures
