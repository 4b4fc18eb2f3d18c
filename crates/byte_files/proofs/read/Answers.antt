-- `byte_files::read` meets its contract. Assumes nothing.
use mathlib.Core.Path.{◌≡◌, ◌∙◌, ap}
use borrow.Author.Rules.{rules}
use lib.ListN.{length}
use Prim.Native.Nat.{◌/◌}
use Rattle.rules.specs.Calls.{file, file_answer}
use Rattle.rules.specs.Answers.{file_read_of}
use Rattle.rules.proofs.CallLaws.{file-adds}
use Rattle.word_bytes.proofs.CallLaws.{words_read, on-change, change-bytes}
use Rattle.byte_files.proofs.read.Goals as goal

pub returns-clause-answer : goal.returns-clause-answer
returns-clause-answer c =
    let bs = c.args.file.now in
    let k = length bs / 12 in
    let a : file_read_of c.change.result ≡ file_answer (words_read k c.args.book.now) bs = search rules in
    a ∙ on-change k c.args.book.now (file bs) (file-adds bs) (λ cause f. record { answer = cause; posted = f.lines })

pub returns-clause-bytes : goal.returns-clause-bytes
returns-clause-bytes c =
    let bs = c.args.file.now in
    let k = length bs / 12 in
    let e = c.change.ensures in
    let a : file_read_of c.change.result ≡ file_answer (words_read k c.args.book.now) bs = search rules in
    e.written ∙ change-bytes k c.args.book.now (file bs) (file-adds bs) e.are-bytes e.long (search rules) (ap (λ r. r.answer) a)
