-- `control::run` meets its contract. Assumes nothing.
use native.Mathlib.Omega.{arith}
use Rattle.rules.proofs.CallLaws.{control-passes}
use Rattle.control.proofs.RunLaws.{run-book, after_first_lem, mark-room, run-answers, run-words, run_fits}
use Rattle.control.proofs.run.Goals as goal

pub run_pass-first-requires : goal.run_pass-first-requires
run_pass-first-requires c = run-book c.args.book.now c.args.day c.requires

pub run_pass-second-requires : goal.run_pass-second-requires
run_pass-second-requires c = (after_first_lem c.args.book.now c.args.day c.requires c.run_pass-first.ensures.words).is-book

pub append_mark-requires : goal.append_mark-requires
append_mark-requires c =
    let ws = c.args.book.now in
    let d = c.args.day in
    (mark-room ws d c.requires c.run_pass-first.ensures.words c.run_pass-second.ensures.words, (control-passes ws d c.requires).day)

pub overflow_add-result : goal.overflow_add-result
overflow_add-result c =
    let p = c.run_pass-first.ensures in
    omega (arith, run_fits c.args.book.now c.args.day c.requires p.words p.counts c.run_pass-second.ensures.counts)

pub returns-clause-answer : goal.returns-clause-answer
returns-clause-answer c =
    let p = c.run_pass-first.ensures in
    run-answers c.args.book.now c.args.day c.requires p.words p.counts c.run_pass-second.ensures.counts

pub returns-clause-words : goal.returns-clause-words
returns-clause-words c =
    run-words c.args.book.now c.args.day c.requires c.run_pass-first.ensures.words c.run_pass-second.ensures.words c.append_mark.ensures
