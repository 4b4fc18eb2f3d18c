-- `byte_openings::open` meets its contract.
use mathlib.Core.Path.{sym, ◌∙◌}
use native.Mathlib.Omega.{arith}
use Rattle.std.proofs.lemmas.Result.{err_from_is_err_and}
use Rattle.rules.proofs.BookLaws.{open-limits}
use Rattle.rules.proofs.RefusalLaws.{number-not_zero}
use Rattle.byte_openings.proofs.OpenLaws.{open-odd, open_none, open-put}
use Rattle.byte_openings.proofs.open.Goals as goal

pub returns-then-not-is_whole-clause-answer : goal.returns-then-not-is_whole-clause-answer
returns-then-not-is_whole-clause-answer c =
    (open-odd c.args.book.now _ _ (sym c.is_whole.ensures ∙ c.if-not-is_whole.true)).0

pub returns-then-not-is_whole-clause-bytes : goal.returns-then-not-is_whole-clause-bytes
returns-then-not-is_whole-clause-bytes c =
    (open-odd c.args.book.now c.args.coefficient c.args.tolerance (sym c.is_whole.ensures ∙ c.if-not-is_whole.true)).1

pub returns-in_err-check-clause-answer : goal.returns-in_err-check-clause-answer
returns-in_err-check-clause-answer c =
    let p = err_from_is_err_and c.from_residual.result c.from_residual.ensures.1 in
    rw (p.1, p.2)
    (open_none c.args.book.now _ _ (λ i. (c.slice_known-1.given i).fits) (sym c.is_whole.ensures ∙ c.if-not-is_whole.false) c.in_err-check.ensures (number-not_zero _)).0

pub returns-in_err-check-clause-bytes : goal.returns-in_err-check-clause-bytes
returns-in_err-check-clause-bytes c =
    (open_none c.args.book.now c.args.coefficient c.args.tolerance (λ i. (c.slice_known-1.given i).fits) (sym c.is_whole.ensures ∙ c.if-not-is_whole.false) c.in_err-check.ensures (number-not_zero _)).1

pub overflow_add-coefficient : goal.overflow_add-coefficient
overflow_add-coefficient c = let l = open-limits _ _ _ (sym c.in_ok-check.ensures) in omega arith

pub put_word-requires : goal.put_word-requires
put_word-requires c = let l = open-limits _ _ _ (sym c.in_ok-check.ensures) in omega arith

pub overflow_add-tolerance : goal.overflow_add-tolerance
overflow_add-tolerance c = let l = open-limits _ _ _ (sym c.in_ok-check.ensures) in omega arith

pub put_word-requires-2 : goal.put_word-requires-2
put_word-requires-2 c = let l = open-limits _ _ _ (sym c.in_ok-check.ensures) in omega arith

pub put_word-requires-3 : goal.put_word-requires-3
put_word-requires-3 c = let l = open-limits _ _ _ (sym c.in_ok-check.ensures) in omega arith

pub returns-clause-answer : goal.returns-clause-answer
returns-clause-answer c =
    (open-put c.args.book.now c.args.coefficient c.args.tolerance (λ i. (c.slice_known-1.given i).fits) (sym c.is_whole.ensures ∙ c.if-not-is_whole.false) (sym c.in_ok-check.ensures) c.put_word.ensures c.put_word-2.ensures c.put_word-3.ensures).0

pub returns-clause-bytes : goal.returns-clause-bytes
returns-clause-bytes c =
    (open-put c.args.book.now c.args.coefficient c.args.tolerance (λ i. (c.slice_known-1.given i).fits) (sym c.is_whole.ensures ∙ c.if-not-is_whole.false) (sym c.in_ok-check.ensures) c.put_word.ensures c.put_word-2.ensures c.put_word-3.ensures).1
