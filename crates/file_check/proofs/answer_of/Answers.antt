-- `file_check::answer_of` meets its contract. Assumes nothing.
use mathlib.Core.Path.{refl}
use Rattle.std.proofs.lemmas.Result.{err_from_is_err_and}
use Rattle.rules.proofs.RefusalLaws.{number-not_zero}
use Rattle.entry_checks.proofs.Ladder.{passed, failed}
use Rattle.file_check.proofs.AnswerLaws.{file-bytes, answer-refused, answer-full, answer-done}
use Rattle.file_check.proofs.answer_of.Goals as goal

pub scan_for-requires : goal.scan_for-requires
scan_for-requires c = search file-bytes

pub returns-in_err-lines : goal.returns-in_err-lines
returns-in_err-lines c =
    let p = err_from_is_err_and c.from_residual.result c.from_residual.ensures.1 in
    rw (p.1, p.2) (answer-refused _ _ c.in_err-lines.ensures.book c.requires c.in_err-lines.ensures.scan (number-not_zero _))

pub returns-then-not-has_room : goal.returns-then-not-has_room
returns-then-not-has_room c =
    answer-full _ _ c.in_ok-lines.ensures.book c.requires c.in_ok-lines.ensures.scan refl (failed c.has_room.ensures c.if-not-has_room.true)

pub returns : goal.returns
returns c =
    answer-done _ _ c.in_ok-lines.ensures.book c.requires c.in_ok-lines.ensures.scan refl (passed c.has_room.ensures c.if-not-has_room.false)
