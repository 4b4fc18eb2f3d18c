-- `control::check` meets its contract. Assumes nothing.
use Rattle.std.proofs.lemmas.Result.{err_from_is_err_and}
use Rattle.entry_checks.proofs.Ladder.{passed, failed}
use Rattle.control.proofs.RunLaws.{cause-book, cause-day, cause-closed, cause-room, cause-none}
use Rattle.control.proofs.check.Goals as goal

pub returns-in_err-book : goal.returns-in_err-book
returns-in_err-book c =
    let p = err_from_is_err_and c.from_residual.result c.from_residual.ensures.1 in
    rw (p.1, p.2, c.in_err-book.ensures.err) (cause-book _ _ c.in_err-book.ensures.no_book)

pub returns-then-not-day_ok : goal.returns-then-not-day_ok
returns-then-not-day_ok c = cause-day _ _ c.in_ok-book.ensures.book (failed c.day_ok.ensures c.if-not-day_ok.true)

pub returns-then-is_closed : goal.returns-then-is_closed
returns-then-is_closed c =
    let b = c.in_ok-book.ensures in
    cause-closed _ _ b.book (passed c.day_ok.ensures c.if-not-day_ok.false) (rw b.ok at (passed c.is_closed.ensures c.if-is_closed.true))

pub returns-then-not-has_room : goal.returns-then-not-has_room
returns-then-not-has_room c =
    let b = c.in_ok-book.ensures in
    cause-room _ _ b.book (passed c.day_ok.ensures c.if-not-day_ok.false) (rw b.ok at (failed c.is_closed.ensures c.if-is_closed.false)) (rw b.ok at (failed c.has_room.ensures c.if-not-has_room.true))

pub returns : goal.returns
returns c =
    let b = c.in_ok-book.ensures in
    cause-none _ _ b.book (passed c.day_ok.ensures c.if-not-day_ok.false) (rw b.ok at (failed c.is_closed.ensures c.if-is_closed.false)) (rw b.ok at (passed c.has_room.ensures c.if-not-has_room.false))
