use mathlib.Core.Path.{◌≡◌, sym, ◌∙◌}
use mathlib.Core.Bool.{false, or-false}
use native.Mathlib.Nat.{sub-zero}
use native.Mathlib.Omega.{arith}
use Prim.Native.Nat.{◌+◌, ◌*◌, ◌-◌, ◌<◌}
use lib.ListN.{get_or, drop}
use Rattle.numbers.specs.Tests.{any}
use Rattle.rules.specs.Words.{count_of, entries, read_entries}
use Rattle.rules.specs.Book.{is_closed, is_mark_of, entry_at}
use Rattle.rules.proofs.WordLaws.{legal-bounds}
use Rattle.entry_words.specs.Words.{entry_in}
use Rattle.closed_days.proofs.MarkLaws.{day-from, table_step, no-mark, mark_set}
use Rattle.closed_days.proofs.close_days.Goals as goal
use Rattle.closed_days.proofs.close_days.Goals.{then-entry_type-eq-MARK, else-entry_type-eq-MARK}

pub loop-i-init : goal.loop-i-init
unfolding entries
loop-i-init c = λ d _. rw (sub-zero (count_of c.args.book.now))

-- the day of a mark has a place in the table
pub bounds-closed-day : goal.bounds-closed-day
bounds-closed-day c = rw (c.day.ensures, c.loop-i.auto.closed, c.requires) (omega (arith, (legal-bounds _ c.entry_words-entry.ensures.legal).day))

pub loop-i-preserved : goal.loop-i-preserved
loop-i-preserved c =
    let ws = c.args.book.now in
    let n = count_of ws in
    let i = c.loop-i.i in
    let e = c.entry_words-entry.ensures.entry in
    let r = entry_in c.entry_words-entry.result in
    let h : i < n = rw c.count-i-end.ensures.count at c.loop-i-test.true in
    λ d l. table_step (get_or c.loop-i.closed d false) (is_mark_of d (entry_at ws i)) (is_closed d (read_entries (n - (i + 1)) (drop (3 + 5 * (i + 1)) ws))) (c.loop-i.invariant d l) (day-from d n ws i h)
    (rw (← e)
    (elim c.if-entry_type-eq-MARK.branch [
      | then-entry_type-eq-MARK w ↦ rw w.closed-is (mark_set c.loop-i.closed r c.entry_type.ensures w.day.ensures w.if-entry_type-eq-MARK.true (omega (arith, w.day.ensures, (legal-bounds _ c.entry_words-entry.ensures.legal).day)) d)
      | else-entry_type-eq-MARK w ↦ rw w.closed-is (no-mark c.loop-i.closed r c.entry_type.ensures w.if-entry_type-eq-MARK.false d)
    ]))

pub returns : goal.returns
unfolding read_entries is_closed any
returns c =
    let z : count_of c.args.book.now - c.loop-i.i ≡ 0 = omega arith in
    λ d h. sym (c.loop-i.invariant d h ∙ rw (z, or-false (get_or c.loop-i.closed d false)))
