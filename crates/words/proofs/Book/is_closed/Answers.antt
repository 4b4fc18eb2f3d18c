-- `Book::is_closed` meets its contract. Assumes nothing.
use mathlib.Core.Path.{◌≡◌, sym, ◌∙◌}
use Prim.Native.Nat.{◌-◌}
use native.Mathlib.Nat.{sub-zero}
use native.Mathlib.Omega.{arith}
use Rattle.numbers.specs.Tests.{any}
use Rattle.rules.specs.Words.{read_entries, entries, count_of}
use Rattle.rules.specs.Book.{is_closed}
use Rattle.words.proofs.BookCode.{closed-from, mark-told}
use Rattle.words.proofs.Book.is_closed.Goals as goal

pub loop-i-init : goal.loop-i-init
unfolding entries
loop-i-init c = rw (sub-zero (count_of c.args.self.now))

pub returns-then-is_mark_of : goal.returns-then-is_mark_of
returns-then-is_mark_of c =
    let a = c.args in
    let ws = a.self.now in
    sym (c.loop-i.invariant ∙ rw (closed-from a.day (count_of ws) ws c.loop-i.i (rw c.count-i-end.ensures.count at c.loop-i-test.true), mark-told a.day ws c.loop-i.i c.is_mark_of.ensures c.entry_words.ensures.entry, c.if-is_mark_of.true))

pub loop-i-preserved : goal.loop-i-preserved
loop-i-preserved c =
    let a = c.args in
    let ws = a.self.now in
    c.loop-i.invariant ∙ rw (closed-from a.day (count_of ws) ws c.loop-i.i (rw c.count-i-end.ensures.count at c.loop-i-test.true), mark-told a.day ws c.loop-i.i c.is_mark_of.ensures c.entry_words.ensures.entry, c.if-is_mark_of.false)

pub returns : goal.returns
unfolding is_closed any read_entries
returns c =
    let ws = c.args.self.now in
    let z : count_of ws - c.loop-i.i ≡ 0 = omega arith in
    sym (c.loop-i.invariant ∙ rw z)
