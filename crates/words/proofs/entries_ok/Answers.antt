-- `entries_ok` meets its contract. Assumes nothing.
use mathlib.Core.Path.{◌≡◌, refl, sym, ◌∙◌}
use Prim.Native.Nat.{◌-◌}
use native.Mathlib.Omega.{arith}
use Rattle.rules.specs.Words.{entries_ok}
use Rattle.words.proofs.BookCode.{entries_ok-from, ok-told}
use Rattle.words.proofs.entries_ok.Goals as goal

pub returns-then-not-is_ok : goal.returns-then-not-is_ok
returns-then-not-is_ok c =
    let a = c.args in
    let t = ok-told a.words.now c.loop-i.i c.is_ok.ensures c.words_at.ensures refl in
    sym (c.loop-i.invariant ∙ rw (entries_ok-from a.count a.words.now c.loop-i.i c.loop-i-test.true, t, c.if-not-is_ok.true))

pub loop-i-preserved : goal.loop-i-preserved
loop-i-preserved c =
    let a = c.args in
    let t = ok-told a.words.now c.loop-i.i c.is_ok.ensures c.words_at.ensures refl in
    c.loop-i.invariant ∙ rw (entries_ok-from a.count a.words.now c.loop-i.i c.loop-i-test.true, t, c.if-not-is_ok.false)

pub returns : goal.returns
unfolding entries_ok
returns c =
    let z : c.args.count - c.loop-i.i ≡ 0 = omega arith in
    sym (c.loop-i.invariant ∙ rw z)
