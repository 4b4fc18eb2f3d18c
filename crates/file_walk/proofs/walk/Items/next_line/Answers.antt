-- `file_walk::walk::Items::next_line` meets its contract. Assumes nothing.
use mathlib.Core.Logic.{inl, inr}
use Rattle.file_walk.proofs.WalkLaws.{line-held, line-cut}
use Rattle.file_walk.proofs.walk.Items.next_line.Goals as goal

pub returns-in_err-named : goal.returns-in_err-named
returns-in_err-named c =
    let s = c.args.self.now in
    let n = line-cut s.reader c.take_words.ensures s.party s.day s.left c.requires (inl c.in_err-named.was) in
    rw c.from_residual.ensures (n, n)

pub returns-in_err-low : goal.returns-in_err-low
returns-in_err-low c =
    let s = c.args.self.now in
    let n = line-cut s.reader c.take_words.ensures s.party s.day s.left c.requires (inr (inl c.in_err-low.was)) in
    rw c.from_residual-in_err-low.ensures (n, n)

pub returns-in_err-high : goal.returns-in_err-high
returns-in_err-high c =
    let s = c.args.self.now in
    let n = line-cut s.reader c.take_words.ensures s.party s.day s.left c.requires (inr (inr c.in_err-high.was)) in
    rw c.from_residual-in_err-high.ensures (n, n)

pub returns : goal.returns
returns c =
    let s = c.args.self.now in
    rw (c.from.ensures, c.from-2.ensures) (line-held s.reader c.take_words.ensures s.party s.day s.left c.requires c.in_ok-named.was c.in_ok-low.was c.in_ok-high.was)
