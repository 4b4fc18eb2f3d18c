-- `file_walk::walk::Items::begin_block` meets its contract. Assumes nothing.
use mathlib.Core.Logic.{inl, inr}
use Rattle.file_walk.proofs.WalkLaws.{head-held, head-cut}
use Rattle.file_walk.proofs.walk.Items.begin_block.Goals as goal

pub returns-in_err-first : goal.returns-in_err-first
returns-in_err-first c =
    let s = c.args.self.now in
    let n = head-cut s.reader c.take_words.ensures s.party s.day (inl c.in_err-first.was) in
    rw (c.from_residual.ensures, c.requires) (n, n)

pub returns-in_err-second : goal.returns-in_err-second
returns-in_err-second c =
    let s = c.args.self.now in
    let n = head-cut s.reader c.take_words.ensures s.party s.day (inr c.in_err-second.was) in
    rw (c.from_residual-in_err-second.ensures, c.requires) (n, n)

pub returns : goal.returns
returns c =
    let s = c.args.self.now in
    rw c.requires (head-held s.reader c.take_words.ensures s.party s.day c.in_ok-first.was c.in_ok-second.was)
