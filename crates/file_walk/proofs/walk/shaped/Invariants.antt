-- `file_walk::walk::shaped` meets its contract. The loop's invariant: the pass is over the file's bytes, and what is left decides as the whole file does. Assumes nothing.
use Rattle.file_walk.proofs.WalkLaws.{Along, to_come}
use Rattle.file_walk.proofs.walk.shaped.Given as goal

abbrev pub invariant-loop-pass : goal.invariant-loop-pass
invariant-loop-pass l = Along l.file l.pass

abbrev pub decreases-loop-pass : goal.decreases-loop-pass
decreases-loop-pass l = to_come l.pass
