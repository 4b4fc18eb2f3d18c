-- The answer of a control as a C struct. Assumes nothing.
use mathlib.Core.Path.{◌≡◌, refl}
use Rattle.std.proofs.Common.{Result, Ok, Err}
use Rattle.rules.specs.Refusals.{answer_of}
use Rattle.rules.specs.Answers.{controlled_of}
use Rattle.rules.specs.declared.refusal.Refusal.{Refusal}
use Rattle.rules.specs.declared.Counts.{Counts}

pub control-cause : (r : Result Counts Refusal) → answer_of r ≡ (controlled_of r).answer
control-cause (Ok n) = refl
control-cause (Err e) = refl
