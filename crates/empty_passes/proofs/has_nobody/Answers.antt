-- `empty_passes::has_nobody` meets its contract. Assumes nothing.
use mathlib.Core.Path.{ap}
use borrow.Author.Rules.{rules}
use borrow.Author.Tests.{not-true}
use Rattle.detection.specs.Passes.{is_second}
use Rattle.empty_passes.proofs.SoughtLaws.{none_of, no-seller, no-buyer}
use Rattle.empty_passes.proofs.has_nobody.Goals as goal

pub returns-then-not-has_entry : goal.returns-then-not-has_entry
returns-then-not-has_entry c = λ q. no-seller _ _ _ (none_of _ _ (λ k d l. let h = c.has_entry.ensures c.if-not-has_entry.true k d l in search rules))

pub returns-in-Second : goal.returns-in-Second
returns-in-Second c = λ q. no-buyer _ _ (ap is_second c.in-Second.is) (none_of _ _ (λ k d l. let h = c.has_entry-in-Second.ensures (not-true _ q) k d l in search rules))
