-- Laws of the numbers of refusals. Assumes nothing.
use Rattle.std.proofs.Common.{◌≡◌, ℕ, ◌<◌, Result, Ok, Err, IfOk, refl, arith}
use Rattle.numbers.specs.Causes.{or_else, if_done}
use Rattle.rules.specs.Refusals.{number_of, answer_of}
use Rattle.rules.specs.declared.refusal.Refusal.{Refusal}
use Rattle.rules.specs.declared.refusal.Refusal.TheVariants.{NotABook, BadFile, BadParty, BadDay, BadType, BadCounterparty, BadAmount, DayClosed, NoRoom, NoEntry, BadLength, BadFigure}

-- a cause is numbered from 1 on
pub number-above : (e : Refusal) → 0 < number_of e
number-above NotABook = omega arith
number-above BadFile = omega arith
number-above BadParty = omega arith
number-above BadDay = omega arith
number-above BadType = omega arith
number-above BadCounterparty = omega arith
number-above BadAmount = omega arith
number-above DayClosed = omega arith
number-above NoRoom = omega arith
number-above NoEntry = omega arith
number-above BadLength = omega arith
number-above BadFigure = omega arith

pub number-not_zero : (e : Refusal) → number_of e ≡ 0 → ⊥
number-not_zero e h = let a = number-above e in absurd (omega arith)
