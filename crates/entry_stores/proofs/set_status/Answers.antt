-- `entry_stores::set_status` meets its contract. Assumes nothing.
use mathlib.Core.Path.{refl}
use Prim.Native.Nat.{◌+◌, ◌*◌}
use native.Mathlib.Omega.{arith}
use Rattle.rules.specs.Stores.{restatused}
use Rattle.words.proofs.BookCode.{kind-three}
use Rattle.entry_stores.proofs.set_status.Goals as goal

pub overflow_add-book : goal.overflow_add-book
overflow_add-book c =
    omega (arith, kind-three c.args.book.now (3 + 5 * c.args.number) c.requires.book_value)

pub returns : goal.returns
unfolding restatused
returns c = refl
