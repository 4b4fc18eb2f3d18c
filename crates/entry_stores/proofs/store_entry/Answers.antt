-- `entry_stores::store_entry` meets its contract. Assumes nothing.
use Prim.Native.Nat.{◌+◌, ◌*◌}
use native.Mathlib.Nat.{add-zero}
use native.Mathlib.Omega.{arith}
use Rattle.rules.specs.Stores.{stored_at}
use Rattle.rules.proofs.WordLaws.{legal-bounds}
use Rattle.entry_stores.proofs.store_entry.Goals as goal

pub overflow_add-book : goal.overflow_add-book
overflow_add-book c = omega (arith, legal-bounds _ c.requires.amount_value)

pub overflow_add-book-2 : goal.overflow_add-book-2
overflow_add-book-2 c = omega (arith, legal-bounds _ c.requires.amount_value)

pub overflow_mul-book : goal.overflow_mul-book
overflow_mul-book c = omega (arith, legal-bounds _ c.requires.amount_value)

pub overflow_add-book-4 : goal.overflow_add-book-4
overflow_add-book-4 c = omega (arith, legal-bounds _ c.requires.amount_value)

pub overflow_add-book-5 : goal.overflow_add-book-5
overflow_add-book-5 c = omega (arith, legal-bounds _ c.requires.amount_value)

pub overflow_cast-book-2 : goal.overflow_cast-book-2
overflow_cast-book-2 c = omega (arith, legal-bounds _ c.requires.amount_value)

pub overflow_add-book-9 : goal.overflow_add-book-9
overflow_add-book-9 c = omega (arith, legal-bounds _ c.requires.amount_value)

pub returns : goal.returns
unfolding stored_at
returns c = let k = c.args.key in rw (add-zero (k.entry_type + k.counterparty * 256))
