-- Laws of a book without a closed day, of the causes of items, and of the lines they hold. Assumes nothing.
use mathlib.Core.Path.{◌≡◌, refl, sym}
use mathlib.Core.Bool.{Bool, false}
use mathlib.Core.List.{List, [], ◌∷◌}
use Prim.Native.Nat.{ℕ, zero, suc, ◌+◌, ◌≤◌}
use native.Mathlib.Omega.{arith}
use lib.ListN.{length}
use Rattle.numbers.specs.Tests.{any}
use Rattle.numbers.proofs.TestLaws.{or-false-split}
use Rattle.numbers.proofs.CauseLaws.{else-stop}
use Rattle.rules.specs.Entry.{Record, is_mark}
use Rattle.rules.specs.Book.{is_closed}
use Rattle.rules.specs.DayFile.{Item, line, empty_block, lines_of, items}
use Rattle.file_check.specs.Check.{TableOf, cause_by, first_cause}
use Rattle.rules.proofs.ChangeLaws.{adds}
use Rattle.rules.proofs.CallLaws.{file-adds}

-- without a mark no day is closed, as one flag that is not set tells
open-days : (rs : List Record) → any is_mark rs ≡ false → (d : ℕ) → is_closed d rs ≡ false
unfolding is_closed any
open-days [] e d = refl
open-days (r ∷ rs) e d =
    let s = or-false-split (is_mark r) (any is_mark rs) e in
    rw (s.0, open-days rs s.1 d)

pub none-closed : (rs : List Record) → any is_mark rs ≡ false → TableOf (false ∷ []) rs
none-closed rs e zero h = sym (open-days rs e 0)
none-closed rs e (suc d) h = sym (open-days rs e (suc d))

-- one item, and those after it
pub item-fails : (cs : List Bool) {is : List Item} (i : Item) {next : List Item} {k : ℕ} → is ≡ i ∷ next → k ≡ cause_by cs i → (k ≡ 0 → ⊥) → first_cause cs is ≡ k
item-fails cs i e c n = rw (e, ← c) (else-stop _ _ n)

pub item-passes : (cs : List Bool) {is : List Item} (i : Item) {next : List Item} → is ≡ i ∷ next → 0 ≡ cause_by cs i → first_cause cs is ≡ first_cause cs next
item-passes cs i e c = rw (e, ← c)

pub one_more : {is : List Item} (i : Item) {next : List Item} → is ≡ i ∷ next → length (lines_of is) ≡ length (lines_of (i ∷ [])) + length (lines_of next)
unfolding lines_of
one_more (line k a) e = rw e (omega arith)
one_more (empty_block p d) e = rw e (omega arith)

-- a file has not too many lines to be counted
pub lines-fit : (bs : List ℕ) → length (lines_of (items bs)) ≤ length bs
unfolding adds
lines-fit bs = omega (arith, file-adds bs)
