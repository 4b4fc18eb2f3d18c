use mathlib.Core.Path.{refl, sym, ap, ap₂, ◌∙◌}
use mathlib.Core.Bool.{cond}
use Prim.Native.Nat.{ℕ, ◌+◌, ◌<◌, ◌≤◌}
use native.Mathlib.Omega.{arith}
use Rattle.numbers.specs.Sums.{total, count}
use Rattle.rules.specs.Words.{count_of, entries}
use Rattle.rules.specs.Control.{is_to_cancel}
use Rattle.rules.proofs.WordLaws.{book-facts, legal-bounds}
use Rattle.words.proofs.BookCode.{Placed}
use Rattle.cells.proofs.ScanLaws.{scan-few, scan-end}
use Rattle.repeated_pairs.specs.Flags.{flagged}
use Rattle.repeated_pairs.proofs.FlagLaws.{byte-is}
use Rattle.control.proofs.CancelLaws.{through-none, through-all, through-book, through-placed, through_read, through-cancelled, through-kept, count-more, count-few}
use Rattle.control.proofs.passes.cancel.Goals as goal
use Rattle.control.proofs.passes.cancel.Goals.{After-loop-i, In-loop-i, then-cancelled, else-cancelled}

-- in a turn of the loop the number is that of an entry
taken : (c : In-loop-i) → c.loop-i.i < count_of c.args.book.now
taken c = rw (c.count-count.ensures.count, c.known.ensures) at c.loop-i-test.true

past : (c : After-loop-i) → count_of c.args.book.now ≤ c.loop-i.i
past c = rw (c.count-count.ensures.count, c.known.ensures) at c.loop-i-test.false

placed : (c : In-loop-i) → Placed c.loop-i.book c.loop-i.i
placed c = search (through-placed, taken)

pub loop-i-init : goal.loop-i-init
unfolding count total
loop-i-init c = (search through-none, refl)

pub known-requires-in-loop-i : goal.known-requires-in-loop-i
known-requires-in-loop-i c = (through-book _ _ _ c.requires _ (taken c) _ c.loop-i.invariant.0).0

pub entry-e-requires : goal.entry-e-requires
entry-e-requires c =
    rw c.known-in-loop-i.ensures (through-book _ _ _ c.requires _ (taken (goal.at.entry-e-requires c).In-loop-i) _ c.loop-i.invariant.0).1

pub is_to_cancel-cancelled-requires : goal.is_to_cancel-cancelled-requires
is_to_cancel-cancelled-requires c = (legal-bounds _ c.entry-e.ensures.legal).party

pub set_status-requires-clause-number_in_bounds : goal.set_status-requires-clause-number_in_bounds
set_status-requires-clause-number_in_bounds c = (placed (goal.at.set_status-requires-clause-number_in_bounds c).In-loop-i).within

pub set_status-requires-clause-book_value : goal.set_status-requires-clause-book_value
set_status-requires-clause-book_value c = (placed (goal.at.set_status-requires-clause-book_value c).In-loop-i).ok

pub overflow_add-n : goal.overflow_add-n
overflow_add-n c =
    let a = c.args in
    let n = count-few (is_to_cancel (flagged a.flags.now) a.day) c.loop-i.i (entries a.book.now) in
    let i = taken (goal.at.overflow_add-n c).In-loop-i in
    omega (arith, c.loop-i.invariant, n, i, scan-few a.book.now c.requires, byte-is c.is_to_cancel-cancelled.result, c.from-n.ensures)

pub loop-i-preserved : goal.loop-i-preserved
loop-i-preserved c =
    let a = c.args in
    let v = c.loop-i.invariant in
    let q = rw c.known-in-loop-i.ensures at c.entry-e.ensures.entry in
    let t = c.is_to_cancel-cancelled.ensures in
    let i = taken (goal.at.loop-i-preserved c).In-loop-i in
    let r = through_read _ _ _ c.requires _ i _ v.0 _ q in
    let m = count-more (flagged a.flags.now) a.day c.loop-i.i (entries a.book.now) (rw (book-facts a.book.now c.requires).count i) in (
      elim c.if-cancelled.branch [
        | then-cancelled w ↦ w.book-is ∙ through-cancelled _ _ _ c.requires _ i _ v.0 _ q (sym t ∙ w.if-cancelled.true) w.set_status.ensures
        | else-cancelled w ↦ w.book-is ∙ through-kept _ _ _ c.requires _ i _ v.0 _ q (sym t ∙ w.if-cancelled.false)
      ],
      ap₂ ◌+◌ v.1 (c.from-n.ensures ∙ (byte-is c.is_to_cancel-cancelled.result).0 ∙ ap {B = ℕ} (λ y. cond y 1 0) (t ∙ ap (is_to_cancel (flagged a.flags.now) a.day) r)) ∙ sym m,
    )

pub returns-clause-cancelled : goal.returns-clause-cancelled
returns-clause-cancelled c = c.loop-i.invariant.1 ∙ rw (scan-end _ c.requires _ (past c))

pub returns-clause-words : goal.returns-clause-words
returns-clause-words c = through-all _ _ _ c.requires _ _ (past c) c.loop-i.invariant.0
