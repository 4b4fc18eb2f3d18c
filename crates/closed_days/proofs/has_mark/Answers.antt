use mathlib.Core.Path.{◌≡◌, sym, ◌∙◌}
use mathlib.Core.Bool.{◌||◌}
use mathlib.Core.List.{List}
use Prim.Native.Nat.{ℕ, ◌<◌, ◌+◌, ◌*◌, ◌-◌}
use native.Mathlib.Nat.{sub-zero}
use native.Mathlib.Omega.{arith}
use lib.Dec.{eqb}
use lib.ListN.{drop}
use borrow.Author.Tests.{eq-eqb, ne_eqb}
use Rattle.numbers.specs.Tests.{any}
use Rattle.rules.specs.Entry.{Record, key, is_mark}
use Rattle.rules.specs.Words.{entries, count_of, read_entries}
use Rattle.rules.specs.Book.{entry_at}
use Rattle.closed_days.proofs.MarkLaws.{mark-from}
use Rattle.closed_days.proofs.has_mark.Goals as goal

-- after the type of an entry is read: whether the book has a mark, by that entry and those to come
by-entry : (ws : List ℕ) (i : ℕ) {n t : ℕ} {r : Record} → any is_mark (entries ws) ≡ any is_mark (read_entries (count_of ws - i) (drop (3 + 5 * i) ws)) → i < n → n ≡ count_of ws → t ≡ (key r).type → r ≡ entry_at ws i →
    any is_mark (entries ws) ≡ eqb t 21 || any is_mark (read_entries (count_of ws - (i + 1)) (drop (3 + 5 * (i + 1)) ws))
by-entry ws i so_far h c e r = so_far ∙ rw (e, r) (mark-from (count_of ws) ws i (rw c at h))

pub loop-n-init : goal.loop-n-init
unfolding entries
loop-n-init c = rw (sub-zero (count_of c.args.book.now))

pub returns-then-entry_type-eq-MARK-clause-mark : goal.returns-then-entry_type-eq-MARK-clause-mark
returns-then-entry_type-eq-MARK-clause-mark c =
    sym (by-entry _ _ c.loop-n.invariant c.loop-n-test.true c.count-n-end.ensures.count c.entry_type.ensures c.entry_words.ensures.entry ∙ rw (eq-eqb _ _ c.if-entry_type-eq-MARK.true))

pub loop-n-preserved : goal.loop-n-preserved
loop-n-preserved c =
    by-entry _ _ c.loop-n.invariant c.loop-n-test.true c.count-n-end.ensures.count c.entry_type.ensures c.entry_words.ensures.entry ∙ rw (ne_eqb _ _ c.if-entry_type-eq-MARK.false)

pub returns-clause-mark : goal.returns-clause-mark
unfolding any read_entries
returns-clause-mark c =
    let ws = c.args.book.now in
    let z : count_of ws - c.loop-n.n ≡ 0 = omega arith in
    sym (c.loop-n.invariant ∙ rw z)
