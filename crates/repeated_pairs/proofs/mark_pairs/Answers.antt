use mathlib.Core.Path.{refl, ap, ◌∙◌}
use mir.Val.{bool_byte}
use native.Mathlib.Omega.{arith}
use Rattle.numbers.specs.Sums.{total, count}
use Rattle.rules.specs.Words.{read_entries}
use Rattle.cells.proofs.ScanLaws.{book_scan, scan-few}
use Rattle.repeated_pairs.specs.Pairs.{pairs_of}
use Rattle.repeated_pairs.proofs.FlagLaws.{byte-is}
use Rattle.repeated_pairs.proofs.PairLaws.{others-few, others-next, others-all}
use Rattle.repeated_pairs.proofs.mark_pairs.Goals as goal

pub loop-i-init : goal.loop-i-init
unfolding count total read_entries
loop-i-init g c = (search book_scan, refl, c.of-period.ensures)

pub overflow_add-n : goal.overflow_add-n
overflow_add-n g c =
    omega (arith, others-few c.args.day c.args.book.now c.loop-i.i c.loop-i.invariant.1, byte-is c.mark_other.result, c.from-n.ensures, c.loop-i.invariant.0.upto, scan-few c.args.book.now c.count-i-end.ensures.book)

pub loop-i-preserved : goal.loop-i-preserved
loop-i-preserved g c =
    let m = c.mark_other.ensures in
    let e = c.entry.ensures.entry in
    let d = c.loop-i.invariant.2 in (
      let b = rw d at m.bits in search book_scan,
      others-next _ _ _ c.loop-i.invariant.1 e (c.from-n.ensures ∙ ap bool_byte (rw d at m.other) ∙ (byte-is _).0),
      d,
    )

pub returns-clause-others : goal.returns-clause-others
unfolding pairs_of
returns-clause-others g c = search others-all

pub returns-clause-bits : goal.returns-clause-bits
unfolding pairs_of
returns-clause-bits g c = search book_scan
