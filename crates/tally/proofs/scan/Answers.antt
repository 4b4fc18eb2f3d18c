-- `tally::scan` meets its contract. Assumes nothing.
use mathlib.Core.Path.{◌≡◌, sym, ap, ◌∙◌}
use Prim.Native.Nat.{◌<◌, ◌+◌}
use native.Mathlib.Omega.{arith}
use Rattle.rules.specs.Words.{count_of}
use Rattle.rules.specs.Book.{entry_at}
use Rattle.rules.proofs.WordLaws.{book-facts}
use Rattle.cells.proofs.ScanLaws.{read_at}
use Rattle.tally.proofs.TallyLaws.{none_yet, all_read, adds_same, bought-to, own-adds, not_own, not-summed, sold-adds, sold-none, sums-within, bought-within}
use Rattle.tally.proofs.scan.Goals as goal
use Rattle.tally.proofs.scan.Goals.{Then-e-is_volume, then-today-e+then-e-is_volume, then-today-e+else-e-is_volume, else-today-e, then-today-e-2, else-today-e-2}

pub loop-i-init : goal.loop-i-init
loop-i-init c = none_yet c.args.book.now c.args.party c.args.day

pub overflow_add-tally : goal.overflow_add-tally
unfolding entry_at
overflow_add-tally c =
    let ws = c.args.book.now in
    let e = c.entry_words-e in
    let n : c.loop-i.i < count_of ws = omega arith in
    let a =
    own-adds ws c.count-i-end.ensures.book c.args.party c.args.day c.loop-i.i n e.result e.ensures.words c.if-today-e.true
    (rw c.is_volume.ensures at c.if-e-is_volume.true) in
    rw (c.loop-i.invariant.tally, c.amount.ensures, e.ensures.entry, c.sum_place-place.ensures) (record { fits = a.fits })

pub overflow_add-bought : goal.overflow_add-bought
unfolding entry_at
overflow_add-bought c =
    let ws = c.args.book.now in
    let b = c.count-i-end.ensures.book in
    let e = c.entry_words-e in
    let n : c.loop-i.i < count_of ws = omega arith in
    let amount : c.amount-bought.result ≡ (read_at ws c.loop-i.i).amount = c.amount-bought.ensures ∙ ap (λ r. r.amount) e.ensures.entry in
    omega (
      arith,
      c.loop-i.invariant.bought-is,
      sold-adds ws b c.args.party c.args.day c.loop-i.i n e.result e.ensures.words c.requires.party_in_range c.if-today-e-2.true,
      bought-to ws b c.args.party c.args.day (c.loop-i.i + 1) (omega arith),
    )

pub loop-i-preserved : goal.loop-i-preserved
unfolding entry_at
loop-i-preserved c =
    let ws = c.args.book.now in
    let b = c.count-i-end.ensures.book in
    let p = c.args.party in
    let d = c.args.day in
    let e = c.entry_words-e in
    let s = c.loop-i.invariant in
    let n : c.loop-i.i < count_of ws = omega arith in
    record {
      tally =
          elim c.if-today-e.branch [
            | then-today-e+then-e-is_volume w ↦ adds_same (own-adds ws b p d c.loop-i.i n e.result e.ensures.words w.if-today-e.true (rw w.is_volume.ensures at w.if-e-is_volume.true)) s.tally w.sum_place-place.ensures (w.amount.ensures ∙ ap (λ r. r.amount) e.ensures.entry) w.tally-is
            | then-today-e+else-e-is_volume w ↦ w.tally-is ∙ s.tally ∙ sym (not-summed ws b p d c.loop-i.i n e.result e.ensures.words (rw w.is_volume.ensures at w.if-e-is_volume.false))
            | else-today-e w ↦ w.tally-is ∙ s.tally ∙ sym (not_own ws b p d c.loop-i.i n e.result e.ensures.words w.if-today-e.false)
          ];
      bought-is =
          elim c.if-today-e-2.branch [
            | then-today-e-2 w ↦
                let amount : w.amount-bought.result ≡ (read_at ws c.loop-i.i).amount = w.amount-bought.ensures ∙ ap (λ r. r.amount) e.ensures.entry in
                omega (arith, s.bought-is, w.bought-is, sold-adds ws b p d c.loop-i.i n e.result e.ensures.words c.requires.party_in_range w.if-today-e-2.true)
            | else-today-e-2 w ↦ w.bought-is ∙ s.bought-is ∙ sym (sold-none ws b p d c.loop-i.i n e.result e.ensures.words c.requires.party_in_range w.if-today-e-2.false)
          ];
    }

pub invariant_of-tolerances : goal.invariant_of-tolerances
invariant_of-tolerances c =
    let f = book-facts c.args.book.now c.count-i-end.ensures.book in
    record { coefficient_within = rw c.coefficient.ensures f.coefficient; tolerance_within = rw c.tolerance.ensures f.tolerance }

pub invariant_of-result : goal.invariant_of-result
invariant_of-result c =
    let a = c.args in
    let b = c.count-i-end.ensures.book in
    record {
      sums_within = sums-within a.book.now b a.party a.day c.loop-i.i (omega arith) c.loop-i.invariant;
      bought_within = bought-within a.book.now b a.party a.day c.loop-i.i (omega arith) c.loop-i.invariant;
    }

pub returns-clause-day : goal.returns-clause-day
returns-clause-day c = all_read c.args.book.now c.args.party c.args.day c.loop-i.i c.loop-i.invariant (omega arith)
