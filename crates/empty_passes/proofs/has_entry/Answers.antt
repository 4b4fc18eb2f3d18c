use native.Mathlib.Omega.{arith}
use Rattle.rules.proofs.WordLaws.{book-facts}
use Rattle.empty_passes.proofs.SoughtLaws.{entry-read}
use Rattle.empty_passes.proofs.has_entry.Goals as goal

pub returns : goal.returns
returns g c = λ q k d l.
    let b = c.count-i-end.ensures in
    rw (entry-read c.args.book.now b.book k d l) (c.loop-i.invariant k (omega (arith, (book-facts c.args.book.now b.book).count, b.count)))
