use Rattle.std.proofs.Common.{◌≡◌, ◌+◌, ◌++◌, ◌≤◌, ℕ, List, length, sym, subst, rules, take}
use Rattle.std.proofs.Math.Seq.{take-append-add, length-take-le}
use Rattle.std.proofs.lemmas.List.{take-append-le}
use Rattle.std.specs.Io.KnownBytes.{Consumes}
use Rattle.std.proofs.KnownBytes.{Consumes-trans}
use Rattle.program_input.proofs.read_whole.Goals as goal

-- what was read before, and what came now
joined : (a n : ℕ) (xs ys zs : List ℕ) → a ≤ length xs → n ≤ length ys → take a xs ++ take n ys ≡ take (a + n) (take a xs ++ (ys ++ zs))
joined a n xs ys zs h k =
    sym (rw (length-take-le a xs h, take-append-le n ys zs k) at (take-append-add (take a xs) (ys ++ zs) n))

pub loop-done-preserved : goal.loop-done-preserved
loop-done-preserved g c =
    let both = Consumes-trans _ _ _ _ _ c.loop-done.invariant.2 c.in_ok-count.ensures.bytes.0 in
    (search rules, search rules, subst (Consumes _ _) (joined _ _ _ _ _ (search rules) (search rules)) both)
