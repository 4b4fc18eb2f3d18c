-- The cause of month tables, from their tests. Assumes nothing.
use mathlib.Core.Path.{◌≡◌, sym}
use mathlib.Core.Bool.{Bool, true, false, ◌&&◌}
use Rattle.numbers.specs.Tests.{all}
use Rattle.numbers.specs.Causes.{unless}
use Rattle.numbers.proofs.CauseLaws.{else-none}
use Rattle.rules.specs.Refusals.{bad_length, bad_figure}
use Rattle.rules.specs.Month.{Tables, volume_ok, month_cause}
use Rattle.month_step.specs.Ranges.{places_ok, price_ok, agree}

module _ (m : Tables) where
  pub lengths-refused : agree m ≡ false → bad_length ≡ month_cause m
  unfolding month_cause
  lengths-refused e = rw e

  -- with lengths that agree, the four tests decide, as the code has them
  pub tests-decide : agree m ≡ true → (places prices volumes dms : Bool) → places ≡ places_ok m.rows m.group → prices ≡ all price_ok m.prices →
      volumes ≡ all volume_ok m.imbalance → dms ≡ all volume_ok m.dm → (t : Bool) → places && prices && volumes && dms ≡ t →
      unless t bad_figure ≡ month_cause m
  unfolding month_cause
  tests-decide e places prices volumes dms p q v d t f =
      rw (e, sym p, sym q, sym v, sym d, f) (sym (else-none (unless t bad_figure)))
