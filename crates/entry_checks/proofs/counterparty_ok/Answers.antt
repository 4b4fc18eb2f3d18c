-- `entry_checks::counterparty_ok` meets its contract. Assumes nothing.
use mathlib.Core.Path.{◌≡◌, refl}
use mathlib.Core.Logic.{inl, inr}
use mathlib.Core.Bool.{false, not, ◌&&◌, and-true, and-false}
use Prim.Native.Nat.{ℕ, zero, suc}
use lib.Dec.{eqb, leb}
use native.Mathlib.Omega.{arith}
use borrow.Author.Tests.{lt-leb, ne_eqb}
use Rattle.numbers.proofs.TestLaws.{bool_cases}
use Rattle.rules.specs.Entry.{key_of, counterparty_ok, bilateral}
use Rattle.entry_checks.specs.Parts.{counterparty_limit}
use Rattle.entry_checks.proofs.counterparty_ok.Goals as goal

none-but-0 : (c : ℕ) → leb c 0 && not false ≡ eqb c 0
none-but-0 zero = refl
none-but-0 (suc c) = rw (lt-leb (suc c) 0 (omega arith), ne_eqb (suc c) 0 (λ q. omega arith))

by-limit : (p d t c : ℕ) → leb c (counterparty_limit t) && not (eqb c p && eqb t bilateral) ≡ counterparty_ok (key_of p d t c)
unfolding counterparty_ok
by-limit p d t c =
    elim (bool_cases (eqb t bilateral)) [
      | inl e ↦ rw (e, and-true (eqb c p))
      | inr e ↦ rw (e, and-false (eqb c p)) (none-but-0 c)
    ]

pub returns : goal.returns
returns c = rw c.counterparty_limit.ensures (by-limit _ _ _ _)
