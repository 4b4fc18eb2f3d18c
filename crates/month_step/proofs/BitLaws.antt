-- Signed figures in the bits of the code. Assumes nothing.
use mathlib.Core.Path.{◌≡◌}
use Prim.Native.Nat.{◌≤◌, ◌<◌, ◌^◌}
use native.Mathlib.Nat.{le_refl}
use native.Mathlib.Omega.{arith}
use lib.IntN.{ℤ, pos, negsuc, nat_abs}
use lib.Signed.{mag}
use mir.Syntax.{w32, w64}
use mir.Val.{SFits, hbits, to_z, of_z}
use mir.ValLaws.{to_z-of_z}

-- a number, stored in 32 or in 64 bits and read again
abbrev pub in32 : ℤ → ℤ
in32 z = to_z w32 (of_z w32 z)

abbrev pub in64 : ℤ → ℤ
in64 z = to_z w64 (of_z w64 z)

pub exact32 : (z : ℤ) → mag z < 2 ^ hbits w32 → in32 z ≡ z
exact32 z h = to_z-of_z w32 z (record { sfits = h })

mag-below : (z : ℤ) → mag z ≤ nat_abs z
mag-below (pos n) = le_refl n
mag-below (negsuc n) = omega arith

pub fits64 : (z : ℤ) → nat_abs z < 2 ^ 63 → SFits w64 z
fits64 z h = record { sfits = omega (arith, mag-below z) }
