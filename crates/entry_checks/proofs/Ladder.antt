-- What a call's result and a branch on it tell of a test. Assumes nothing.
use mathlib.Core.Path.{◌≡◌, sym, ◌∙◌}
use mathlib.Core.Bool.{Bool, true, false}
use Prim.Native.Nat.{ℕ, ◌≤◌, ◌<◌}

pub passed : {r t : Bool} → r ≡ t → r ≡ true → t ≡ true
passed e h = sym e ∙ h

pub failed : {r t : Bool} → r ≡ t → r ≡ false → t ≡ false
failed e h = sym e ∙ h

-- and of a value, or of the room beside the count
pub told : {A : Type 0} {r t v : A} → r ≡ t → r ≡ v → t ≡ v
told e h = sym e ∙ h

pub told-full : {r n room count : ℕ} → r ≡ room → n ≡ count → r ≤ n → room ≤ count
told-full e q h = rw (e, q) at h

pub told-room : {r n room count : ℕ} → r ≡ room → n ≡ count → n < r → count < room
told-room e q h = rw (e, q) at h
