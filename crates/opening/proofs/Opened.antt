-- What an opening leaves, and why it is refused, as code tells them. Assumes nothing.
use mathlib.Core.Path.{◌≡◌, refl, sym, ◌∙◌}
use mathlib.Core.Bool.{Bool, true, false, ◌&&◌}
use mathlib.Core.List.{List, [], ◌∷◌}
use Prim.Native.Nat.{ℕ}
use lib.ListN.{length, set}
use Rattle.numbers.specs.Causes.{unless, first_of}
use Rattle.numbers.proofs.CauseLaws.{done-zero}
use Rattle.rules.specs.Refusals.{bad_length, bad_figure}
use Rattle.rules.specs.Words.{word}
use Rattle.rules.specs.Book.{open_cause, open_words}

-- an opening stores the word with the count last
count-last : (ws : List ℕ) (n R TM : ℕ) → set (set (set ws 1 R) 2 TM) 0 n ≡ set (set (set ws 0 n) 1 R) 2 TM
count-last [] n R TM = refl
count-last (w ∷ ws) n R TM = refl

pub open-leaves : (ws : List ℕ) (R TM : ℕ) → open_cause (length ws) R TM ≡ 0 → set (set (set ws 1 (word 7 R)) 2 (word 8 TM)) 0 (word 6 0) ≡ open_words ws R TM
unfolding open_words
open-leaves ws R TM e = count-last ws (word 6 0) (word 7 R) (word 8 TM) ∙ sym (done-zero _ _ _ e)

-- one test of all: it holds where there is no cause, and with the words there a figure is out of its range where it fails
pub fits : (a b : Bool) → a && b ≡ true → 0 ≡ first_of (unless a bad_length ∷ unless b bad_figure ∷ [])
fits true true e = refl
fits true false e = cc
fits false b e = cc

pub figure-off : (b : Bool) → true && b ≡ false → bad_figure ≡ first_of (unless b bad_figure ∷ [])
figure-off false e = refl
figure-off true e = cc
