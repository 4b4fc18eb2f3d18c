-- Laws of signed figures out of bytes. Assumes nothing.
use mathlib.Core.Path.{◌≡◌, sym, ◌∙◌, ap}
use mathlib.Core.Logic.{◌⊎◌, inl, inr}
use mathlib.Core.List.{List}
use Prim.Native.Nat.{ℕ, ◌*◌, ◌/◌, ◌≤◌, ◌<◌}
use native.Mathlib.Omega.{arith}
use lib.IntN.{ℤ, pos, negsuc, ◌-ℤ◌}
use lib.ListN.{length, get_or, length-map, get_or-map}
use mir.Syntax.{w32, w64}
use mir.Val.{SFits, to_z, of_z}
use mir.ValLaws.{to_z-of_z}
use Rattle.std.proofs.lemmas.List.{get_or_default}
use borrow.Author.Tests.{lt-ltb, le-ltb}
use Rattle.numbers.proofs.TestLaws.{below-or-above}
use Rattle.numbers.proofs.SignedLaws.{sub-below}
use Rattle.rules.specs.DayFile.{words_of}
use Rattle.word_bytes.specs.Coding.{word_at}
use Rattle.word_bytes.proofs.BytesLaws.{length-words, word-at}
use Rattle.month_bytes.specs.Tables.{signed_of, figures_of}

-- a word less 2^32 where its highest bit is set, in the bits of the code
module _ (w : ℕ) (f : w < 4294967296) where
  abbrev pub less_top : ℤ
  less_top = pos w -ℤ to_z w64 (w / 2147483648 * 4294967296)

  apart : (w < 2147483648) ⊎ (2147483648 ≤ w) → (less_top ≡ signed_of w) × SFits w32 (signed_of w)
  unfolding signed_of
  apart (inl h) =
      let top : w / 2147483648 * 4294967296 ≡ 0 = omega arith in
      rw (lt-ltb w 2147483648 h) (rw top (ap pos (omega arith)), record { sfits = h })
  apart (inr h) =
      let top : w / 2147483648 * 4294967296 ≡ 4294967296 = omega arith in
      rw (le-ltb w 2147483648 h)
      (rw top (sub-below w 4294967296 f ∙ ap negsuc (omega arith)), record { sfits = omega arith })

  pub less-top : less_top ≡ signed_of w
  less-top = (apart (below-or-above w 2147483648)).0

  pub signed-fits : SFits w32 (signed_of w)
  signed-fits = (apart (below-or-above w 2147483648)).1

  pub less-fits : SFits w64 less_top
  less-fits = rw less-top (record { sfits = omega (arith, signed-fits.sfits) })

  pub less-cast : to_z w64 (of_z w64 less_top) ≡ signed_of w
  less-cast = to_z-of_z w64 less_top less-fits ∙ less-top

pub length-figures : (bs : List ℕ) → length (figures_of bs) ≡ length bs / 4
unfolding figures_of
length-figures bs = length-map (words_of bs) signed_of ∙ length-words bs

-- a figure as it is read in place
pub word-here : (bs : List ℕ) (i none : ℕ) → i < length (words_of bs) → word_at bs (4 * i) ≡ get_or (words_of bs) i none
word-here bs i none h = sym (get_or_default (words_of bs) i none 0 h ∙ word-at bs i (omega (arith, length-words bs)))

pub figure-here : (bs : List ℕ) (i : ℕ) (none : ℤ) → i < length (figures_of bs) → signed_of (word_at bs (4 * i)) ≡ get_or (figures_of bs) i none
unfolding figures_of signed_of
figure-here bs i none h =
    let here = word-at bs i (omega (arith, length-figures bs)) in
    sym (get_or_default (figures_of bs) i none (pos 0) h ∙ get_or-map signed_of (words_of bs) i 0 ∙ ap signed_of here)
