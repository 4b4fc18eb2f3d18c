-- The detected ones among some parties, one after the other. Assumes nothing.
use mathlib.Core.Path.{◌≡◌, refl, sym, ap, ◌∙◌}
use mathlib.Core.Bool.{Bool, true, false, and-false}
use mathlib.Core.List.{List}
use Prim.Native.Nat.{ℕ, zero, suc, ◌+◌, ◌*◌, ◌≤◌, max}
use native.Mathlib.Omega.{arith}
use lib.Dec.{leb}
use lib.IntN.{sub_ℕ}
use lib.ListN.{get_or}
use borrow.Author.Tests.{le-leb, lt-leb}
use Rattle.numbers.specs.Signed.{is_positive}
use Rattle.numbers.proofs.SignedLaws.{sub-below}
use Rattle.rules.specs.Entry.{party_ok}
use Rattle.rules.specs.Control.{Parties}
use Rattle.rules.specs.Balance.{is_detected}
use Rattle.repeated_pairs.specs.Flags.{flagged}
use Rattle.detection.specs.Tables.{cover_place, cell_of, ahead_at, detected_among}

-- no number from 1000 on is a party
pub no-party : (q : ℕ) → 1000 ≤ q → party_ok q ≡ false
no-party q h = rw (lt-leb q 999 h) (and-false (leb 1 q))

-- a balance without sales is not above zero
pub not-above : (n : ℕ) → is_positive (sub_ℕ 0 n) ≡ false
not-above zero = refl
not-above (suc n) = rw (sub-below 0 (suc n) (omega arith))

pub no-sales : (R TM : ℕ) (cells : List ℕ) (p : ℕ) → get_or cells (cell_of p 0) 0 ≡ 0 → false ≡ is_detected (ahead_at R TM cells p)
unfolding ahead_at is_detected
no-sales R TM cells p e =
    let least : ℕ = max (100 * TM) ((get_or cells (cell_of p cover_place) 0 + max (get_or cells (cell_of p 2) 0) (get_or cells (cell_of p 3) 0)) * R) in
    sym (ap (λ s. is_positive (sub_ℕ (100 * s) least)) e ∙ not-above least)

-- the detected ones among some parties
module _ (cells : List ℕ) (R TM : ℕ) (among : List Bool) where
  abbrev Detected : Parties
  Detected = detected_among cells R TM among

  pub detected-none : Detected 0 ≡ false
  unfolding detected_among
  detected-none = and-false (flagged among 0)

  pub detected-past : (q : ℕ) → 1000 ≤ q → Detected q ≡ false
  unfolding detected_among
  detected-past q h = rw (no-party q h) (and-false (flagged among q))

  pub detected-not_asked : (p : ℕ) → get_or among p false ≡ false → Detected p ≡ false
  unfolding detected_among
  detected-not_asked p e = rw e

  pub detected-asked : (p : ℕ) (v : Bool) → get_or among p false ≡ true → 1 ≤ p → p ≤ 999 → v ≡ is_detected (ahead_at R TM cells p) → v ≡ Detected p
  unfolding detected_among
  detected-asked p v e low high q = q ∙ sym (rw (e, le-leb 1 p low, le-leb p 999 high))
