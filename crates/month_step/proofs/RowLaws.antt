-- The sums of a row: an hour more, and their limits. Assumes nothing.
use mathlib.Core.Path.{◌≡◌, sym, ◌∙◌, ap, ap₂}
use mathlib.Core.List.{List}
use Prim.Native.Nat.{ℕ, ◌+◌, ◌*◌, ◌≤◌, ◌<◌, ◌^◌}
use native.Mathlib.Nat.{mul-le-mul}
use native.Mathlib.Omega.{arith}
use lib.IntN.{ℤ, pos, nat_abs, ◌+ℤ◌, ◌-ℤ◌}
use lib.Signed.{mag}
use lib.ListN.{length, get_or}
use mir.Syntax.{w32, w64}
use mir.Val.{SFits, hbits}
use mir.ValLaws.{to_z-of_z}
use Rattle.numbers.proofs.SumLaws.{sum_step, sum_bound}
use Rattle.numbers.proofs.SignedLaws.{sum_ℤ-step, sum_ℤ-bound}
use Rattle.month_step.specs.Rows.{PricedRow, DmRow, figure_at, difference_at, first_weighted, first_weights, first_volume}
use Rattle.month_step.proofs.BitLaws.{in32, in64, exact32, fits64}

-- limits of the sums of n hours
module _ (prices : List ℕ) (imbalance : List ℤ) (at n : ℕ) (r : PricedRow prices imbalance at) where
  pub weighted-limit : first_weighted prices imbalance at n ≤ n * 10000000000000
  unfolding first_weighted
  weighted-limit = sum_bound n _ 10000000000000 (λ h l. mul-le-mul (r.volume h) (r.price h))

  pub weights-limit : first_weights imbalance at n ≤ n * 10000000
  unfolding first_weights
  weights-limit = sum_bound n _ 10000000 (λ h l. r.volume h)

-- an hour more: both sums stay within 64 bits, and are those of the hours so far
pub record HourPriced (prices : List ℕ) (imbalance : List ℤ) (at h weight price weighted weights : ℕ) : Type 0 where
  pub added : weighted + weight * price ≤ 7460000000000000
  pub counted : weights + weight ≤ 7460000000
  pub weighted-more : weighted + weight * price ≡ first_weighted prices imbalance at (h + 1)
  pub weights-more : weights + weight ≡ first_weights imbalance at (h + 1)

pub hour-priced : (prices : List ℕ) (imbalance : List ℤ) (at h : ℕ) {weight price weighted weights : ℕ} →
    PricedRow prices imbalance at → h < length prices → weight ≡ nat_abs (figure_at imbalance at h) → price ≡ get_or prices h 0 →
    weighted ≡ first_weighted prices imbalance at h → weights ≡ first_weights imbalance at h →
    HourPriced prices imbalance at h weight price weighted weights
unfolding first_weighted first_weights
hour-priced prices imbalance at h {weight} {price} r below size cost e f =
    let small : weight ≤ 10000000 = rw size (r.volume h) in
    let cheap : price ≤ 1000000 = rw cost (r.price h) in
    let product : weight * price ≤ 10000000000000 = mul-le-mul small cheap in
    record {
      added = omega (arith, r.hours, weighted-limit prices imbalance at h r);
      counted = omega (arith, r.hours, weights-limit prices imbalance at h r);
      weighted-more = rw (e, size, cost) (sym (sum_step h _));
      weights-more = rw (f, size) (sym (sum_step h _));
    }

-- an hour more: the volume stays within 64 bits, and is that of the hours so far
pub record HourLess (imbalance : List ℤ) (at : ℕ) (dm : List ℤ) (h : ℕ) (volume less : ℤ) : Type 0 where
  pub added : SFits w64 (volume +ℤ in64 less)
  pub exact : in64 (volume +ℤ in64 less) ≡ first_volume imbalance at dm (h + 1)

pub hour-less : (imbalance : List ℤ) (at : ℕ) (dm : List ℤ) (h : ℕ) {volume less x y : ℤ} → DmRow imbalance at dm → h < length dm →
    volume ≡ first_volume imbalance at dm h → less ≡ in32 x -ℤ in32 y → mag x < 2 ^ hbits w32 → mag y < 2 ^ hbits w32 →
    x ≡ figure_at imbalance at h → y ≡ get_or dm h (pos 0) → HourLess imbalance at dm h volume less
unfolding first_volume
hour-less imbalance at dm h {volume} {less} {x} {y} r below e l fx fy hx hy =
    let f : ℕ → ℤ = difference_at imbalance at dm in
    let d : less ≡ f h = l ∙ ap₂ ◌-ℤ◌ (exact32 x fx ∙ hx) (exact32 y fy ∙ hy) in
    let next : ℤ = first_volume imbalance at dm (h + 1) in
    let same : volume +ℤ in64 less ≡ next =
    ap₂ ◌+ℤ◌ e (ap in64 d ∙ to_z-of_z w64 (f h) (fits64 (f h) (omega (arith, r.difference h)))) ∙ sym (sum_ℤ-step h f) in
    let fits : SFits w64 next =
    fits64 next (omega (arith, r.hours, sum_ℤ-bound (h + 1) f 20000000 (λ k l. r.difference k))) in
    record { added = rw same fits; exact = ap in64 same ∙ to_z-of_z w64 next fits }
