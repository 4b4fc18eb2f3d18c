-- `collateral::ranges::CheckedCase::imbalance` meets its contract. Assumes nothing.
use mathlib.Core.Path.{◌≡◌, ◌∙◌, ap}
use native.Mathlib.Omega.{arith}
use lib.IntN.{nat_abs}
use mir.Syntax.{w64}
use mir.Val.{to_z, of_z}
use Rattle.rules.specs.Collateral.{used_months, highest_price}
use Rattle.rules.proofs.Limits.{case-ranges}
use Rattle.collateral.specs.Months.{lowest_of}
use Rattle.collateral.proofs.UsedMonths.{volume-back}
use Rattle.collateral.proofs.ItemLaws.{not-responsible, not_short, price-fits, product-fits, short}
use Rattle.collateral.proofs.ranges.CheckedCase.imbalance.Goals as goal
use Rattle.collateral.proofs.ranges.CheckedCase.imbalance.Goals.{After-lowest_volume-volume, After-magnitude}

-- the lowest volume and its size, read back from its bits
back : (c : After-lowest_volume-volume) → to_z w64 (of_z w64 c.lowest_volume-volume.result) ≡ c.lowest_volume-volume.result
back c = volume-back c.lowest_volume-volume.result c.lowest_volume-volume.type_inv

size : (c : After-magnitude) → c.magnitude.result ≡ nat_abs c.lowest_volume-volume.result
size c = c.magnitude.ensures ∙ ap nat_abs (volume-back c.lowest_volume-volume.result c.lowest_volume-volume.type_inv)

-- the month answers used, and what was found of them
volume : (c : After-lowest_volume-volume) → c.lowest_volume-volume.result ≡ lowest_of (used_months c.args.self.now.case)
volume c = rw c.used_months-used.ensures at c.lowest_volume-volume.ensures

price : (c : After-magnitude) → c.highest_price-price.result ≡ highest_price (used_months c.args.self.now.case)
price c = rw c.used_months-used.ensures at c.highest_price-price.ensures

pub returns-then-group-ne1 : goal.returns-then-group-ne1
returns-then-group-ne1 c = not-responsible c.args.self.now.case c.if-group-ne1.true

pub overflow_mul-product : goal.overflow_mul-product
overflow_mul-product c =
    let f = case-ranges c.args.self.now.case c.args.self.now.in_range in
    let g = goal.at.overflow_mul-product c in
    rw c.from.ensures (omega (arith, price-fits c.args.self.now.case c.if-group-ne1.false (volume g.After-lowest_volume-volume) f (rw c.used_months-used.ensures at c.highest_price-price.ensures)))

pub overflow_mul-product-then-volume-lt0 : goal.overflow_mul-product-then-volume-lt0
overflow_mul-product-then-volume-lt0 c =
    let f = case-ranges c.args.self.now.case c.args.self.now.in_range in
    let g = goal.at.overflow_mul-product-then-volume-lt0 c in
    rw c.from.ensures (omega (arith, product-fits c.args.self.now.case c.if-group-ne1.false (volume g.After-lowest_volume-volume) f (price g.After-magnitude) (size g.After-magnitude)))

pub returns-then-volume-lt0 : goal.returns-then-volume-lt0
returns-then-volume-lt0 c =
    let g = goal.at.returns-then-volume-lt0 c in
    short c.args.self.now.case c.if-group-ne1.false (volume g.After-lowest_volume-volume) (case-ranges c.args.self.now.case c.args.self.now.in_range) (price g.After-magnitude) (size g.After-magnitude)
    (rw (back g.After-lowest_volume-volume) at c.if-volume-lt0.true) (rw c.from.ensures at c.round_up.ensures)

pub returns-else-volume-lt0 : goal.returns-else-volume-lt0
returns-else-volume-lt0 c =
    let g = goal.at.returns-else-volume-lt0 c in
    not_short c.args.self.now.case c.if-group-ne1.false (volume g.After-lowest_volume-volume) (rw (back g.After-lowest_volume-volume) at c.if-volume-lt0.false)
