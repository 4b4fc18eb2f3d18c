-- How many parties and days a file names: at most one for each two words of it. Assumes nothing.
use mathlib.Core.Path.{◌≡◌, refl}
use mathlib.Core.Logic.{inl, inr}
use mathlib.Core.Bool.{Bool, true, false, cond, ◌&&◌, ◌||◌}
use mathlib.Core.List.{List, [], ◌∷◌}
use Prim.Native.Nat.{ℕ, zero, suc, ◌+◌, ◌*◌, ◌/◌, ◌≤◌, ◌<◌, zero-le}
use native.Mathlib.Nat.{add-le-add, le_refl, le_trans, mul-add}
use native.Mathlib.Omega.{arith}
use lib.Dec.{eqb, ltb}
use lib.ListN.{length}
use borrow.Author.Tests.{eqb-true, ne_eqb}
use Rattle.numbers.specs.Tests.{any}
use Rattle.numbers.proofs.TestLaws.{bool_cases}
use Rattle.rules.specs.Words.{value_of}
use Rattle.rules.specs.DayFile.{lines_in, party_in, head_item, items_from, item_names}

-- f k + .. + f (k + n - 1)
unfoldable pub sum_from : (ℕ → ℕ) → ℕ → ℕ → ℕ
sum_from f zero k = 0
sum_from f (suc n) k = f k + sum_from f n (k + 1)

pub from_le : (f g : ℕ → ℕ) (n k : ℕ) → ((i : ℕ) → f i ≤ g i) → sum_from f n k ≤ sum_from g n k
unfolding sum_from
from_le f g zero k h = zero-le
from_le f g (suc n) k h = add-le-add (h k) (from_le f g n (k + 1) h)

pub from-times : (f g : ℕ → ℕ) (b n k : ℕ) → ((i : ℕ) → i < k + n → f i ≤ b * g i) → sum_from f n k ≤ b * sum_from g n k
unfolding sum_from
from-times f g b zero k h = zero-le
from-times f g b (suc n) k h =
    rw mul-add (add-le-add (h k (omega arith)) (from-times f g b n (k + 1) (λ i l. h i (omega arith))))

from-add : (f g : ℕ → ℕ) (n k : ℕ) → sum_from (λ i. f i + g i) n k ≡ sum_from f n k + sum_from g n k
unfolding sum_from
from-add f g zero k = refl
from-add f g (suc n) k = omega (arith, from-add f g n (k + 1))

from-none : (f : ℕ → ℕ) (n k : ℕ) → ((i : ℕ) → k ≤ i → f i ≡ 0) → sum_from f n k ≡ 0
unfolding sum_from
from-none f zero k h = refl
from-none f (suc n) k h = omega (arith, h k (le_refl k), from-none f n (k + 1) (λ i l. h i (omega arith)))

abbrev one : Bool → ℕ
one b = cond b 1 0

-- at most one number is a given one
from_one : (q n k : ℕ) → sum_from (λ i. one (eqb q i)) n k ≤ 1
unfolding sum_from
from_one q zero k = zero-le
from_one q (suc n) k =
    elim (bool_cases (eqb q k)) [
      | inl e ↦ rw (e, from-none (λ i. one (eqb q i)) n (k + 1) (λ i l. rw (ne_eqb q i (λ s. omega (arith, eqb-true q k e, s))))) (omega arith)
      | inr e ↦ rw e (omega (arith, from_one q n (k + 1)))
    ]

-- how many pairs of a party, n of them from j on, and a day, m of them from k on, pass a test
unfoldable pub pairs : ℕ → ℕ → ℕ → ℕ → (ℕ → ℕ → Bool) → ℕ
pairs n j m k t = sum_from (λ p. sum_from (λ d. one (t p d)) m k) n j

abbrev point : ℕ → ℕ → ℕ → ℕ → Bool
point q e p d = eqb q p && eqb e d

or-names : (a b : Bool) → one (a || b) ≤ one a + one b
or-names true b = omega arith
or-names false b = omega arith

or-more : (a b : Bool) → one b ≤ one (a || b)
or-more true true = omega arith
or-more true false = omega arith
or-more false b = le_refl (one b)

-- a line names the party of its block, which the block's head has named, and its counterparty
line-names : (P D Z C R : Bool) → one ((P && D) || ((D && (P || (Z && C))) || R)) ≤ one (C && D) + one ((P && D) || R)
line-names true true Z C R = omega arith
line-names true false Z C R = omega arith
line-names false true true true R = omega arith
line-names false true true false R = omega arith
line-names false true false C R = omega arith
line-names false false Z C R = omega arith

-- the head of a block, without lines or with them, and what follows
unfoldable after : ℕ → ℕ → ℕ → List ℕ → ℕ → ℕ → Bool
after lines q e ws p d = point q e p d || any (item_names p d) (items_from lines q e ws)

head-names : (lines q e : ℕ) (ws : List ℕ) (p d : ℕ) → one (any (item_names p d) (head_item lines q e (items_from lines q e ws))) ≤ one (after lines q e ws p d)
unfolding after any item_names
head-names zero q e ws p d = le_refl _
head-names (suc l) q e ws p d = or-more (point q e p d) (any (item_names p d) (items_from (suc l) q e ws))

module _ (n j m k : ℕ) where
  abbrev count : (ℕ → ℕ → Bool) → ℕ
  count t = pairs n j m k t

  count-le : (t u : ℕ → ℕ → Bool) → ((p d : ℕ) → one (t p d) ≤ one (u p d)) → count t ≤ count u
  unfolding pairs
  count-le t u h = from_le _ _ n j (λ p. from_le _ _ m k (h p))

  -- each pair that passes a test passes one of two
  count-split : (t u v : ℕ → ℕ → Bool) → ((p d : ℕ) → one (t p d) ≤ one (u p d) + one (v p d)) → count t ≤ count u + count v
  unfolding pairs
  count-split t u v h =
      rw (← from-add (λ p. sum_from (λ d. one (u p d)) m k) (λ p. sum_from (λ d. one (v p d)) m k) n j)
      (from_le _ _ n j (λ p. rw (← from-add (λ d. one (u p d)) (λ d. one (v p d)) m k) (from_le _ _ m k (h p))))

  count_none : count (λ p d. false) ≡ 0
  unfolding pairs
  count_none = from-none _ n j (λ p l. from-none _ m k (λ d x. refl))

  count-one : (q e : ℕ) → count (point q e) ≤ 1
  unfolding pairs
  count-one q e = le_trans (from_le _ (λ p. one (eqb q p)) n j (λ p. go (eqb q p))) (from_one q n j)
    where
      go : (b : Bool) → sum_from (λ d. one (b && eqb e d)) m k ≤ one b
      go true = from_one e m k
      go false = rw (from-none (λ d. 0) m k (λ d l. refl)) zero-le

  -- a head that no item follows
  head-alone : (q e : ℕ) (ws : List ℕ) → 2 * count (λ p d. point q e p d || false) ≤ 2 + length ws
  head-alone q e ws =
      omega (arith, count-split (λ p d. point q e p d || false) (point q e) (λ p d. false) (λ p d. or-names (point q e p d) false), count-one q e, count_none)

  -- a head is two words and names one pair, a line is three and names one more
  after-head : (lines q e : ℕ) (ws : List ℕ) → 2 * count (after lines q e ws) ≤ 2 + length ws
  unfolding after any items_from item_names
  after-head zero q e [] = head-alone q e []
  after-head zero q e (w ∷ []) = head-alone q e (w ∷ [])
  after-head zero q e (w ∷ x ∷ ws) =
      omega (
        arith,
        count-split (after zero q e (w ∷ x ∷ ws)) (point q e) (after (lines_in w) (party_in w) (value_of x) ws)
            (λ p d. le_trans (or-names (point q e p d) _) (add-le-add (le_refl _) (head-names (lines_in w) (party_in w) (value_of x) ws p d))),
        count-one q e,
        after-head (lines_in w) (party_in w) (value_of x) ws,
      )
  after-head (suc l) q e [] = head-alone q e []
  after-head (suc l) q e (w ∷ []) = head-alone q e (w ∷ [])
  after-head (suc l) q e (w ∷ x ∷ []) = head-alone q e (w ∷ x ∷ [])
  after-head (suc l) q e (w ∷ x ∷ y ∷ ws) =
      let c = value_of w / 256 in
      omega (
        arith,
        count-split (after (suc l) q e (w ∷ x ∷ y ∷ ws)) (point c e) (after l q e ws)
            (λ p d. line-names (eqb q p) (eqb e d) (ltb 0 c) (eqb c p) (any (item_names p d) (items_from l q e ws))),
        count-one c e,
        after-head l q e ws,
      )

  pub named : (ws : List ℕ) → 2 * pairs n j m k (λ p d. any (item_names p d) (items_from 0 0 0 ws)) ≤ length ws
  unfolding any items_from
  named [] = omega (arith, count_none)
  named (w ∷ []) = omega (arith, count_none)
  named (w ∷ x ∷ ws) =
      omega (
        arith,
        count-le (λ p d. any (item_names p d) (items_from 0 0 0 (w ∷ x ∷ ws))) (after (lines_in w) (party_in w) (value_of x) ws) (head-names (lines_in w) (party_in w) (value_of x) ws),
        after-head (lines_in w) (party_in w) (value_of x) ws,
      )
