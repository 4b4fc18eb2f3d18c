-- What the hypotheses of demand 3 let differ (01, 'Demand 3 and its ledger'): a hypothesis that asks for more would fail here.
-- Two amounts of a post in range for its type; a smaller sale, a larger item of cover; whatever does not stand, or is of another day or party.
-- And what it may not leave out: with type 22 not among the cover the claim would be false.
use mathlib.Core.Path.{◌≡◌, refl}
use mathlib.Core.Logic.{◌⊎◌, inl, inr}
use mathlib.Core.List.{List, [], ◌∷◌}
use Prim.Native.Nat.{ℕ, suc, ◌≤◌}
use native.Mathlib.Omega.{arith}
use native.Mathlib.Nat.{suc-ne-zero}
use lib.IntN.{pos}
use lib.ListN.{length, replicate}
use lib.Signed.{◌≤ℤ◌}
use borrow.Author.Tests.{le-ltb}
use Rattle.rules.specs.Entry.{Key, Record, key_of, record_of, key}
use Rattle.rules.specs.Book.{open_cause}
use Rattle.rules.specs.Balance.{Volume, delivery, balance_answer}
use Rattle.rules.specs.Ledger.{Call, post, ledger_fault, ledger_cause, ledger_done, ledger_after}
use Rattle.rules.specs.Compared.{Each, CoverType, AlikeCalls, equal, amounts, Standing, Sale, NoWorse, SameWhereNamed, Cheaper}
use Rattle.rules.specs.Order.{book_of, records_of}
use Rattle.rules.proofs.Worked.{minus, tables, computed}

-- amounts to 10^9 of types 1 to 16 and 22, to 10^13 of types 17 to 20
pub volumes-alike : (k : Key) (a b : ℕ) → 1 ≤ k.type → k.type ≤ 16 → a ≤ 1000000000 → b ≤ 1000000000 → AlikeCalls (post k a) (post k b)
volumes-alike k a b low high h g = amounts (inl (inl (low, high), h)) (inl (inl (low, high), g))

pub updates-alike : (k : Key) (a b : ℕ) → k.type ≡ 22 → a ≤ 1000000000 → b ≤ 1000000000 → AlikeCalls (post k a) (post k b)
updates-alike k a b e h g = amounts (inl (inr e, h)) (inl (inr e, g))

pub moneys-alike : (k : Key) (a b : ℕ) → 17 ≤ k.type → k.type ≤ 20 → a ≤ 10000000000000 → b ≤ 10000000000000 → AlikeCalls (post k a) (post k b)
moneys-alike k a b low high h g = amounts (inr (low, high, h)) (inr (low, high, g))

-- a type that is no cover: a sale's, or money's
abbrev OtherType : ℕ → Type 0
OtherType t = (t ≤ 6) ⊎ ((17 ≤ t) × (t ≤ 20))

no_cover : {A : Type 0} (t : ℕ) → OtherType t → CoverType t → A
no_cover t (inl h) (inl c) = absurd (omega arith)
no_cover t (inl h) (inr e) = absurd (omega arith)
no_cover t (inr h) (inl c) = absurd (omega arith)
no_cover t (inr h) (inr e) = absurd (omega arith)

module _ (p d a b : ℕ) where
  -- a standing sale no larger, types 1 to 6 to another party
  pub smaller-sale : (t c : ℕ) → t ≤ 6 → ¬ (c ≡ p) → b ≤ a → NoWorse p d (record_of (key_of p d t c) 0 a) (record_of (key_of p d t c) 0 b)
  smaller-sale t c high other h = (
    (λ st sale. h),
    λ st cover. elim cover [ inl x ↦ no_cover t (inl high) x.2 | inr x ↦ absurd (other x.1) ],
  )

  -- a standing item of cover no smaller: types 7 to 16 and 22, and a sale to the party by another
  pub larger-cover : (t c : ℕ) → 7 ≤ t → a ≤ b → NoWorse p d (record_of (key_of p d t c) 0 a) (record_of (key_of p d t c) 0 b)
  larger-cover t c low h = ((λ st sale. absurd (omega (arith, sale.3))), λ st cover. h)

  pub larger-purchase : (q t : ℕ) → ¬ (q ≡ p) → a ≤ b → NoWorse p d (record_of (key_of q d 6 p) 0 a) (record_of (key_of q d 6 p) 0 b)
  larger-purchase q t other h = ((λ st sale. absurd (other sale.0)), λ st cover. h)

  -- what does not stand, what is of another day, what is of other parties, and money
  pub not-standing : (k : Key) (n : ℕ) → NoWorse p d (record_of k (suc n) a) (record_of k (suc n) b)
  not-standing k n = ((λ st. absurd (suc-ne-zero n st)), λ st. absurd (suc-ne-zero n st))

  pub another-day : (q e t c : ℕ) → ¬ (e ≡ d) → NoWorse p d (record_of (key_of q e t c) 0 a) (record_of (key_of q e t c) 0 b)
  another-day q e t c other = (
    (λ st sale. absurd (other sale.1)),
    λ st cover. elim cover [ inl x ↦ absurd (other x.1) | inr x ↦ absurd (other x.2) ],
  )

  pub others-entry : (q t c : ℕ) → ¬ (q ≡ p) → ¬ (c ≡ p) → NoWorse p d (record_of (key_of q d t c) 0 a) (record_of (key_of q d t c) 0 b)
  others-entry q t c other to = (
    (λ st sale. absurd (other sale.0)),
    λ st cover. elim cover [ inl x ↦ absurd (other x.0) | inr x ↦ absurd (to x.1) ],
  )

  pub money-entry : (q t c : ℕ) → 17 ≤ t → t ≤ 20 → NoWorse p d (record_of (key_of q d t c) 0 a) (record_of (key_of q d t c) 0 b)
  money-entry q t c low high = (
    (λ st sale. absurd (omega (arith, sale.3))),
    λ st cover. elim cover [ inl x ↦ no_cover t (inr (low, high)) x.2 | inr x ↦ absurd (omega (arith, x.0)) ],
  )

  -- records that name another party may differ, and those that do not stand
  pub not_named : (q e t c : ℕ) → ¬ (q ≡ p) → ¬ (c ≡ p) → SameWhereNamed p (record_of (key_of q e t c) 0 a) (record_of (key_of q e t c) 0 b)
  not_named q e t c other to st named = elim named [ inl x ↦ absurd (other x) | inr x ↦ absurd (to x) ]

  pub named-not-standing : (k : Key) (n : ℕ) → SameWhereNamed p (record_of k (suc n) a) (record_of k (suc n) b)
  named-not-standing k n st = absurd (suc-ne-zero n st)

-- tables alike but for prices, one lower and one equal: (3 × 100 + 200) / 4 and (3 × 80 + 200) / 4
pub lower-prices : Cheaper (record { aosmf = 125; aedm = minus 2 }) (record { aosmf = 110; aedm = minus 2 })
unfolding computed
lower-prices =
    record {
      tables = tables (100 ∷ 200 ∷ []) (minus 3 ∷ pos 1 ∷ []);
      prices = 80 ∷ 200 ∷ [];
      lower = (omega arith, (omega arith, tt));
      first = refl;
      second = refl;
    }

-- Type 22 must be among the cover compared: without it the order is false. Party 1 sells 2 on day 9,000; its update is 1 in the first book
-- and 0 in the second, of which the delivery balance is larger: 200 against 200 - 100.
abbrev CoverWithout : ℕ → ℕ → Record → Type 0
CoverWithout p d r =
    (((key r).party ≡ p) × ((key r).day ≡ d) × (7 ≤ (key r).type) × ((key r).type ≤ 16))
    ⊎ (((key r).type ≡ 6) × ((key r).counterparty ≡ p) × ((key r).day ≡ d))

abbrev NoWorseWithout : ℕ → ℕ → Record → Record → Type 0
NoWorseWithout p d r s =
    (Standing r → Sale p d r → s.amount ≤ r.amount) × (Standing r → CoverWithout p d r → r.amount ≤ s.amount)

-- `lower_balance` of the claim with that comparison
abbrev OrderWithout : Type 0
OrderWithout =
    (ws vs : List ℕ) (R TM : ℕ) (cs ds : List Call) → length ws ≡ length vs → open_cause (length ws) R TM ≡ 0 → Each AlikeCalls cs ds →
    (v : Volume) (p d : ℕ) → Each (NoWorseWithout p d) (records_of ws cs) (records_of vs ds) →
    (balance_answer v (book_of vs R TM ds) p d).balance ≤ℤ (balance_answer v (book_of ws R TM cs) p d).balance

abbrev lent : List ℕ
lent = replicate 13 7

abbrev with_update : ℕ → List Call
with_update a = post (key_of 1 9000 1 0) 2 ∷ post (key_of 1 9000 22 0) a ∷ []

without-balances : ((balance_answer delivery (book_of lent 100 0 (with_update 1)) 1 9000).balance ≡ pos 100) × ((balance_answer delivery (book_of lent 100 0 (with_update 0)) 1 9000).balance ≡ pos 200)
unfolding computed
without-balances = (refl, refl)

without-records : (a : ℕ) → a ≤ 1000000000 → records_of lent (with_update a) ≡ record_of (key_of 1 9000 1 0) 0 2 ∷ record_of (key_of 1 9000 22 0) 0 a ∷ []
unfolding computed ledger_fault ledger_cause ledger_done ledger_after
without-records a h = rw (le-ltb 1000000000 a h)

pub updates-compared : ¬ OrderWithout
unfolding open_cause
updates-compared order =
    let fewer =
    order lent lent 100 0 (with_update 1) (with_update 0) refl refl (equal, (updates-alike (key_of 1 9000 22 0) 1 0 refl (omega arith) (omega arith), tt)) delivery 1 9000
    (rw (without-records 1 (omega arith), without-records 0 (omega arith))
    (((λ st sale. omega arith), λ st cover. omega arith), (((λ st sale. omega arith), λ st cover. not-among cover), tt))) in
    absurd (too_large (rw (without-balances.0, without-balances.1) at fewer))
  where
    not-among : {A : Type 0} → CoverWithout 1 9000 (record_of (key_of 1 9000 22 0) 0 1) → A
    not-among (inl c) = absurd (omega (arith, c.3))
    not-among (inr c) = absurd (omega (arith, c.0))

    too_large : pos 200 ≤ℤ pos 100 → ⊥
    too_large h = omega arith
