-- The ledger against the book, definition by definition: its room, checks 3 to 7, standing records and withdrawals are the book's. Assumes nothing.
use mathlib.Core.Path.{◌≡◌, refl, ap}
use mathlib.Core.Logic.{inl, inr}
use mathlib.Core.Bool.{Bool, true, false, not, cond, ◌&&◌, ◌||◌, not-not}
use mathlib.Core.List.{List, [], ◌∷◌}
use Prim.Native.Nat.{ℕ, zero, suc}
use native.Mathlib.Nat.{min_comm}
use native.Mathlib.Omega.{arith}
use lib.Dec.{eqb, leb, ltb, leb-suc-zero, leb-suc-suc}
use lib.ListN.{length, get_or, set}
use borrow.Author.Tests.{eqb-true, le-leb, lt-leb, lt-ltb, le-ltb, eq-eqb, ne_eqb}
use Rattle.numbers.specs.Causes.{unless, or_else, first_of}
use Rattle.numbers.proofs.TestLaws.{bool_cases, below-or-above, or_cases}
use Rattle.numbers.proofs.CauseLaws.{else-none}
use Rattle.rules.specs.Entry.{Key, Record, record_of, key, no_record, within, is_volume, is_money, is_type, is_standing, withdrawn, counterparty_ok, amount_limit, fault}
use Rattle.rules.specs.Words.{room_in}
use Rattle.rules.specs.Ledger.{post, withdraw, ledger_room, cause_if, outside, ledger_fault, stands_at, withdrawn_at, ledger_cause}
use Rattle.rules.proofs.WordLaws.{within-true, volume-range}

pub same-room : (lent : ℕ) → ledger_room lent ≡ room_in lent
same-room lent = min_comm _ _

-- a fault is a test that fails
fault-unless : (t : Bool) (n : ℕ) → cause_if (not t) n ≡ unless t n
fault-unless true n = refl
fault-unless false n = refl

above-not : (a b : ℕ) → ltb a b ≡ not (leb b a)
above-not a b =
    elim (below-or-above a b) [
      | inl h ↦ rw (lt-ltb a b h, lt-leb b a h)
      | inr h ↦ rw (le-ltb a b h, le-leb b a h)
    ]

reached-not : (a b : ℕ) → leb b a ≡ not (ltb a b)
reached-not a b = rw (above-not a b, not-not)

outside-not : (low high x : ℕ) → outside low high x ≡ not (within low high x)
outside-not low high x = rw (above-not x low, above-not high x) (either (leb low x) (leb x high))
  where
    either : (a b : Bool) → not a || not b ≡ not (a && b)
    either true b = refl
    either false b = refl

type-not : (t : ℕ) → outside 1 20 t && not (eqb t 22) ≡ not (is_type t)
type-not t =
    elim (bool_cases (eqb t 22)) [
      | inl q ↦ rw (eqb-true t 22 q)
      | inr q ↦
          elim (below-or-above t 17) [
            | inl h ↦ rw (q, outside-not 1 20 t, le-leb t 20 (omega arith), le-leb t 16 (omega arith), lt-leb 17 t h) (volume (leb 1 t))
            | inr h ↦ rw (q, outside-not 1 20 t, le-leb 1 t (omega arith), lt-leb t 16 h, le-leb 17 t h) (money (leb t 20))
          ]
    ]
  where
    volume : (b : Bool) → not (b && true) && true ≡ not ((b && true || false) || false)
    volume true = refl
    volume false = refl

    money : (b : Bool) → not b && true ≡ not b
    money true = refl
    money false = refl

nonzero-not : (c : ℕ) → ltb 0 c ≡ not (eqb c 0)
nonzero-not c =
    elim (below-or-above 0 c) [
      | inl h ↦ rw (lt-ltb 0 c h, ne_eqb c 0 (λ e. omega arith))
      | inr h ↦ rw (le-ltb 0 c h, eq-eqb c 0 (omega arith))
    ]

-- check 6, over its four tests: type 6; counterparty at most 999; the party; 0
one-check : (six few own none : Bool) (later : ℕ) →
    or_else (cause_if (not six && not none) 6) (or_else (cause_if (six && not few) 6) (or_else (cause_if (six && own) 6) later))
    ≡ or_else (unless (cond six (few && not own) none) 6) later
one-check true true true none later = refl
one-check true true false none later = refl
one-check true false own none later = refl
one-check false few own true later = refl
one-check false few own false later = refl

-- check 7, of a type in range
amount-causes : (t a : ℕ) → is_type t ≡ true →
    first_of (cause_if ((leb t 16 || eqb t 22) && ltb 1000000000 a) 7 ∷ cause_if (leb 17 t && leb t 20 && ltb 10000000000000 a) 7 ∷ [])
    ≡ first_of (unless (leb a (amount_limit t)) 7 ∷ [])
unfolding amount_limit
amount-causes t a e =
    elim (or_cases (is_volume t) (is_money t) e) [
      | inl v ↦
          elim (volume-range t v) [
            | inl h ↦ rw (le-leb t 16 h.1, lt-leb 17 t (omega arith), above-not 1000000000 a, fault-unless (leb a 1000000000) 7)
            | inr q ↦ rw (q, above-not 1000000000 a, fault-unless (leb a 1000000000) 7)
          ]
      | inr m ↦
          let h = within-true 17 20 t m in
          rw (lt-leb t 16 (omega arith), ne_eqb t 22 (λ q. omega arith), le-leb 17 t h.0, le-leb t 20 h.1, above-not 10000000000000 a, fault-unless (leb a 10000000000000) 7)
    ]

-- a later cause counts only where the test holds
else-where : (t : Bool) (n x y : ℕ) → (t ≡ true → x ≡ y) → or_else (unless t (suc n)) x ≡ or_else (unless t (suc n)) y
else-where true n x y h = h refl
else-where false n x y h = refl

pub same-fault : (k : Key) (a : ℕ) → ledger_fault k a ≡ fault k a
unfolding ledger_fault fault counterparty_ok
same-fault k a =
    rw (
      outside-not _ _ k.party,
      above-not _ k.day,
      type-not,
      fault-unless _ 3,
      fault-unless _ 4,
      fault-unless _ 5,
      nonzero-not k.counterparty,
      above-not _ k.counterparty,
      one-check,
    )
    (ap (λ later. or_else (unless (within 1 999 k.party) 3) (or_else (unless (leb k.day 36524) 4) later))
    (else-where (is_type k.type) 4 _ _ λ e. ap (or_else (unless (counterparty_ok k) 6)) (amount-causes k.type a e)))

pub same-standing : (rs : List Record) (n : ℕ) → stands_at rs n ≡ ltb n (length rs) && is_standing (get_or rs n no_record)
unfolding stands_at
same-standing [] n = rw (leb-suc-zero n)
same-standing (r ∷ rs) zero = rw (lt-ltb 0 (suc (length rs)) (omega arith))
same-standing (r ∷ rs) (suc n) = rw (leb-suc-suc (suc n) (length rs)) (same-standing rs n)

pub same-withdrawal : (rs : List Record) (n : ℕ) → withdrawn_at rs n ≡ set rs n (record_of (key (get_or rs n no_record)) withdrawn (get_or rs n no_record).amount)
unfolding withdrawn_at
same-withdrawal [] n = refl
same-withdrawal (r ∷ rs) zero = refl
same-withdrawal (r ∷ rs) (suc n) = ap (λ ss. r ∷ ss) (same-withdrawal rs n)

-- the causes of the ledger's two calls by the book's tests
pub post-causes : (lent : ℕ) (rs : List Record) (k : Key) (a : ℕ) →
    ledger_cause lent rs (post k a) ≡ first_of (fault k a ∷ unless (ltb (length rs) (room_in lent)) 9 ∷ [])
unfolding ledger_cause
post-causes lent rs k a =
    rw (same-room lent, same-fault k a, reached-not (length rs) (room_in lent), fault-unless (ltb (length rs) (room_in lent)) 9)

pub withdraw-causes : (lent : ℕ) (rs : List Record) (n : ℕ) →
    ledger_cause lent rs (withdraw n) ≡ first_of (unless (ltb n (length rs) && is_standing (get_or rs n no_record)) 10 ∷ [])
unfolding ledger_cause
withdraw-causes lent rs n = rw (same-standing rs n, else-none) (fault-unless (ltb n (length rs) && is_standing (get_or rs n no_record)) 10)
