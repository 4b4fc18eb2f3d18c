-- A ledger against a ledger: lists alike but for legal amounts are answered alike, and leave twins. Assumes nothing.
use mathlib.Core.Path.{◌≡◌, refl, sym, ap}
use mathlib.Core.Logic.{inl, inr}
use mathlib.Core.Bool.{false, ◌&&◌, ◌||◌, and-false}
use mathlib.Core.List.{List, [], ◌∷◌}
use Prim.Native.Nat.{ℕ, zero, suc}
use native.Mathlib.Omega.{arith}
use lib.Dec.{eqb, leb, ltb}
use lib.ListN.{length}
use borrow.Author.Tests.{lt-leb, le-ltb, ne_eqb}
use Rattle.rules.specs.Entry.{Key, Record, record_of}
use Rattle.rules.specs.Ledger.{Call, post, withdraw, ledger, ledger_fault, stands_at, withdrawn_at, ledger_cause, ledger_done}
use Rattle.rules.specs.Compared.{InRange, AlikeCalls, equal, amounts, SameLabel}
use Rattle.rules.proofs.EachLaws.{each-length, each_snoc}
use Rattle.rules.proofs.SumOrder.{Twins}
use Rattle.rules.proofs.Machine.{Agree}

-- an amount in range for its type passes check 7
in-range : (t a : ℕ) → InRange t a → ((leb t 16 || eqb t 22) && ltb 1000000000 a ≡ false) × (leb 17 t && leb t 20 && ltb 10000000000000 a ≡ false)
in-range t a (inl h) = (
  rw (le-ltb 1000000000 a h.1) (and-false (leb t 16 || eqb t 22)),
  elim h.0 [ inl v ↦ rw (lt-leb 17 t (omega arith)) | inr q ↦ rw q ],
)
in-range t a (inr h) = (
  rw (lt-leb t 16 (omega arith), ne_eqb t 22 (λ q. omega arith)),
  rw (le-ltb 10000000000000 a h.2) (and-false (leb 17 t && leb t 20)),
)

fault-alike : (k : Key) (a b : ℕ) → InRange k.type a → InRange k.type b → ledger_fault k a ≡ ledger_fault k b
unfolding ledger_fault
fault-alike k a b h g =
    let x = in-range k.type a h in
    let y = in-range k.type b g in
    rw (x.0, x.1, y.0, y.1)

-- a withdrawal looks at keys and statuses only
standing-alike : (rs ss : List Record) → Twins rs ss → (n : ℕ) → stands_at rs n ≡ stands_at ss n
unfolding stands_at
standing-alike [] [] tw n = refl
standing-alike [] (s ∷ ss) tw n = absurd tw
standing-alike (r ∷ rs) [] tw n = absurd tw
standing-alike (r ∷ rs) (s ∷ ss) tw zero = ap (λ l. eqb l.status 0) tw.0
standing-alike (r ∷ rs) (s ∷ ss) tw (suc n) = standing-alike rs ss tw.1 n

withdrawn-alike : (rs ss : List Record) → Twins rs ss → (n : ℕ) → Twins (withdrawn_at rs n) (withdrawn_at ss n)
unfolding withdrawn_at
withdrawn-alike [] [] tw n = tt
withdrawn-alike [] (s ∷ ss) tw n = absurd tw
withdrawn-alike (r ∷ rs) [] tw n = absurd tw
withdrawn-alike (r ∷ rs) (s ∷ ss) tw zero = (ap (λ l. (record_of l.key 1 0).label) tw.0, tw.1)
withdrawn-alike (r ∷ rs) (s ∷ ss) tw (suc n) = (tw.0, withdrawn-alike rs ss tw.1 n)

module _ (lent : ℕ) (rs ss : List Record) (tw : Twins rs ss) where
  same_length : length rs ≡ length ss
  same_length = sym (each-length SameLabel rs ss tw)

  twin-posts : (k : Key) (a b : ℕ) → ledger_fault k a ≡ ledger_fault k b → Agree (ledger lent) (ledger lent) Twins rs ss (post k a) (post k b)
  unfolding ledger_cause ledger_done
  twin-posts k a b e =
      record {
        causes = rw (e, same_length);
        figures = λ z. rw same_length;
        next = λ z. each_snoc SameLabel rs ss (record_of k 0 a) (record_of k 0 b) tw refl;
      }

  twin-withdrawals : (n : ℕ) → Agree (ledger lent) (ledger lent) Twins rs ss (withdraw n) (withdraw n)
  unfolding ledger_cause ledger_done
  twin-withdrawals n =
      record {
        causes = rw (standing-alike rs ss tw n);
        figures = λ z. refl;
        next = λ z. withdrawn-alike rs ss tw n;
      }

  pub twin-step : (c d : Call) → AlikeCalls c d → Agree (ledger lent) (ledger lent) Twins rs ss c d
  twin-step c d (equal {c = post k a}) = twin-posts k a a refl
  twin-step c d (equal {c = withdraw n}) = twin-withdrawals n
  twin-step c d (amounts {k = k} {a = a} {b = b} h g) = twin-posts k a b (fault-alike k a b h g)
