-- Without a sale of the day a pass has no party, and without a cancelled entry of the day the second has none. Assumes nothing.
use mathlib.Core.Path.{◌≡◌, refl, sym, ap, ◌∙◌, fun_ext}
use mathlib.Core.Logic.{inl, inr}
use mathlib.Core.Bool.{Bool, true, false, not, cond, ◌&&◌, and-false, true≢false}
use mathlib.Core.List.{List, [], ◌∷◌}
use Prim.Native.Nat.{ℕ, suc, ◌*◌, ◌<◌, max}
use native.Mathlib.Omega.{arith}
use lib.Dec.{eqb}
use lib.ListN.{length, get_or, drop}
use lib.Seq.{drop-drop}
use Rattle.rules.proofs.WordLaws.{book-facts, read_at_lem}
use Rattle.std.specs.List.{All}
use borrow.Author.Tests.{eqb-true}
use Rattle.numbers.specs.Sums.{total}
use Rattle.numbers.specs.Tests.{every, any}
use Rattle.numbers.proofs.TestLaws.{bool_cases, or-false-split, every_holds, holds-every}
use Rattle.rules.specs.Entry.{Record, key, is_standing, is_export, party_ok}
use Rattle.rules.specs.Words.{is_book, entries, count_of, coefficient_of, tolerance_of}
use Rattle.rules.specs.Balance.{day_ahead, counted, sum_of, bought_by, tally_of, sale_side, cover_side, balance_of, balance, is_detected}
use Rattle.rules.specs.Control.{detected_in, is_repeated_buyer}
use Rattle.rules.proofs.SumOrder.{for_tests}
use Rattle.rules.specs.Book.{entry_at}
use Rattle.detection.specs.Tables.{is_sale_type, of_pass}
use Rattle.detection.proofs.BelowLaws.{not-above}
use Rattle.repeated_pairs.proofs.PairLaws.{any_none}
use Rattle.empty_passes.specs.Sought.{nobody, is_cancelled_on, is_sale_on}

-- entry number i of a book
pub entry-read : (ws : List ℕ) (b : is_book ws ≡ true) (i : ℕ) (r : Record) → i < length (entries ws) → get_or (entries ws) i r ≡ entry_at ws i
unfolding entries entry_at
entry-read ws b i r h =
    rw (← drop-drop (5 * i) 3 ws) (read_at_lem (count_of ws) (drop 3 ws) i r (omega (arith, (book-facts ws b).count)))

-- a test that holds of no entry
pub none_of : (f : Record → Bool) (rs : List Record) → All (λ r. false ≡ f r) rs → any f rs ≡ false
unfolding any
none_of f [] h = refl
none_of f (r ∷ rs) h = rw (sym (h 0 r (omega arith))) (none_of f rs (λ k d l. h (suc k) d (omega arith)))

-- without a sale of the day no sum of a sale has an amount, and no balance is above zero
total-without : (f : Record → ℕ) (g : Record → Bool) → ((r : Record) → g r ≡ false → f r ≡ 0) → (rs : List Record) → any g rs ≡ false → total f rs ≡ 0
unfolding any total
total-without f g h [] e = refl
total-without f g h (r ∷ rs) e = let s = or-false-split (g r) (any g rs) e in omega (arith, h r s.0, total-without f g h rs s.1)

module _ (d p : ℕ) where
  not-counted : (t : ℕ) → is_sale_type t ≡ true → (r : Record) → is_sale_on d r ≡ false → counted p d t r ≡ 0
  unfolding counted is_sale_on
  not-counted t s r e =
      elim (bool_cases (every (for_tests p d t r.label))) [
        | inl q ↦
            let h = every_holds (for_tests p d t r.label) q in
            let k : (key r).type ≡ t = eqb-true (key r).type t h.1.1.1.0 in
            let sale : is_sale_on d r ≡ true = holds-every (is_standing r ∷ eqb (key r).day d ∷ is_sale_type (key r).type ∷ not (is_export (key r)) ∷ []) (h.0, (h.1.1.0, (rw k s, h.1.1.1.1))) in
            absurd (true≢false (sym sale ∙ e))
        | inr q ↦ rw q
      ]

  module _ (rs : List Record) (none : any (is_sale_on d) rs ≡ false) where
    no-sum : (t : ℕ) → is_sale_type t ≡ true → sum_of p d t rs ≡ 0
    unfolding sum_of
    no-sum t s = total-without (counted p d t) (is_sale_on d) (not-counted t s) rs none

    no-sales : sale_side day_ahead (tally_of p d rs) ≡ 0
    unfolding sale_side tally_of total
    no-sales = omega (arith, no-sum 1 refl, no-sum 3 refl, no-sum 4 refl, no-sum 6 refl)

    not-detected : (R TM : ℕ) → detected_in R TM d rs p ≡ false
    unfolding detected_in is_detected balance balance_of
    not-detected R TM = rw (no-sales, not-above (max (100 * TM) (cover_side day_ahead (tally_of p d rs) (bought_by p d rs) * R))) (and-false (party_ok p))

module _ (ws : List ℕ) (d : ℕ) where
  pub no-seller : (second : Bool) → any (is_sale_on d) (entries ws) ≡ false → of_pass second ws d ≡ nobody
  unfolding of_pass
  no-seller second none = fun_ext (λ p. rw (not-detected d p (entries ws) none (coefficient_of ws) (tolerance_of ws)) (and-false (cond second (is_repeated_buyer d (entries ws) p) true)))

  pub no-buyer : {second : Bool} → second ≡ true → any (is_cancelled_on d) (entries ws) ≡ false → of_pass second ws d ≡ nobody
  unfolding of_pass is_repeated_buyer is_cancelled_on
  no-buyer q none =
      rw q (fun_ext (λ p. ap (λ b. b && detected_in (coefficient_of ws) (tolerance_of ws) d (entries ws) p) (any_none _ (is_cancelled_on d) (λ r e. rw e) (entries ws) none)))
