-- A pass without parties changes nothing and counts nothing. Assumes nothing.
use mathlib.Core.Path.{◌≡◌, refl, sym, ap, ap₂, ◌∙◌}
use mathlib.Core.Bool.{cond, ◌&&◌, false, true, and-false}
use mathlib.Core.List.{List, [], ◌∷◌}
use Prim.Native.Nat.{ℕ}
use native.Mathlib.Nat.{le_refl}
use native.Mathlib.Omega.{arith}
use lib.Dec.{eqb}
use Rattle.numbers.specs.Sums.{total, count, sum, count_below}
use Rattle.numbers.proofs.SumLaws.{total-bound, sum_bound}
use Rattle.rules.specs.Entry.{Record, key, is_standing, is_bilateral, status_where}
use Rattle.rules.specs.Words.{is_book, entries, coefficient_of, tolerance_of, laid}
use Rattle.rules.specs.Control.{Parties, is_to_cancel, cancel_of, detected_parties}
use Rattle.rules.proofs.WordLaws.{book-laid}
use Rattle.empty_passes.specs.Sought.{nobody}
use Rattle.control.specs.Passes.{cancelled_words, pass_of}
use Rattle.control.specs.declared.passes.Passed.{Passed}

module _ (d : ℕ) where
  spared : (r : Record) → is_to_cancel nobody d r ≡ false
  unfolding is_to_cancel
  spared r = and-false ((is_standing r && eqb (key r).day d) && is_bilateral (key r))

  none-cancelled : (rs : List Record) → cancel_of nobody d rs ≡ rs
  unfolding cancel_of status_where
  none-cancelled [] = refl
  none-cancelled (r ∷ rs) = ap₂ ◌∷◌ (rw (spared r)) (none-cancelled rs)

  none-counted : (ws : List ℕ) → ◌≡◌ {A = Passed} (record { parties = 0; entries = 0 }) (pass_of nobody d ws)
  unfolding pass_of detected_parties count_below count
  none-counted ws =
      let p : sum 1000 (λ k. 0) ≡ 0 = omega (arith, sum_bound 1000 (λ k. 0) 0 (λ k h. le_refl 0)) in
      let n : total (λ r. cond (is_to_cancel nobody d r) 1 0) (entries ws) ≡ 0 = omega (arith, total-bound (λ r. cond (is_to_cancel nobody d r) 1 0) 0 (λ r. rw (spared r) (le_refl 0)) (entries ws)) in
      ap₂ (λ x y. record { parties = x; entries = y }) (sym p) (sym n)

module _ (ws : List ℕ) (d : ℕ) where
  module _ {who : Parties} (none : who ≡ nobody) where
    pub no-counts : ◌≡◌ {A = Passed} (record { parties = 0; entries = 0 }) (pass_of who d ws)
    no-counts = none-counted d ws ∙ ap (λ w. pass_of w d ws) (sym none)

    pub no_change : is_book ws ≡ true → ws ≡ cancelled_words who d ws
    unfolding cancelled_words
    no_change b =
        book-laid ws b
        ∙ ap (λ rs. laid (coefficient_of ws) (tolerance_of ws) rs ws) (sym (none-cancelled d (entries ws)))
        ∙ ap (λ w. cancelled_words w d ws) (sym none)
