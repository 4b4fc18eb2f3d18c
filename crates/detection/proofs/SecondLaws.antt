-- The second pass: buyers by few bits, of these the detected ones, of these by all bits. Assumes nothing.
use mathlib.Core.Path.{◌≡◌, refl, sym, ap, ◌∙◌, fun_ext}
use mathlib.Core.Logic.{inl, inr}
use mathlib.Core.Bool.{Bool, true, false, ◌&&◌, true≢false, and-false}
use mathlib.Core.List.{List}
use Prim.Native.Nat.{ℕ, ◌≤◌, ◌<◌}
use Rattle.numbers.proofs.TestLaws.{bool_cases, below-or-above, and_split, and-join}
use Rattle.rules.specs.Entry.{Record, party_places}
use Rattle.rules.specs.Words.{is_book, entries, coefficient_of, tolerance_of}
use Rattle.rules.specs.Control.{Parties, detected_in, is_repeated_buyer, detected_parties}
use Rattle.rules.proofs.WordLaws.{book-facts}
use Rattle.repeated_pairs.specs.Flags.{flagged, no_flags, all_flags}
use Rattle.repeated_pairs.specs.Pairs.{likely_among}
use Rattle.detection.specs.Tables.{checked, of_pass}
use Rattle.repeated_pairs.proofs.FlagLaws.{no_flag, count_none}
use Rattle.detection.proofs.BelowLaws.{no-party}
use Rattle.detection.proofs.DetectLaws.{asked}
use Rattle.repeated_pairs.proofs.PairLaws.{repeated-likely, likely-repeated}

module _ (ws : List ℕ) (b : is_book ws ≡ true) (d : ℕ) where
  abbrev rs : List Record
  rs = entries ws

  abbrev Found : Parties
  Found = detected_in (coefficient_of ws) (tolerance_of ws) d rs

  found-past : (p : ℕ) → party_places ≤ p → Found p ≡ false
  unfolding detected_in
  found-past p l = rw (no-party p l)

  -- whom few bits leave
  module _ (everyone likely : List Bool) (a : everyone ≡ all_flags) (e : flagged likely ≡ likely_among true d rs everyone) where
    buyer-likely : (p : ℕ) → p < party_places → is_repeated_buyer d rs p ≡ true → flagged likely p ≡ true
    unfolding likely_among
    buyer-likely p h r = ap (λ f. f p) e ∙ and-join _ _ (asked a p h) (repeated-likely true d rs p r)

    -- nobody, where no party within the flags is both
    nobody-is : (flags : List Bool) → flags ≡ no_flags → ((p : ℕ) → p < party_places → is_repeated_buyer d rs p ≡ true → Found p ≡ true → ⊥) → flagged flags ≡ of_pass true ws d
    unfolding of_pass
    nobody-is flags z h = fun_ext at
      where
        at : (p : ℕ) → flagged flags p ≡ of_pass true ws d p
        at p =
            elim (bool_cases (of_pass true ws d p)) [
              | inl k ↦
                  let s = and_split (is_repeated_buyer d rs p) (Found p) k in
                  elim (below-or-above p party_places) [
                    | inl l ↦ absurd (h p l s.0 s.1)
                    | inr l ↦ absurd (true≢false (sym s.1 ∙ found-past p l))
                  ]
              | inr k ↦ rw z (no_flag p ∙ sym k)
            ]

    pub none-likely : (flags : List Bool) {n : ℕ} → n ≡ detected_parties (flagged likely) → n ≡ 0 → flags ≡ no_flags → flagged flags ≡ of_pass true ws d
    unfolding detected_parties
    none-likely flags c z f =
        nobody-is flags f (λ p l r k. true≢false (sym (buyer-likely p l r) ∙ count_none party_places (flagged likely) (sym c ∙ z) p l))

    -- the detected ones among them
    module _ (detected : List Bool) (k : flagged detected ≡ checked ws d likely) where
      found-likely : (p : ℕ) → p < party_places → is_repeated_buyer d rs p ≡ true → flagged detected p ≡ Found p
      unfolding checked
      found-likely p l r = ap (λ f. f p) k ∙ ap (λ x. x && Found p) (buyer-likely p l r)

      pub none-detected : (flags : List Bool) {n : ℕ} → n ≡ detected_parties (flagged detected) → n ≡ 0 → flags ≡ no_flags → flagged flags ≡ of_pass true ws d
      unfolding detected_parties
      none-detected flags c z f =
          nobody-is flags f (λ p l r g. true≢false (sym g ∙ sym (found-likely p l r) ∙ count_none party_places (flagged detected) (sym c ∙ z) p l))

      -- and of repeated pairs these are the parties of the pass
      narrowed_at : (p : ℕ) → flagged detected p && is_repeated_buyer d rs p ≡ of_pass true ws d p
      unfolding of_pass checked
      narrowed_at p =
          elim (bool_cases (is_repeated_buyer d rs p)) [
            | inl r ↦
                elim (below-or-above p party_places) [
                  | inl l ↦ rw (r, found-likely p l r) (and_yes (Found p))
                  | inr l ↦ rw (r, ap (λ g. g p) k, found-past p l) (ap (λ x. x && true) (and-false (flagged likely p)))
                ]
            | inr r ↦ rw r (and-false (flagged detected p))
          ]
        where
          and_yes : (x : Bool) → x && true ≡ x
          and_yes true = refl
          and_yes false = refl

      -- all bits tell them
      pub all_found : (flags : List Bool) → flagged flags ≡ likely_among false d rs detected → flagged flags ≡ of_pass true ws d
      unfolding likely_among
      all_found flags f =
          f ∙ fun_ext (λ p. ap (λ g. flagged detected p && g p) (likely-repeated d rs (book-facts ws b).legals) ∙ narrowed_at p)
