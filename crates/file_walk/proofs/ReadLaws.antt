-- What a reader finds at a byte. Assumes nothing.
use mathlib.Core.Path.{◌≡◌, refl, sym, ap, ◌∙◌}
use mathlib.Core.Logic.{inl, inr}
use mathlib.Core.List.{List, ◌∷◌, ◌++◌, append_assoc}
use Prim.Native.Nat.{ℕ, zero, suc, ◌+◌, ◌-◌, ◌≤◌, ◌<◌}
use native.Mathlib.Nat.{sub-zero}
use native.Mathlib.Omega.{arith}
use lib.ListN.{length, take, set, replicate, length-replicate, length-set}
use borrow.Author.Tests.{le-leb, lt-leb}
use Rattle.std.proofs.Common.{Option, Some, None}
use Rattle.std.proofs.lemmas.List.{append-nil, take_all, take_more_set}
use Rattle.numbers.proofs.TestLaws.{below-or-above}
use Rattle.word_bytes.specs.Coding.{word_at}
use Rattle.file_walk.specs.declared.reader.Reader.{Reader}
use Rattle.file_walk.specs.Read.{found_at, taken_by, moved_by, words_by, words_from}

module _ (bs : List ℕ) (at : ℕ) where
  -- a reader finds each whole word, and where none is whole it finds none
  pub found_word : at + 4 ≤ length bs → found_at bs at ≡ Some (word_at bs at)
  unfolding found_at
  found_word h = rw (le-leb (at + 4) (length bs) h)

  pub found_none : length bs < at + 4 → found_at bs at ≡ None
  unfolding found_at
  found_none h = rw (lt-leb (at + 4) (length bs) h)

  -- a word that was found is whole
  pub found-within : {w : ℕ} → found_at bs at ≡ Some w → at + 4 ≤ length bs
  found-within e = elim (below-or-above (length bs) (at + 4)) [ inl l ↦ absurd (let n = found_none l in cc) | inr m ↦ m ]

-- the words of n steps of a reader r: i of them taken, by which it has come to s, and the rest still to take
pub record Taken (n : ℕ) (r : Reader) (i : ℕ) (s : Reader) (ws : List (Option ℕ)) : Type 0 where
  pub long : length ws ≡ n
  pub so-far : words_by n r ≡ ((words_by (n - i) s).0, take i ws ++ (words_by (n - i) s).1)

pub taken-start : (n : ℕ) (r : Reader) → Taken n r 0 r (replicate n None)
taken-start n r = record { long = length-replicate n None; so-far = rw sub-zero }

module _ {n i : ℕ} {r s : Reader} {ws : List (Option ℕ)} (t : Taken n r i s ws) where
  pub taken-on : i < n → {next : Reader × Option ℕ} → next ≡ taken_by s → Taken n r (i + 1) next.0 (set ws i next.1)
  taken-on h e =
      let k : n - i ≡ suc (n - (i + 1)) = omega arith in
      let l : i < length ws = rw t.long h in
      rw e
      (record {
        long = length-set ws i (found_at s.bytes.now s.at) ∙ t.long;
        so-far = t.so-far ∙ rw (k, take_more_set ws i (found_at s.bytes.now s.at) l) (simp append_assoc);
      })

  pub taken-end : n ≤ i → (s, ws) ≡ words_by n r
  taken-end h =
      let z : n - i ≡ 0 = omega arith in
      let l : length ws ≤ i = rw t.long h in
      sym (t.so-far ∙ rw (z, take_all i ws l, append-nil ws))

-- the words that a reader takes are those from its byte on
pub plain-words : (n : ℕ) (r : Reader) → (words_by n r).1 ≡ words_from n r.bytes.now r.at
plain-words zero r = refl
plain-words (suc n) r = ap (λ ws. found_at r.bytes.now r.at ∷ ws) (plain-words n (moved_by r))
