-- An opening in lent bytes: its answer, and the bytes after it. Assumes nothing.
use mathlib.Core.Path.{◌≡◌, refl, sym, ap, ◌∙◌}
use mathlib.Core.Logic.{◌≢◌}
use mathlib.Core.Bool.{true, false, cond}
use mathlib.Core.List.{List, [], ◌∷◌, ◌++◌}
use Prim.Native.Nat.{ℕ, ◌/◌}
use native.Mathlib.Omega.{arith}
use lib.ListN.{length, take, drop, length-set}
use lib.Dec.{eqb, leb}
use borrow.Author.Tests.{eqb-true, eqb-false}
use Rattle.rules.specs.Words.{word}
use Rattle.rules.specs.Refusals.{not_a_book, bad_length, bad_figure}
use Rattle.rules.specs.DayFile.{words_of}
use Rattle.rules.specs.Book.{open_cause, open_words}
use Rattle.rules.proofs.BookLaws.{open-limits, open-refused}
use Rattle.opening.proofs.Opened.{open-leaves}
use Rattle.word_bytes.specs.Bytes.{bytes_of, is_whole, on_words, with_words}
use Rattle.word_bytes.proofs.BytesLaws.{Bytes, length-words, bytes_whole, put_step}

-- what an opening answers and leaves
abbrev Opened : List ℕ → ℕ → ℕ → ℕ → List ℕ → Type 0
Opened bs R TM answer after =
    (answer ≡ on_words bs (λ ws. open_cause (length ws) R TM) not_a_book) × (after ≡ with_words bs (λ ws. open_words ws R TM))

module _ (bs : List ℕ) (R TM : ℕ) where
  -- 1 where the bytes make no whole words, though no words are 11
  pub open-odd : is_whole bs ≡ false → Opened bs R TM not_a_book bs
  unfolding on_words with_words
  open-odd h = rw h (refl, refl)

  module _ (bytes : Bytes bs) (whole : is_whole bs ≡ true) where
    same : bs ≡ bytes_of (words_of bs)
    same = sym (bytes_whole bs bytes (eqb-true _ _ whole))

    on-cause : open_cause (length bs / 4) R TM ≡ on_words bs (λ ws. open_cause (length ws) R TM) not_a_book
    unfolding on_words
    on-cause = rw (whole, length-words bs)

    pub open_none : {answer : ℕ} → answer ≡ open_cause (length bs / 4) R TM → answer ≢ 0 → Opened bs R TM answer bs
    unfolding with_words
    open_none e h =
        let z : open_cause (length (words_of bs)) R TM ≢ 0 = rw (length-words bs, ← e) h in
        (e ∙ on-cause, rw whole (same ∙ ap bytes_of (sym (open-refused (words_of bs) R TM z))))

    -- the three words put, that with the count last
    pub open-put : {cs ds es : List ℕ} → open_cause (length bs / 4) R TM ≡ 0 →
        cs ≡ take 4 bs ++ bytes_of (word 7 R ∷ []) ++ drop 8 bs →
        ds ≡ take 8 cs ++ bytes_of (word 8 TM ∷ []) ++ drop 12 cs →
        es ≡ take 0 ds ++ bytes_of (word 6 0 ∷ []) ++ drop 4 ds →
        Opened bs R TM 0 es
    unfolding with_words
    open-put clear c d e =
        let z : open_cause (length (words_of bs)) R TM ≡ 0 = rw (length-words bs) clear in
        let l = open-limits _ _ _ z in
        let one = put_step _ 1 (word 7 R) (omega arith) same c in
        let two = put_step _ 2 (word 8 TM) (rw length-set (omega arith)) one d in
        let three = put_step _ 0 (word 6 0) (simp length-set (omega arith)) two e in
        (sym clear ∙ on-cause, rw whole (three ∙ ap bytes_of (open-leaves (words_of bs) R TM z)))
