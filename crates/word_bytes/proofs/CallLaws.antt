-- Each call on the words that the code reads of a book's bytes: its answer is the answer on the bytes, and what it leaves goes back to the bytes. Assumes nothing.
use mathlib.Core.Path.{◌≡◌, refl, ap₂}
use mathlib.Core.List.{List, []}
use native.Mathlib.Omega.{arith}
use Prim.Native.Nat.{ℕ, ◌≤◌}
use lib.ListN.{length, take}
use Rattle.numbers.specs.Causes.{if_done}
use Rattle.rules.specs.Refusals.{not_a_book}
use Rattle.rules.specs.Words.{is_book, used_with}
use Rattle.rules.specs.DayFile.{words_of}
use Rattle.rules.specs.Machine.{leaves_of, figures_of}
use Rattle.rules.specs.Calls.{Change, Figures, no_figures, on_records, cause_of, figures_at, words_after}
use Rattle.rules.proofs.LiftLaws.{SameView, SameFor}
use Rattle.rules.proofs.ChangeLaws.{adds}
use Rattle.rules.proofs.CallLaws.{refused-words, view-cause, view-figures, used-view, used-same, cut-words}
use Rattle.word_bytes.proofs.BytesLaws.{Bytes}
use Rattle.word_bytes.specs.Bytes.{on_words, with_words}
use Rattle.word_bytes.specs.Coding.{words_in, over_bytes}
use Rattle.word_bytes.proofs.CodingLaws.{on-words, written-bytes}

-- no words are no book, which no call changes
none-cause : (c : Change) → cause_of [] c ≡ not_a_book
unfolding cause_of is_book
none-cause c = refl

none-figures : (c : Change) → figures_at [] c ≡ no_figures
unfolding figures_at figures_of is_book
none-figures c = refl

none-words : (c : Change) → words_after [] c ≡ []
unfolding words_after leaves_of is_book
none-words c = refl

-- the words that a call with room for k entries more reads
module _ (k : ℕ) (bs : List ℕ) where
  abbrev pub words_read : List ℕ
  words_read = words_in (used_with k (words_of bs)) bs

  cut : SameView (take (used_with k (words_of bs)) (words_of bs)) (words_of bs)
  cut = used-view k (used_with k (words_of bs)) (words_of bs) (omega arith)

  -- any answer that looks at a book's view alone
  pub on-view : {A : Type 0} {refused : A} (f : List ℕ → A) → ((us vs : List ℕ) → SameView us vs → f us ≡ f vs) → f [] ≡ refused → f words_read ≡ on_words bs f refused
  on-view f same none = on-words _ bs f _ none (same _ _ cut)

  -- any call that changes a book and adds k entries at most, with what it answers of its cause and figures
  module _ (c : Change) (l : adds c ≤ k) where
    same : SameFor on_records c (take (used_with k (words_of bs)) (words_of bs)) (words_of bs)
    same = used-same k (used_with k (words_of bs)) (words_of bs) (omega arith) c l

    pub on-change : {A : Type 0} (answer : ℕ → Figures → A) →
        answer (cause_of words_read c) (figures_at words_read c) ≡ on_words bs (λ us. answer (cause_of us c) (figures_at us c)) (answer not_a_book no_figures)
    on-change answer =
        on-words _ bs (λ us. answer (cause_of us c) (figures_at us c)) (answer not_a_book no_figures)
        (ap₂ answer (none-cause c) (none-figures c))
        (ap₂ answer (view-cause same) (view-figures same))

    -- what it leaves, vs, written back where its answer is 0: the bytes of the words that it leaves
    pub change-bytes : {vs : List ℕ} {answer : ℕ} → Bytes bs → length vs ≡ length words_read → vs ≡ words_after words_read c → answer ≡ cause_of words_read c → if_done answer (over_bytes vs bs) bs ≡ with_words bs (λ us. words_after us c)
    change-bytes bytes kept =
        written-bytes
        (record {
          cause = λ us. cause_of us c;
          leaves = λ us. words_after us c;
          refused = λ us h. refused-words us c h;
          none = none-words c;
          uncut = cut-words (used_with k (words_of bs)) (words_of bs) c same;
        })
        bytes kept
