-- What reading a file answers and leaves, by its causes in order. Assumes nothing.
use mathlib.Core.Path.{◌≡◌, sym, ◌∙◌, ap}
use mathlib.Core.Bool.{true, false}
use mathlib.Core.List.{List}
use Prim.Native.Nat.{ℕ, suc, ◌+◌, ◌*◌, ◌≤◌}
use native.Mathlib.Nat.{suc-ne-zero}
use native.Mathlib.Omega.{arith}
use lib.ListN.{length, set}
use Rattle.numbers.specs.Tests.{all}
use Rattle.rules.specs.Entry.{legal}
use Rattle.rules.specs.Words.{word, is_book, entries, count_of}
use Rattle.rules.specs.DayFile.{items, lines_of, is_file}
use Rattle.rules.specs.Calls.{file, figures_on, changed, cause_of, words_after, file_answer}
use Rattle.rules.specs.declared.FileRead.{FileRead}
use Rattle.rules.proofs.WordLaws.{book-facts, room-words}
use Rattle.rules.proofs.CancelLaws.{lines-legal}
use Rattle.rules.proofs.CallLaws.{FilePasses, file-passes, file-cause, refused-words, refused-figures, done-figures, done-words}
use Rattle.dayfile.specs.Stored.{stored_from}
use Rattle.dayfile.proofs.PostLaws.{posted-all}

-- a file that is refused is not read
refused : (ws bs : List ℕ) (k : ℕ) → cause_of ws (file bs) ≡ suc k → ◌≡◌ {A = FileRead} (record { answer = suc k; posted = 0 }) (file_answer ws bs)
refused ws bs k e = rw (refused-figures ws (file bs) (λ z. suc-ne-zero k (sym e ∙ z)), e)

pub not-a-book : (ws bs : List ℕ) → is_book ws ≡ false → ◌≡◌ {A = FileRead} (record { answer = 1; posted = 0 }) (file_answer ws bs)
not-a-book ws bs b = refused ws bs 0 (rw (file-cause, b))

pub not-a-file : (ws bs : List ℕ) → is_book ws ≡ true → is_file bs ≡ false → ◌≡◌ {A = FileRead} (record { answer = 2; posted = 0 }) (file_answer ws bs)
not-a-file ws bs b f = refused ws bs 1 (rw (file-cause, b, f))

module _ (ws bs : List ℕ) {r : FileRead} (e : r ≡ file_answer ws bs) where
  cause-is : r.answer ≡ cause_of ws (file bs)
  cause-is = ap (λ x. x.answer) e

  pub left-as-was : (r.answer ≡ 0 → ⊥) → ws ≡ words_after ws (file bs)
  left-as-was n = sym (refused-words ws (file bs) (λ z. n (cause-is ∙ z)))

  module _ (z : r.answer ≡ 0) where
    done : cause_of ws (file bs) ≡ 0
    done = sym cause-is ∙ z

    pub done-passes : FilePasses ws bs
    done-passes = file-passes ws bs done

    pub done-posted : r.posted ≡ length (lines_of (items bs))
    unfolding figures_on
    done-posted = ap (λ x. x.posted) e ∙ ap (λ f. f.lines) (done-figures ws (file bs) done)

    pub done-legal : all legal (lines_of (items bs)) ≡ true
    done-legal = lines-legal (entries ws) (items bs) done-passes.faultless

    pub done-within : 3 + 5 * (count_of ws + length (lines_of (items bs))) ≤ length ws
    done-within = room-words _ (length ws) (book-facts ws done-passes.is-book).long done-passes.room

    -- the count is a number of entries
    pub done-count : count_of ws + r.posted ≤ 3072
    done-count = rw done-posted (omega (arith, done-passes.room))

    pub done-stores : {vs : List ℕ} → vs ≡ stored_from ws (3 + 5 * count_of ws) (items bs) → set vs 0 (word 6 (count_of ws + r.posted)) ≡ words_after ws (file bs)
    unfolding changed
    done-stores w =
        rw (w, done-posted, posted-all ws (items bs) done-passes.is-book done-passes.room) (sym (done-words ws (file bs) done))
