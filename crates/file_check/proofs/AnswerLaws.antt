-- The answer to a file, from the closed days in a table and a scan of its items. Assumes nothing.
use mathlib.Core.Path.{◌≡◌, refl, sym, ◌∙◌, ap, ap₂}
use mathlib.Core.Bool.{Bool, true, false}
use mathlib.Core.List.{List, [], ◌∷◌, map}
use Prim.Native.Nat.{ℕ, zero, suc, ◌+◌, ◌%◌, ◌≤◌}
use native.Mathlib.Nat.{suc-ne-zero}
use native.Mathlib.Omega.{arith}
use lib.Dec.{eqb, leb}
use lib.ListN.{length}
use borrow.Author.Tests.{leb-true}
use Rattle.numbers.specs.Causes.{unless, or_else, first_of, if_done}
use Rattle.numbers.proofs.TestLaws.{every_holds}
use Rattle.numbers.proofs.CauseLaws.{else-stop, else-none, done-else}
use Rattle.rules.specs.Entry.{Record, fault}
use Rattle.rules.specs.Words.{is_book, entries, count_of, room_in}
use Rattle.rules.specs.Book.{shut_to}
use Rattle.rules.specs.DayFile.{Item, line, empty_block, item_cause, items, lines_of, is_file, is_shaped, words_of}
use Rattle.rules.specs.Calls.{file, figures_on, cause_of, file_answer}
use Rattle.rules.specs.declared.FileRead.{FileRead}
use Rattle.rules.proofs.WordLaws.{no-fault}
use Rattle.rules.proofs.CallLaws.{file-cause, refused-figures, done-figures}
use Rattle.file_check.specs.Check.{TableOf, cause_by, first_cause, scanned}

-- a file is no longer than a file may be
pub file-bytes : (bs : List ℕ) → is_file bs ≡ true → length bs ≤ 65536
unfolding is_file
file-bytes bs e =
    leb-true (length bs) 65536 (every_holds (leb (length bs) 65536 ∷ eqb (length bs % 4) 0 ∷ is_shaped 0 (words_of bs) ∷ []) e).0

cause_by-table : (cs : List Bool) (rs : List Record) → TableOf cs rs → (i : Item) → cause_by cs i ≡ item_cause rs i
unfolding cause_by item_cause shut_to
cause_by-table cs rs t (line k a) = go (fault k a) refl
  where
    go : (f : ℕ) → fault k a ≡ f → cause_by cs (line k a) ≡ item_cause rs (line k a)
    go zero e = rw (e, t k.day (omega (arith, (no-fault k a e).day)))
    go (suc f) e = rw e
cause_by-table cs rs t (empty_block p d) = refl

causes-by-table : (cs : List Bool) (rs : List Record) → TableOf cs rs → (is : List Item) → first_cause cs is ≡ first_of (map (item_cause rs) is)
causes-by-table cs rs t [] = refl
causes-by-table cs rs t (i ∷ is) = ap₂ or_else (cause_by-table cs rs t i) (causes-by-table cs rs t is)

-- what is told of all items by a table is told by the entries
pub scan-refused : (rs : List Record) (is : List Item) (cs : List Bool) {k : ℕ} → TableOf cs rs → first_cause cs is ≡ k → (k ≡ 0 → ⊥) → ◌≡◌ {A = FileRead} (record { answer = k; posted = 0 }) (scanned rs is)
unfolding scanned
scan-refused rs is cs {k} t e n = go k (sym (causes-by-table cs rs t is) ∙ e) n
  where
    go : (k : ℕ) → first_of (map (item_cause rs) is) ≡ k → (k ≡ 0 → ⊥) → ◌≡◌ {A = FileRead} (record { answer = k; posted = 0 }) (record { answer = first_of (map (item_cause rs) is); posted = if_done (first_of (map (item_cause rs) is)) (length (lines_of is)) 0 })
    go zero e n = absurd (n refl)
    go (suc k) e n = rw e

pub scan-done : (rs : List Record) (is : List Item) (cs : List Bool) {n : ℕ} → TableOf cs rs → first_cause cs is ≡ 0 → length (lines_of is) ≡ n → ◌≡◌ {A = FileRead} (record { answer = 0; posted = n }) (scanned rs is)
unfolding scanned
scan-done rs is cs t e q = rw (sym (causes-by-table cs rs t is) ∙ e, q)

module _ (ws bs : List ℕ) (book : is_book ws ≡ true) (shaped : is_file bs ≡ true) where
  abbrev causes : ℕ
  causes = first_of (map (item_cause (entries ws)) (items bs))

  abbrev lines_in : ℕ
  lines_in = length (lines_of (items bs))

  cause_of-file : cause_of ws (file bs) ≡ or_else causes (unless (leb (count_of ws + lines_in) (room_in (length ws))) 9)
  cause_of-file = rw (file-cause, book, shaped, else-none (unless (leb (count_of ws + lines_in) (room_in (length ws))) 9))

  -- the answer by its cause
  answer-by : {k n : ℕ} → cause_of ws (file bs) ≡ k → if_done k lines_in 0 ≡ n → ◌≡◌ {A = FileRead} (record { answer = k; posted = n }) (file_answer ws bs)
  unfolding figures_on
  answer-by {k} {n} e q = go k e q
    where
      go : (j : ℕ) → cause_of ws (file bs) ≡ j → if_done j lines_in 0 ≡ n → ◌≡◌ {A = FileRead} (record { answer = j; posted = n }) (file_answer ws bs)
      go zero z h = rw (z, done-figures ws (file bs) z, ← h)
      go (suc j) z h = rw (refused-figures ws (file bs) (λ y. suc-ne-zero j (sym z ∙ y)), z, ← h)

  module _ {r : FileRead} (scan : r ≡ scanned (entries ws) (items bs)) where
    first : r.answer ≡ causes
    unfolding scanned
    first = ap (λ x. x.answer) scan

    lines : r.answer ≡ 0 → r.posted ≡ lines_in
    unfolding scanned
    lines z = ap (λ x. x.posted) scan ∙ rw (← first, z)

    pub answer-refused : (r.answer ≡ 0 → ⊥) → r ≡ file_answer ws bs
    unfolding scanned
    answer-refused n = scan ∙ answer-by (cause_of-file ∙ else-stop causes _ (λ z. n (first ∙ z))) refl

    pub answer-full : r.answer ≡ 0 → leb (count_of ws + r.posted) (room_in (length ws)) ≡ false → ◌≡◌ {A = FileRead} (record { answer = 9; posted = 0 }) (file_answer ws bs)
    answer-full z h = answer-by (cause_of-file ∙ rw (← first, z, ← lines z, h)) refl

    pub answer-done : r.answer ≡ 0 → leb (count_of ws + r.posted) (room_in (length ws)) ≡ true → r ≡ file_answer ws bs
    unfolding scanned
    answer-done z h = scan ∙ answer-by (cause_of-file ∙ rw (← first, z, ← lines z, h)) (rw (← first, z))

-- what is told of a file by the answer to it: something where it is posted, else of its cause
module _ (ws bs : List ℕ) {r : FileRead} (e : r ≡ file_answer ws bs) where
  pub cause-told : cause_of ws (file bs) ≡ r.answer
  cause-told = sym (ap (λ x. x.answer) e)

  module _ {A : Type 0} (new : A) (old : ℕ → A) where
    pub told-refused : (r.answer ≡ 0 → ⊥) → if_done (cause_of ws (file bs)) new (old (cause_of ws (file bs))) ≡ old r.answer
    told-refused n = rw cause-told (done-else r.answer new (old r.answer) n)

    pub told-done : r.answer ≡ 0 → if_done (cause_of ws (file bs)) new (old (cause_of ws (file bs))) ≡ new
    told-done z = rw (cause-told, z)
