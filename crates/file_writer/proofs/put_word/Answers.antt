-- `file_writer::put_word` meets its contract. Assumes nothing.
use mathlib.Core.Path.{◌≡◌, refl, sym, ◌∙◌}
use mathlib.Core.List.{List, [], ◌∷◌}
use Prim.Native.Nat.{ℕ, ◌+◌, ◌≤◌, ◌<◌}
use native.Mathlib.Numerals.{add-one, add-two, add-three}
use native.Mathlib.Omega.{arith}
use lib.ListN.{length}
use lib.Seq.{sets-eq}
use borrow.Author.Tests.{le-leb, lt-leb}
use Rattle.word_bytes.specs.Bytes.{bytes_of}
use Rattle.file_writer.specs.Write.{put_cause, put_words, bytes_at}
use Rattle.file_writer.proofs.put_word.Goals as goal
use Rattle.file_writer.proofs.put_word.Goals.{then-file-lt4-via-then-file-lt4, then-file-lt4-via-else-file-lt4+then-file-at}

-- past the end nothing is written
outside : (bs : List ℕ) (at w : ℕ) → length bs < at + 4 → (11 ≡ put_cause (length bs) at) × (bs ≡ put_words bs at w)
unfolding put_cause put_words
outside bs at w h = rw (lt-leb (at + 4) (length bs) h) (refl, refl)

pub returns-then-file-lt4 : goal.returns-then-file-lt4
returns-then-file-lt4 c =
    let a = c.args in
    let h : length a.file.now < a.at + 4 = elim c.then-file-lt4.branch [ then-file-lt4-via-then-file-lt4 w ↦ omega arith | then-file-lt4-via-else-file-lt4+then-file-at w ↦ omega arith ] in
    let o = outside a.file.now a.at a.word h in
    record { answer = o.0; words = o.1 }

pub returns : goal.returns
unfolding put_cause put_words bytes_at bytes_of
returns c =
    let a = c.args in
    let h : a.at + 4 ≤ length a.file.now = omega arith in
    let e = le-leb (a.at + 4) (length a.file.now) h in
    record {
      answer = rw e;
      words = rw (e, add-one a.at, add-two a.at, add-three a.at) (c.put_word.ensures ∙ sym (sets-eq (bytes_of (a.word ∷ [])) a.file.now a.at h));
    }
