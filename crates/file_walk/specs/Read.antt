-- What a reader of a day file finds at a byte, and how it moves (01, 'Day file').
use Rattle.std.specs.Prelude.{cond, Option, Some, None, List, [], ◌∷◌, ℕ, zero, suc, ◌+◌, leb, length}
use Rattle.word_bytes.specs.Coding.{word_at}
use Rattle.file_walk.specs.declared.reader.Reader.{Reader}

-- the whole word at a byte, or none
unfoldable pub found_at : List ℕ → ℕ → Option ℕ
found_at bs at = cond (leb (at + 4) (length bs)) (Some (word_at bs at)) None

-- the byte after it, or the byte itself
abbrev pub past : ℕ → Option ℕ → ℕ
past at (Some w) = at + 4
past at None = at

-- a step: the same bytes, the place past the word, and the word; or unmoved and none
abbrev pub moved_by : Reader → Reader
moved_by r = record { bytes = r.bytes; at = past r.at (found_at r.bytes.now r.at) }

abbrev pub taken_by : Reader → Reader × Option ℕ
taken_by r = (moved_by r, found_at r.bytes.now r.at)

-- so many steps of one reader: a head is two words, a line three
abbrev pub words_by : ℕ → Reader → Reader × List (Option ℕ)
words_by zero r = (r, [])
words_by (suc n) r = ((words_by n (moved_by r)).0, found_at r.bytes.now r.at ∷ (words_by n (moved_by r)).1)

-- the same with no reader: the words from a byte on
abbrev pub words_from : ℕ → List ℕ → ℕ → List (Option ℕ)
words_from zero bs at = []
words_from (suc n) bs at = found_at bs at ∷ words_from n bs (past at (found_at bs at))
