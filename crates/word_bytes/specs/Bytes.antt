-- Books as bytes, for hosts in C (01, 'Day file').
use Rattle.std.specs.Prelude.{Bool, cond, List, [], ◌∷◌, ℕ, ◌/◌, ◌%◌, eqb, length}
use Rattle.rules.specs.DayFile.{words_of}

-- the bytes of words, little-endian
unfoldable pub bytes_of : List ℕ → List ℕ
bytes_of [] = []
bytes_of (w ∷ ws) = w % 256 ∷ w / 256 % 256 ∷ w / 65536 % 256 ∷ w / 16777216 ∷ bytes_of ws

-- a length that is a multiple of 4
abbrev pub is_whole : List ℕ → Bool
is_whole bs = eqb (length bs % 4) 0

-- a call on a book's bytes answers as on the book's words, or with the refusal where the length is no multiple of 4
unfoldable pub on_words : {A : Type 0} → List ℕ → (List ℕ → A) → A → A
on_words bs answer refused = cond (is_whole bs) (answer (words_of bs)) refused

-- and it leaves the bytes of the words that it leaves
unfoldable pub with_words : List ℕ → (List ℕ → List ℕ) → List ℕ
with_words bs words = cond (is_whole bs) (bytes_of (words (words_of bs))) bs

-- 1 yes, 0 no
abbrev pub yes_no : Bool → ℕ
yes_no b = cond b 1 0
