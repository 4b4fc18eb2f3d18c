-- The words that the code reads out of bytes, and what its parts hand to each other.
use Rattle.std.specs.Prelude.{◌≡◌, cond, List, [], ◌++◌, ℕ, ◌+◌, ◌*◌, ◌/◌, ◌≤◌, min, length, get_or, take, drop}
use Rattle.rules.specs.Words.{used_with}
use Rattle.rules.specs.DayFile.{words_of}
use Rattle.word_bytes.specs.Bytes.{bytes_of, is_whole}

-- the little-endian word at a byte
unfoldable pub word_at : List ℕ → ℕ → ℕ
word_at bs at =
    get_or bs at 0 + get_or bs (at + 1) 0 * 256 + get_or bs (at + 2) 0 * 65536 + get_or bs (at + 3) 0 * 16777216

-- the bytes of words over the first bytes of a slice, every byte beyond them as it was
unfoldable pub over_bytes : List ℕ → List ℕ → List ℕ
over_bytes ws bs = bytes_of ws ++ drop (4 * length ws) bs

-- the first m words of a book's bytes: none where the bytes make no whole words
unfoldable pub words_in : ℕ → List ℕ → List ℕ
words_in m bs = cond (is_whole bs) (take m (words_of bs)) []

unfoldable pub count_in : ℕ → List ℕ → ℕ
count_in m bs = cond (is_whole bs) (min m (length bs / 4)) 0

-- how many words a call needs that adds k entries at most
abbrev pub needed_for : ℕ → List ℕ → ℕ
needed_for k bs = count_in (used_with k (words_of bs)) bs

-- the first n of some words are the book's first m
pub record Decoded (m : ℕ) (bs ws : List ℕ) (n : ℕ) : Type 0 where
  pub inside : n ≤ length ws
  pub lent : 4 * n ≤ length bs
  pub read : take n ws ≡ words_in m bs
