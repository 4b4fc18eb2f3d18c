-- A block's head and a line as words, and a word as bytes: what a host writes that a file's reader reads (01, 'Day file').
use Rattle.std.specs.Prelude.{Bool, cond, Result, Ok, Err, List, [], ◌∷◌, ℕ, ◌+◌, ◌*◌, ◌/◌, ◌%◌, leb, ltb, length, set}
use Rattle.numbers.specs.Tests.{every}
use Rattle.numbers.specs.Causes.{unless, first_of, if_done}
use Rattle.rules.specs.Refusals.{bad_length}
use Rattle.rules.specs.Words.{values, types, counterparties, low_amounts, word, type_bits}
use Rattle.rules.specs.DayFile.{parties, high_amounts}
use Rattle.rules.specs.Entry.{standing}
use Rattle.rules.specs.declared.refusal.Refusal.{Refusal}
use Rattle.rules.specs.declared.refusal.Refusal.TheVariants.{BadFigure}
use Rattle.file_writer.specs.declared.HeadWords.{HeadWords}
use Rattle.file_writer.specs.declared.LineWords.{LineWords}

-- twelve bits for the number of lines
abbrev pub block_lines : ℕ
block_lines = 4096

-- each figure fits its bits: party 0-15, lines 16-27, day 0-27
abbrev pub head_fits : ℕ → ℕ → ℕ → Bool
head_fits p d n = every (ltb p parties ∷ ltb d values ∷ ltb n block_lines ∷ [])

unfoldable pub head_words : ℕ → ℕ → ℕ → Result HeadWords Refusal
head_words p d n =
    cond (head_fits p d n) (Ok (record { first = word 1 (p + n * parties); second = word 2 d })) (Err BadFigure)

-- type, counterparty and amount, as a line's words have bits for them
abbrev pub line_fits : ℕ → ℕ → ℕ → Bool
line_fits t c a = every (ltb t types ∷ ltb c counterparties ∷ ltb a (low_amounts * high_amounts) ∷ [])

unfoldable pub line_words : ℕ → ℕ → ℕ → Result LineWords Refusal
line_words t c a =
    cond
    (line_fits t c a)
    (Ok (record { figures = word 3 (type_bits t c standing); low = word 4 (a % low_amounts); high = word 5 (a / low_amounts) }))
    (Err BadFigure)

-- a word's four bytes, lowest first
unfoldable pub bytes_at : List ℕ → ℕ → ℕ → List ℕ
bytes_at bs at w =
    set (set (set (set bs at (w % 256)) (at + 1) (w / 256 % 256)) (at + 2) (w / 65536 % 256)) (at + 3) (w / 16777216)

unfoldable pub put_cause : ℕ → ℕ → ℕ
put_cause lent at = first_of (unless (leb (at + 4) lent) bad_length ∷ [])

unfoldable pub put_words : List ℕ → ℕ → ℕ → List ℕ
put_words bs at w = if_done (put_cause (length bs) at) (bytes_at bs at w) bs
