-- Parts of the tests of `rules` that a function of the code makes by itself.
use Rattle.std.specs.Prelude.{Bool, cond, List, [], ◌∷◌, ℕ, ◌+◌, ◌*◌, ◌/◌, ◌%◌, eqb, leb}
use Rattle.numbers.specs.Tests.{every}
use Rattle.rules.specs.Entry.{last_party, last_day, within, bilateral, mark_type, updated_program, amount_limit}
use Rattle.rules.specs.Words.{low_amounts, word, kind_of, value_of, type_bits}

-- the largest type and counterparty as one number, in type 6 and in the others
abbrev pub who_limit : ℕ → ℕ
who_limit t = cond (eqb t bilateral) (type_bits bilateral last_party 0) updated_program

-- the two words of an amount as one number, the second above the 32 bits of the first
abbrev pub word_values : ℕ
word_values = 4294967296

abbrev pub amount_words : ℕ → ℕ
amount_words a = word 4 (a % low_amounts) + word 5 (a / low_amounts) * word_values

-- two words of an amount have their kinds, and the amount is within its limit
unfoldable pub amount_words_ok : ℕ → ℕ → ℕ → Bool
amount_words_ok t l h =
    every
    (eqb (kind_of l) 4
    ∷ eqb (kind_of h) 5
    ∷ leb (value_of l + value_of h * low_amounts) (amount_limit t)
    ∷ [])

-- the five words of a mark
abbrev pub mark_word_tests : ℕ → ℕ → ℕ → ℕ → ℕ → List Bool
mark_word_tests a d f l h =
    eqb a (word 1 0)
    ∷ within (word 2 0) (word 2 last_day) d
    ∷ eqb f (word 3 mark_type)
    ∷ eqb l (word 4 0)
    ∷ eqb h (word 5 0)
    ∷ []

abbrev pub mark_words_ok : ℕ → ℕ → ℕ → ℕ → ℕ → Bool
mark_words_ok a d f l h = every (mark_word_tests a d f l h)
