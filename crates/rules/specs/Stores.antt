-- What the code of a post and of a change of status stores, word by word. Only contracts of internal functions cite these;
-- the laws of proofs/BookLaws.antt tie them to the records.
use Rattle.std.specs.Prelude.{List, ℕ, ◌+◌, ◌*◌, ◌/◌, ◌%◌, get_or, set}
use Rattle.rules.specs.Entry.{Key, standing}
use Rattle.rules.specs.Words.{status_unit, low_amounts, word, type_bits, count_of}
use Rattle.rules.specs.Book.{place_of}

-- a standing entry's five words stored at a place
unfoldable pub stored_at : List ℕ → ℕ → Key → ℕ → List ℕ
stored_at ws at k a =
    set
    (set
    (set
    (set
    (set ws at (word 1 k.party))
    (at + 1) (word 2 k.day))
    (at + 2) (word 3 (type_bits k.type k.counterparty standing)))
    (at + 3) (word 4 (a % low_amounts)))
    (at + 4) (word 5 (a / low_amounts))

unfoldable pub posted : List ℕ → Key → ℕ → List ℕ
posted ws k a = set (stored_at ws (place_of (count_of ws)) k a) 0 (word 6 (count_of ws + 1))

-- a kind 3 word of a standing entry, with another status
abbrev pub raised : ℕ → ℕ → ℕ
raised status w = w + status * status_unit

-- entry n, standing until now, with another status
unfoldable pub restatused : ℕ → List ℕ → ℕ → List ℕ
restatused status ws n = set ws (place_of n + 2) (raised status (get_or ws (place_of n + 2) 0))
