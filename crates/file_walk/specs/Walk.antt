-- The walks of a day file's bytes, item by item, and block head by block head and line by line (01, 'Day file').
use Rattle.std.specs.Prelude.{Bool, cond, Option, Some, None, List, [], ◌∷◌, ℕ, zero, suc, ◌+◌, ◌-◌, ◌*◌, ◌/◌, ◌%◌, eqb, leb, length, drop}
use Rattle.rules.specs.Entry.{key_in}
use Rattle.rules.specs.Words.{types, low_amounts, value_of}
use Rattle.rules.specs.DayFile.{Item, line, empty_block, lines_in, party_in, is_head, is_line, items_from, words_of}
use Rattle.word_bytes.specs.Coding.{word_at}
use Rattle.file_walk.specs.declared.Cursor.{Cursor}
use Rattle.file_walk.specs.declared.Line as whole
use Rattle.file_walk.specs.declared.reader.Reader.{Reader}
use Rattle.file_walk.specs.declared.walk.Item as read
use Rattle.file_walk.specs.declared.walk.Item.TheVariants.{Line, EmptyBlock}
use Rattle.file_walk.specs.declared.walk.Items.{Items}
use Rattle.file_walk.specs.declared.walk.Form.{Form}
use Rattle.file_walk.specs.declared.walk.Form.TheVariants.{Open, Ended, Broken}
use Rattle.file_walk.specs.declared.walk.Pass.{Pass}
use Rattle.file_walk.specs.Read.{words_by}

-- an item that was read, as 01 has it
abbrev pub item_in : read.Item → Item
item_in (Line k a) = line (key_in k) a
item_in (EmptyBlock p d) = empty_block p d

-- what is left from here on
abbrev pub left_items : Items → List Item
left_items s = items_from s.left s.party s.day (words_of (drop s.reader.at s.reader.bytes.now))

-- where a walk by a cursor begins
abbrev pub start : Cursor
start = record { at = 0; left = 0; party = 0; day = 0 }

-- a block's head is two words, a line three
abbrev pub step_bytes : Cursor → ℕ
step_bytes c = cond (eqb c.left 0) 8 12

-- the next head or line is whole
unfoldable pub is_more : List ℕ → Cursor → Bool
is_more bs c = leb (step_bytes c) (length bs - c.at)

-- past the head at a byte
unfoldable pub head_at : List ℕ → ℕ → Cursor
head_at bs at =
    record { at = at + 8; left = lines_in (word_at bs at); party = party_in (word_at bs at); day = value_of (word_at bs (at + 4)) }

-- past a line
abbrev pub past_line : Cursor → Cursor
past_line c = record { at = c.at + 12; left = c.left - 1; party = c.party; day = c.day }

unfoldable pub past_step : List ℕ → Cursor → Cursor
past_step bs c = cond (eqb c.left 0) (head_at bs c.at) (past_line c)

-- the line that a walk has come to
unfoldable pub line_at : List ℕ → Cursor → whole.Line
line_at bs c =
    record {
      key = record { party = c.party; day = c.day; entry_type = value_of (word_at bs c.at) % types; counterparty = value_of (word_at bs c.at) / types };
      amount = value_of (word_at bs (c.at + 4)) + value_of (word_at bs (c.at + 8)) * low_amounts;
    }

-- how a file's form stands past the words of a head: where not even the first is whole, a block may have ended
abbrev pub head_past : List (Option ℕ) → Form
head_past [] = Broken
head_past (None ∷ ws) = Ended
head_past (Some w ∷ []) = Broken
head_past (Some w ∷ None ∷ ws) = Broken
head_past (Some w ∷ Some x ∷ ws) = cond (is_head w x) (Open (lines_in w)) Broken

-- and past those of a line: the kinds right, and no spare or status bit set
abbrev pub line_past : ℕ → List (Option ℕ) → Form
line_past n (Some w ∷ Some x ∷ Some y ∷ ws) = cond (is_line w x y) (Open (n - 1)) Broken
line_past n ws = Broken

-- a pass one head or line further, with n lines still to come: a head is two words, a line three
abbrev pub passed_on : Reader → ℕ → Pass
passed_on r zero = record { reader = (words_by 2 r).0; form = head_past (words_by 2 r).1 }
passed_on r (suc n) = record { reader = (words_by 3 r).0; form = line_past (suc n) (words_by 3 r).1 }
