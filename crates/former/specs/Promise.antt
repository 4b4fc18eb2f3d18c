-- What is promised of an older copy (02, T-06 and T-02): books and files that it took read as before, and it refuses what it cannot read.
-- proofs/PromiseLaws.antt proves it for every copy whose limits are not above today's.
use Rattle.std.specs.Prelude.{◌≡◌, ◌≢◌, Bool, true, false, not, ◌&&◌, ◌||◌, List, [], ◌∷◌, ◌++◌, map, ℕ, ◌+◌, ◌*◌, ◌≤◌, ◌<◌, eqb, leb, ltb}
use Rattle.numbers.specs.Tests.{all}
use Rattle.numbers.specs.Causes.{first_of}
use Rattle.rules.specs.Refusals.{not_a_book, bad_file, bad_type, bad_amount}
use Rattle.rules.specs.Entry.{Key, Record, key, updated_program, party_ok, day_ok}
use Rattle.rules.specs.Words.{low_amounts, value_at, is_book, entries, count_of}
use Rattle.rules.specs.Book.{place_of, entry_at, count_answer, read_answer}
use Rattle.rules.specs.Balance.{Volume, balance_answer, tally_answer}
use Rattle.rules.specs.Collateral.{collateral_answer}
use Rattle.rules.specs.Control.{detected_in}
use Rattle.rules.specs.DayFile.{Item, line, empty_block, is_file, items, item_cause}
use Rattle.rules.specs.Machine.{figures_of, leaves_of}
use Rattle.rules.specs.Calls.{Change, post, withdraw, control, file, no_figures, cause_of, figures_at, words_after}
use Rattle.case_figures.specs.declared.Case.{Case}
use Rattle.rules.specs.declared.Tally.{Tally}
use Rattle.rules.specs.declared.TallyAnswer.{TallyAnswer}
use Rattle.former.specs.Former.{Copy, limit_by, is_book_by, is_file_by, machine_by, detected_by, count_by, entry_by, tally_by, balance_by, collateral_by}

-- of today's types a copy may not know 22; what a test of types and amounts says of each line of a file and of each call
abbrev pub known_by : Bool → ℕ → Bool
known_by updates t = updates || not (eqb t updated_program)

abbrev pub in_item : (Key → ℕ → Bool) → Item → Bool
in_item test (line k a) = test k a
in_item test (empty_block p d) = true

abbrev pub in_call : (Key → ℕ → Bool) → Change → Bool
in_call test (post k a) = test k a
in_call test (withdraw n) = true
in_call test (control d) = true
in_call test (file bs) = all (in_item test) (items bs)

-- a type is known to the copy; an amount is within its limit of the type; both
abbrev pub type_fits : Copy → Key → ℕ → Bool
type_fits c k a = known_by c.updates k.type

abbrev pub amount_fits : Copy → Key → ℕ → Bool
amount_fits c k a = leb a (limit_by c k.type)

abbrev pub fits : Copy → Key → ℕ → Bool
fits c k a = type_fits c k a && amount_fits c k a

abbrev pub record_fits : Copy → Record → Bool
record_fits c r = fits c (key r) r.amount

-- a line's amount has no bit beyond the copy's
abbrev pub narrow_by : Copy → Item → Bool
narrow_by c (line k a) = ltb a (c.high * low_amounts)
narrow_by c (empty_block p d) = true

-- today's tally of a copy's: a sum that the copy does not know is last, and 0
abbrev pub grown : Bool → Tally → Tally
grown true t = t
grown false t = record { party = t.party; sums = t.sums ++ (0 ∷ []) }

abbrev pub grown_answer : Bool → TallyAnswer → TallyAnswer
grown_answer updates t = record { answer = t.answer; tally = grown updates t.tally; bought = t.bought }

-- the copy's answers to the calls that only read are today's
pub record ReadsAlike (c : Copy) (ws : List ℕ) : Type 0 where
  pub count : count_by c ws ≡ count_answer ws
  pub entry : (n : ℕ) → entry_by c ws n ≡ read_answer ws n
  pub tally : (p d : ℕ) → grown_answer c.updates (tally_by c ws p d) ≡ tally_answer ws p d
  pub balance : (v : Volume) (p d : ℕ) → balance_by c v ws p d ≡ balance_answer v ws p d
  pub collateral : (k : Case) → collateral_by c ws k ≡ collateral_answer ws k

-- and so are its answer to a call that changes a book, the figures and the words left
pub record ActsAlike (c : Copy) (ws : List ℕ) (call : Change) : Type 0 where
  pub cause : (machine_by c).cause ws call ≡ cause_of ws call
  pub figures : figures_of no_figures (machine_by c) ws call ≡ figures_at ws call
  pub words : leaves_of (machine_by c) ws call ≡ words_after ws call

-- the copy takes these words for no book: every call answers 1
pub record RefusesAll (c : Copy) (ws : List ℕ) : Type 0 where
  pub change : (call : Change) → (machine_by c).cause ws call ≡ not_a_book
  pub count : (count_by c ws).answer ≡ not_a_book
  pub entry : (n : ℕ) → (entry_by c ws n).answer ≡ not_a_book
  pub tally : (p d : ℕ) → (tally_by c ws p d).answer ≡ not_a_book
  pub balance : (v : Volume) (p d : ℕ) → (balance_by c v ws p d).answer ≡ not_a_book
  pub collateral : (k : Case) → (collateral_by c ws k).answer ≡ not_a_book

-- a cause that no wider limit and no new type lifts: 0, or one that is neither 1, 2, 5 nor 7
abbrev pub Stays : ℕ → Type 0
Stays k = (k ≢ not_a_book) × (k ≢ bad_file) × (k ≢ bad_type) × (k ≢ bad_amount)

-- today's copy finds no fault in a file
abbrev pub is_faultless : List ℕ → List ℕ → Bool
is_faultless ws bs = is_file bs && eqb (first_of (map (item_cause (entries ws)) (items bs))) 0

pub record Promise (c : Copy) : Type 0 where
  -- the copy takes just those of today's books whose types it knows and whose amounts are within its limits, and of today's files whose lines have no new bit
  pub books : (ws : List ℕ) → is_book_by c ws ≡ is_book ws && all (record_fits c) (entries ws)
  pub files : (bs : List ℕ) → is_file_by c bs ≡ is_file bs && all (narrow_by c) (items bs)
  -- a book that it took is read as before
  pub reads : (ws : List ℕ) → is_book_by c ws ≡ true → ReadsAlike c ws
  -- control detects the same parties, whatever the records
  pub detects : (R TM d : ℕ) (rs : List Record) (p : ℕ) → detected_by c R TM d rs p ≡ detected_in R TM d rs p
  -- a post or file that it did, or refused by another number than 1, 2, 5 or 7, is answered as before and leaves the same words
  pub acts : (ws : List ℕ) (call : Change) → Stays ((machine_by c).cause ws call) → ActsAlike c ws call
  -- and so is every call on its books whose types it knows and whose amounts are within its limits, done or refused: each withdrawal and control among them
  pub within : (ws : List ℕ) → is_book_by c ws ≡ true → (call : Change) → in_call (fits c) call ≡ true → ActsAlike c ws call
  -- a book with a new bit in an entry's kind 5 word it refuses by 1, a file with one by 2
  pub new_book : (ws : List ℕ) (n : ℕ) → n < count_of ws → c.high ≤ value_at ws (place_of n + 4) → RefusesAll c ws
  pub new_file : (ws bs : List ℕ) → is_book_by c ws ≡ true → all (narrow_by c) (items bs) ≡ false → (machine_by c).cause ws (file bs) ≡ bad_file
  -- a book with an entry of a type that it does not know it refuses by 1, a post of one by 5,
  -- and by 5 a file with such a line in which today's copy finds no fault and no amount is above its limit
  pub new_type_book : (ws : List ℕ) (n : ℕ) → n < count_of ws → known_by c.updates (key (entry_at ws n)).type ≡ false → RefusesAll c ws
  pub new_type_post : (ws : List ℕ) → is_book_by c ws ≡ true → (k : Key) (a : ℕ) → party_ok k.party ≡ true → day_ok k.day ≡ true →
      known_by c.updates k.type ≡ false → (machine_by c).cause ws (post k a) ≡ bad_type
  pub new_type_file : (ws bs : List ℕ) → is_book_by c ws ≡ true → is_faultless ws bs ≡ true → all (in_item (amount_fits c)) (items bs) ≡ true →
      all (in_item (type_fits c)) (items bs) ≡ false → (machine_by c).cause ws (file bs) ≡ bad_type
