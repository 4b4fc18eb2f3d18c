-- Parts of the tests of `rules` that a function of the code makes by itself.
use Rattle.std.specs.Prelude.{not, ◌&&◌, List, [], ◌∷◌, ℕ, ◌+◌, get_or}
use Rattle.numbers.specs.Causes.{unless, first_of}
use Rattle.rules.specs.Refusals.{day_closed, no_entry}
use Rattle.rules.specs.Entry.{Record, key, is_standing, is_mark}
use Rattle.rules.specs.Book.{shut_to}
use Rattle.entry_words.specs.declared.EntryWords.{EntryWords}

-- why an entry of a book cannot be withdrawn (01, 'Why a call comes back')
unfoldable pub kept : Record → List Record → ℕ
kept r rs =
    first_of
    (unless (not (is_standing r && shut_to (key r) rs)) day_closed
    ∷ unless (is_standing r && not (is_mark r)) no_entry
    ∷ [])

-- the five words at a place
abbrev pub words_at : List ℕ → ℕ → EntryWords
words_at ws at =
    record {
      party = get_or ws at 0;
      day = get_or ws (at + 1) 0;
      figures = get_or ws (at + 2) 0;
      low = get_or ws (at + 3) 0;
      high = get_or ws (at + 4) 0;
    }
