-- The five words of an entry in code, and the entry that they hold (01, 'The words').
use Rattle.std.specs.Prelude.{List, [], ◌∷◌, ℕ}
use Rattle.rules.specs.Entry.{Record}
use Rattle.rules.specs.Words.{decode}
use Rattle.entry_words.specs.declared.EntryWords.{EntryWords}

abbrev pub words_in : EntryWords → List ℕ
words_in e = e.party ∷ e.day ∷ e.figures ∷ e.low ∷ e.high ∷ []

abbrev pub entry_in : EntryWords → Record
entry_in e = decode (words_in e)
