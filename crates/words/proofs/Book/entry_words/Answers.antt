-- `Book::entry_words` meets its contract. Assumes nothing.
use mathlib.Core.Path.{◌≡◌, sym, ap, ◌∙◌}
use Rattle.rules.specs.Entry.{legal}
use Rattle.rules.specs.Book.{place_of, entry_at}
use Rattle.rules.proofs.WordLaws.{entry-facts}
use Rattle.entry_words.specs.Words.{entry_in}
use Rattle.words.specs.Parts.{words_at}
use Rattle.words.proofs.BookCode.{decode-at, book-entry}
use Rattle.words.proofs.Book.entry_words.Goals as goal
use Rattle.words.proofs.Book.entry_words.Goals.{After-words_at}

pub words_at-requires : goal.words_at-requires
words_at-requires c = rw c.place_of.ensures (book-entry _ c.self.invariant _ (rw (sym c.self.view_is) at c.requires)).within

read : (c : After-words_at) → c.words_at.result ≡ words_at c.args.self.now (place_of c.args.number)
read c = rw (c.words_at.ensures, c.place_of.ensures, c.self.view_is)

pub returns-clause-words : goal.returns-clause-words
returns-clause-words c = read c

pub returns-clause-entry : goal.returns-clause-entry
unfolding entry_at
returns-clause-entry c =
    let a = c.args in
    ap entry_in (read c) ∙ sym (decode-at a.self.now (place_of a.number))

pub returns-clause-legal : goal.returns-clause-legal
returns-clause-legal c =
    let a = c.args in
    let p = book-entry _ c.self.invariant _ (rw (sym c.self.view_is) at c.requires) in
    ap (λ e. legal (entry_in e)) (read c) ∙ ap legal (sym (decode-at a.self.now (place_of a.number))) ∙ (rw c.self.view_is at (entry-facts _ p.ok).is-legal)
