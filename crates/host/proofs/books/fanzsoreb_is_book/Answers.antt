-- `host::books::fanzsoreb_is_book` meets its contract. Assumes nothing.
use mathlib.Core.Path.{◌∙◌, ap}
use mathlib.Core.Bool.{false}
use Rattle.rules.specs.Words.{is_book}
use Rattle.word_bytes.specs.Bytes.{yes_no}
use Rattle.word_bytes.proofs.CodingLaws.{yes-byte, on-figure}
use Rattle.host.proofs.books.fanzsoreb_is_book.Goals as goal

pub returns : goal.returns
returns c =
    c.into.ensures ∙ yes-byte _ ∙ ap yes_no c.is_book.ensures ∙ on-figure c.args.book.now yes_no is_book false
