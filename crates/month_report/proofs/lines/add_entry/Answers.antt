-- `month_report::lines::add_entry` meets its contract. Assumes nothing.
use mathlib.Core.Path.{◌≡◌, ap, ◌∙◌}
use mathlib.Core.Bool.{true, cond}
use Prim.Native.Nat.{◌+◌, ◌*◌}
use native.Mathlib.Omega.{arith}
use Rattle.rules.specs.Entry.{legal}
use Rattle.rules.specs.Words.{entry_ok}
use Rattle.rules.proofs.WordLaws.{entry-facts}
use Rattle.entry_words.specs.declared.EntryWords.{EntryWords}
use Rattle.entry_words.specs.Words.{words_in, entry_in}
use Rattle.words.proofs.BookCode.{IsRead, is_read_lem}
use Rattle.month_report.specs.Lines.{most_in_figure}
use Rattle.month_report.proofs.LineLaws.{Taken, Small, type-in, small, adds, add_most}
use borrow.Author.Rules.{rules}
use Rattle.month_report.proofs.lines.add_entry.Goals as goal
use Rattle.month_report.proofs.lines.add_entry.Goals.{After-amount_if-amount}

-- the entry by its words
module _ (e : EntryWords) (ok : entry_ok (words_in e) ≡ true) where
  read : IsRead e.party e.day e.figures (entry_in e)
  read = is_read_lem (words_in e) 0 ok

  sound : legal (entry_in e) ≡ true
  sound = (entry-facts (words_in e) ok).is-legal

-- what is taken of it
module _ (c : After-amount_if-amount) where
  taken : Taken c.args.month.first c.args.month.count c.args.e.day c.args.e.figures (entry_in c.args.e) c.counts-counts.result c.line_if-line.result c.line_place-place.result c.amount_if-amount.result
  taken =
      record {
        counts-is = c.counts-counts.ensures;
        line-is = c.line_if-line.ensures;
        place_is = rw c.entry_type.ensures at c.line_place-place.ensures;
        amount-is = c.amount_if-amount.ensures ∙ ap (λ y. cond c.counts-counts.result y 0) c.amount.ensures;
      }

  bounds : Small c.line_if-line.result c.line_place-place.result c.amount_if-amount.result
  bounds =
      let a = c.args in
      small a.month.first a.month.count (read a.e c.requires.e_value) (sound a.e c.requires.e_value) taken a.month.few

pub line_place-place-requires : goal.line_place-place-requires
line_place-place-requires c = rw c.entry_type.ensures (type-in _ (sound c.args.e c.requires.e_value))

pub add_to-requires : goal.add_to-requires
add_to-requires c =
    let b = bounds (goal.at.add_to-requires c).After-amount_if-amount in
    let m = c.requires.at_most.at_most (21 * c.line_if-line.result + c.line_place-place.result) in
    (search rules, (omega (arith, b, m), omega (arith, b, m)))

pub add_to-requires-2 : goal.add_to-requires-2
add_to-requires-2 c =
    let b = bounds (goal.at.add_to-requires-2 c).After-amount_if-amount in
    let most = add_most most_in_figure c.args.lines.now (21 * c.line_if-line.result + c.line_place-place.result) c.amount_if-amount.result (21 * c.args.month.count + c.line_place-place.result) c.requires.at_most in
    let few = c.args.month.few in
    (search rules, (omega (arith, b, few), rw c.add_to.ensures (omega (arith, b, most))))

pub returns : goal.returns
returns c =
    let a = c.args in
    adds a.month.first a.month.count (read a.e c.requires.e_value) (sound a.e c.requires.e_value) (taken (goal.at.returns c).After-amount_if-amount) a.lines.now c.add_to.ensures c.add_to-2.ensures
