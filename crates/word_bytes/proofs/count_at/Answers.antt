-- `word_bytes::count_at` meets its contract. Assumes nothing.
use mathlib.Core.Path.{sym, ap, ◌∙◌}
use Prim.Native.Nat.{◌%◌}
use Rattle.rules.specs.Words.{values}
use Rattle.word_bytes.proofs.BytesLaws.{word-at}
use Rattle.word_bytes.proofs.count_at.Goals as goal

pub returns : goal.returns
returns c =
    ap (λ w. w % values) (c.word_at.ensures ∙ sym (word-at c.args.bytes.now 0 c.requires))
