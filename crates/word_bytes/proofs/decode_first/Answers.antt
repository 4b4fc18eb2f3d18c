-- `word_bytes::decode_first` meets its contract. Assumes nothing.
use mathlib.Core.Path.{◌≡◌}
use Prim.Native.Nat.{◌≤◌}
use native.Mathlib.Omega.{arith}
use lib.ListN.{length, take}
use Rattle.word_bytes.proofs.CodingLaws.{count-lent, taken, back_long, part-read}
use Rattle.word_bytes.proofs.decode_first.Goals as goal

pub read_words-requires : goal.read_words-requires
read_words-requires c =
    let n = c.count_in-n in
    let fits : n.result ≤ length c.args.words.now = omega arith in
    rw (← taken n.result c.args.words.now fits, n.ensures) (count-lent c.args.most c.args.bytes.now)

pub returns : goal.returns
returns c =
    let n = c.count_in-n in
    let ws = c.args.words.now in
    let fits : n.result ≤ length ws = omega arith in
    let part : n.result ≡ length (take n.result ws) = taken n.result ws fits in
    record {
      inside = back_long _ ws c.read_words.new.words fits c.read_words.auto.words;
      lent = rw n.ensures (count-lent _ _);
      read = part-read _ _ _ _ _ _ n.ensures part c.read_words.auto.words c.read_words.ensures;
    }
