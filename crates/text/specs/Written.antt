-- Text put into lent bytes, after what is written there.
use Rattle.std.specs.Prelude.{◌≡◌, List, ℕ}
use Rattle.std.specs.Borrow.{MutBor}
use Rattle.text.specs.declared.Out.{Out}
use Rattle.text.specs.Text.{Wrote}

-- nothing is written in the bytes that are lent
pub record Starts (bytes : MutBor (List ℕ)) (out : Out) : Type 0 where
  pub lent : out.bytes.ghost_name ≡ bytes.ghost_name
  pub same : out.bytes.now ≡ bytes.now
  pub start : out.at ≡ 0

-- a text is put after what was written; the bytes lent are the same ones
pub record Puts (old : Out) (text : List ℕ) (new : Out) : Type 0 where
  pub lent : new.bytes.ghost_name ≡ old.bytes.ghost_name
  pub wrote : Wrote old.bytes.now old.at text new.at new.bytes.now
