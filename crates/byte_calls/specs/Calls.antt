-- A call on the words of a book in bytes (01, 'Day file').
use Rattle.std.specs.Prelude.{◌≡◌, ℕ, ◌<◌, List, Result, length, get_or}
use Rattle.std.proofs.Common.{Bor, MutBor}
use Rattle.numbers.specs.Causes.{if_done}
use Rattle.rules.specs.Refusals.{answer_of}
use Rattle.rules.specs.declared.refusal.Refusal.{Refusal}
use Rattle.word_bytes.specs.Coding.{over_bytes}

-- a call may be made on any words, where it finds s lent
abbrev pub CanAsk : {S : Type 0} → (Bor (List ℕ) → MutBor S → Type 0) → S → Type 0
CanAsk {S} pre s = (shown : Bor (List ℕ)) (lent : MutBor S) → lent.now ≡ s → pre shown lent

-- a call may answer r on the words ws, where it finds s lent and leaves t there
pub record Asked {S R : Type 0} (returns : Bor (List ℕ) → MutBor S → R → MutBor S → Type 0) (ws : List ℕ) (s : S) (r : R) (t : S) : Type 0 where
  pub shown : Bor (List ℕ)
  pub shows : shown.now ≡ ws
  pub lent : MutBor S
  pub finds : lent.now ≡ s
  pub left : MutBor S
  pub met : returns shown lent r left
  pub leaves : left.now ≡ t

-- a call may answer r on the words ws and leave others, as many, which a done call lays over the first of the bytes bs
pub record Changed {A : Type 0} (returns : List ℕ → Result A Refusal → List ℕ → Type 0) (ws : List ℕ) (r : Result A Refusal) (bs after : List ℕ) : Type 0 where
  pub left : List ℕ
  pub long : length left ≡ length ws
  pub met : returns ws r left
  pub are-bytes : (i : ℕ) → get_or bs i 0 < 256
  pub written : after ≡ if_done (answer_of r) (over_bytes left bs) bs
