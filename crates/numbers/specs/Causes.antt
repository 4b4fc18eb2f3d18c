-- A refusal is the first cause that holds of a list in rising order; 0 is none.
use Rattle.std.specs.Prelude.{Bool, true, false, List, [], ◌∷◌, ℕ, zero, suc}

-- the cause n, unless the test holds
abbrev pub unless : Bool → ℕ → ℕ
unless true n = 0
unless false n = n

abbrev pub or_else : ℕ → ℕ → ℕ
or_else zero later = later
or_else (suc n) later = suc n

-- the first cause of a list that is not 0
abbrev pub first_of : List ℕ → ℕ
first_of [] = 0
first_of (c ∷ cs) = or_else c (first_of cs)

-- what a call leaves: the new value where no cause holds, else the old one
abbrev pub if_done {ℓ} : {A : Type ℓ} → ℕ → A → A → A
if_done zero new old = new
if_done (suc n) new old = old
