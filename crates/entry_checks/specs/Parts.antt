-- A part of the tests of `rules` that a function of the code makes by itself.
use Rattle.std.specs.Prelude.{cond, ℕ, eqb}
use Rattle.rules.specs.Entry.{last_party, bilateral}

-- the largest counterparty of a type
abbrev pub counterparty_limit : ℕ → ℕ
counterparty_limit t = cond (eqb t bilateral) last_party 0
