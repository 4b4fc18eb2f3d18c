-- A balance that can be asked for: a book, a party and a day. Only the contracts of internal functions cite it.
use Rattle.std.specs.Prelude.{◌≡◌, true, List, ℕ, ◌≤◌}
use Rattle.rules.specs.Entry.{last_party, last_day}
use Rattle.rules.specs.Words.{is_book}

pub record Asked (ws : List ℕ) (p d : ℕ) : Type 0 where
  pub is-book : is_book ws ≡ true
  pub party-above : 1 ≤ p
  pub party : p ≤ last_party
  pub day : d ≤ last_day
