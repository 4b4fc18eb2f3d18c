-- What a pass of a control makes of a book's words, and its counts.
-- Only the contracts of internal functions cite these; the laws tie them to rules/specs/Control.
use Rattle.std.specs.Prelude.{List, ℕ}
use Rattle.numbers.specs.Sums.{count}
use Rattle.rules.specs.Words.{entries, coefficient_of, tolerance_of, laid}
use Rattle.rules.specs.Control.{Parties, is_to_cancel, cancel_of, detected_parties}
use Rattle.control.specs.declared.passes.Passed.{Passed}

-- the words after a pass, and its counts
unfoldable pub cancelled_words : Parties → ℕ → List ℕ → List ℕ
cancelled_words who d ws = laid (coefficient_of ws) (tolerance_of ws) (cancel_of who d (entries ws)) ws

unfoldable pub pass_of : Parties → ℕ → List ℕ → Passed
pass_of who d ws = record { parties = detected_parties who; entries = count (is_to_cancel who d) (entries ws) }
