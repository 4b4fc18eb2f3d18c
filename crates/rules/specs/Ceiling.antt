-- The sales ceiling (01, 'Sales ceiling').
use Rattle.std.specs.Prelude.{Bool, cond, [], ◌∷◌, ℕ, ◌+◌, ◌*◌, max, leb}
use Rattle.numbers.specs.Tests.{every}
use Rattle.numbers.specs.Causes.{unless, first_of, if_done}
use Rattle.rules.specs.Refusals.{bad_figure}
use Rattle.rules.specs.Entry.{most_volume}
use Rattle.rules.specs.declared.CeilingAnswer.{CeilingAnswer}

-- offer O, net bilateral purchase N, net futures position F (01 writes V) and capacity G: 2 × O is at most (larger of 50,000 and 3 × (N + F)) + 2 × G
unfoldable pub is_recordable : ℕ → ℕ → ℕ → ℕ → Bool
is_recordable O N F G = leb (2 * O) (max 50000 (3 * (N + F)) + 2 * G)

unfoldable pub ceiling_cause : ℕ → ℕ → ℕ → ℕ → ℕ
ceiling_cause O N F G =
    first_of (unless (every (leb O most_volume ∷ leb N most_volume ∷ leb F most_volume ∷ leb G most_volume ∷ [])) bad_figure ∷ [])

unfoldable pub ceiling_answer : ℕ → ℕ → ℕ → ℕ → CeilingAnswer
ceiling_answer O N F G =
    record { answer = ceiling_cause O N F G; recordable = if_done (ceiling_cause O N F G) (cond (is_recordable O N F G) 1 0) 0 }
