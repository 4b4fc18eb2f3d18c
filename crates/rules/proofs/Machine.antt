-- Lists of calls, refused ones included: one induction for any two machines. Assumes nothing.
use mathlib.Core.Path.{◌≡◌, refl, ap₂}
use mathlib.Core.List.{List, [], ◌∷◌}
use Prim.Native.Nat.{ℕ, zero, suc}
use Rattle.numbers.specs.Causes.{if_done}
use Rattle.rules.specs.Machine.{Machine, leaves_of, figures_of, after, answers}
use Rattle.rules.specs.Compared.{Each}

-- two calls on two machines agree: equal causes and, where none holds, equal figures and related states
pub record Agree {S S' C F : Type 0} (m : Machine S C F) (m' : Machine S' C F) (Rel : S → S' → Type 0) (s : S) (s' : S') (c d : C) : Type 0 where
  pub causes : m.cause s c ≡ m'.cause s' d
  pub figures : m.cause s c ≡ 0 → m.figures s c ≡ m'.figures s' d
  pub next : m.cause s c ≡ 0 → Rel (m.done s c) (m'.done s' d)

module _ {S S' C F : Type 0} (none : F) (m : Machine S C F) (m' : Machine S' C F) (Rel : S → S' → Type 0) (Alike : C → C → Type 0)
    (step : (s : S) (s' : S') (c d : C) → Rel s s' → Alike c d → Agree m m' Rel s s' c d) where
  done-alike : (c : ℕ) (f f' : F) → (c ≡ 0 → f ≡ f') → if_done c f none ≡ if_done c f' none
  done-alike zero f f' h = h refl
  done-alike (suc c) f f' h = refl

  done-related : (c : ℕ) (s t : S) (s' t' : S') → Rel s s' → (c ≡ 0 → Rel t t') → Rel (if_done c t s) (if_done c t' s')
  done-related zero s t s' t' r h = h refl
  done-related (suc c) s t s' t' r h = r

  same-figures : (s : S) (s' : S') (c d : C) → Rel s s' → Alike c d → figures_of none m s c ≡ figures_of none m' s' d
  unfolding figures_of
  same-figures s s' c d r a =
      let e = step s s' c d r a in
      rw (← e.causes) (done-alike (m.cause s c) (m.figures s c) (m'.figures s' d) e.figures)

  same-state : (s : S) (s' : S') (c d : C) → Rel s s' → Alike c d → Rel (leaves_of m s c) (leaves_of m' s' d)
  unfolding leaves_of
  same-state s s' c d r a =
      let e = step s s' c d r a in
      rw (← e.causes) (done-related (m.cause s c) s (m.done s c) s' (m'.done s' d) r e.next)

  pub same-answers : (cs ds : List C) → Each Alike cs ds → (s : S) (s' : S') → Rel s s' → answers none m s cs ≡ answers none m' s' ds
  unfolding answers
  same-answers [] [] each s s' r = refl
  same-answers [] (d ∷ ds) each s s' r = absurd each
  same-answers (c ∷ cs) [] each s s' r = absurd each
  same-answers (c ∷ cs) (d ∷ ds) each s s' r =
      ap₂ ◌∷◌
      (ap₂ (λ x y. record { cause = x; figures = y }) (step s s' c d r each.0).causes (same-figures s s' c d r each.0))
      (same-answers cs ds each.1 (leaves_of m s c) (leaves_of m' s' d) (same-state s s' c d r each.0))

  pub same-states : (cs ds : List C) → Each Alike cs ds → (s : S) (s' : S') → Rel s s' → Rel (after m s cs) (after m' s' ds)
  unfolding after
  same-states [] [] each s s' r = r
  same-states [] (d ∷ ds) each s s' r = absurd each
  same-states (c ∷ cs) [] each s s' r = absurd each
  same-states (c ∷ cs) (d ∷ ds) each s s' r =
      same-states cs ds each.1 (leaves_of m s c) (leaves_of m' s' d) (same-state s s' c d r each.0)
