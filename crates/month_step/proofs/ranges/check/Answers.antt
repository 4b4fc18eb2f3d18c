use mathlib.Core.Path.{◌≡◌, refl, sym, ◌∙◌}
use mathlib.Core.Bool.{Bool, true, false, ◌&&◌}
use borrow.Author.Rules.{rules}
use Rattle.numbers.specs.Causes.{unless}
use Rattle.rules.specs.Refusals.{bad_figure}
use Rattle.rules.specs.Month.{volume_ok, month_cause}
use Rattle.month_step.specs.Ranges.{agree, price_ok}
use Rattle.month_step.specs.Read.{read}
use Rattle.month_step.proofs.RangeLaws.{lengths-refused, tests-decide}
use Rattle.month_step.proofs.ranges.check.Given.{Over}
use Rattle.month_step.proofs.ranges.check.Goals as goal
use Rattle.month_step.proofs.ranges.check.Goals.{After-lengths_agree, After-each-3}

-- the test of the lengths
lengths : (g : Over) (c : After-lengths_agree g) → agree (read g.P.Figures.figures g.V.Figures.figures c.args.m.now) ≡ c.lengths_agree.result
lengths g c = sym (rw (c.count.ensures, c.count-2.ensures, c.count-3.ensures) at c.lengths_agree.ensures)

-- with places in range, the tests of the figures decide
decided : (g : Over) (c : After-each-3 g) (t : Bool) → c.each.result && c.each-2.result && c.each-3.result ≡ t →
    unless t bad_figure ≡ month_cause (read g.P.Figures.figures g.V.Figures.figures c.args.m.now)
decided g c t e =
    tests-decide _ (lengths g (goal.at.After-each-3 g c).After-lengths_agree ∙ c.if-not-lengths_agree.false) _ _ _ _
    c.places_ok.ensures
    (c.each.ensures price_ok (λ x answer post. search rules))
    (c.each-2.ensures volume_ok (λ x answer post. search rules))
    (c.each-3.ensures volume_ok (λ x answer post. search rules))
    t
    (rw c.if-not-places_ok.false e)

pub returns-then-not-lengths_agree : goal.returns-then-not-lengths_agree
returns-then-not-lengths_agree g c =
    lengths-refused _ (lengths g (goal.at.returns-then-not-lengths_agree g c).After-lengths_agree ∙ c.if-not-lengths_agree.true)

pub returns-then-not-places_ok : goal.returns-then-not-places_ok
returns-then-not-places_ok g c =
    tests-decide _ (lengths g (goal.at.returns-then-not-places_ok g c).After-lengths_agree ∙ c.if-not-lengths_agree.false) _ _ _ _
    c.places_ok.ensures refl refl refl false (rw c.if-not-places_ok.true refl)

pub returns-then-not-each : goal.returns-then-not-each
returns-then-not-each g c = decided g (goal.at.returns-then-not-each g c).After-each-3 false c.if-not-each.true

pub returns : goal.returns
returns g c = decided g (goal.at.returns g c).After-each-3 true c.if-not-each.false
