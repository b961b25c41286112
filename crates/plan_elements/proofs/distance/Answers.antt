-- Below the bound, past the last element, or at an element.
use Rattle.plan_elements.specs.Sought.{in-under, in-past, in-found}
use Rattle.std.proofs.Common.{sym, ◌∙◌}
use Rattle.plan_elements.proofs.distance.Goals as goal

pub returns-then-under-clause-place : goal.returns-then-under-clause-place
returns-then-under-clause-place c = λ first. in-under first _ _ (sym c.under.ensures ∙ c.if-under.true)

pub returns-then-elements-far-clause-place : goal.returns-then-elements-far-clause-place
returns-then-elements-far-clause-place c = λ first. in-past first _ _ c.distance-far.ensures c.if-elements-far.true

pub returns-clause-place : goal.returns-clause-place
returns-clause-place c = λ first. in-found first _ _ c.distance-far.ensures c.if-elements-far.false
