-- `real_steps::operation`: the result is the rule's; where it is finite its words take the place of four, else nothing is written.
use native.Mathlib.Omega.{arith}
use mathlib.Core.Path.{sym, ◌∙◌}
use Rattle.reals.proofs.Finite.{finite-is}
use Rattle.real_steps.specs.Does.{moves-on, raises}
use Rattle.real_steps.specs.Done.{operation-done, operation-raises}
use Rattle.real_steps.proofs.operation.Goals as goal

pub returns-then-not-is_finite : goal.returns-then-not-is_finite
returns-then-not-is_finite c =
    let O = c.operate-x.ensures in
    let t = finite-is _ ∙ sym c.is_finite.ensures.value ∙ c.if-not-is_finite.true in
    λ f p. rw (O.code f p) (raises (operation-raises _ _ _ c.requires.1 O.op _ (O.is ∙ rw (c.real_at.ensures, c.real_at-2.ensures)) t))

pub put_real-requires : goal.put_real-requires
put_real-requires c =
    (finite-is _ ∙ sym c.is_finite.ensures.value ∙ c.if-not-is_finite.false, omega (arith, c.cut_to.auto, c.requires.0.fits, c.requires.1))

pub returns : goal.returns
returns c =
    let O = c.operate-x.ensures in
    let t = finite-is _ ∙ sym c.is_finite.ensures.value ∙ c.if-not-is_finite.false in
    rw (c.goes_on.ensures, c.put_real.ensures, c.cut_to.ensures)
    (λ f p. rw (O.code f p) (moves-on (operation-done _ _ _ c.requires.1 O.op _ (O.is ∙ rw (c.real_at.ensures, c.real_at-2.ensures)) t)))
