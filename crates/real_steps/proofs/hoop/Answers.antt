-- `real_steps::hoop`: the point is the rule's; where both its reals are finite their words take the place of ten, else nothing is written.
use mathlib.Core.Path.{◌≡◌, ap, sym, ◌∙◌}
use Prim.Native.Nat.{◌+◌, ◌-◌}
use Rattle.model.specs.Reals.{scaled, shifted}
use Rattle.reals.specs.Given.{as_point}
use Rattle.real_steps.specs.Does.{real_at, point_at, moves-on, raises}
use Rattle.real_steps.specs.Done.{hoop-done, hoop-raises}
use Rattle.real_steps.proofs.hoop.Goals as goal
use Rattle.real_steps.proofs.hoop.Goals.{After-is_finite}

-- the point that is tested
point-is : (c : After-is_finite) →
    let l = c.args.main.now in
    let low = c.args.regs.mtop - 10 in
    as_point c.add-point.result ≡ shifted (point_at l (low + 4)) (scaled (real_at l (low + 8)) (point_at l low))
point-is c =
    c.add-point.ensures
    ∙ ap (shifted (as_point c.point_at-shift.result)) c.mul.ensures
    ∙ λ i. shifted (c.point_at-shift.ensures i) (scaled (c.real_at-scale.ensures i) (c.point_at.ensures i))

pub returns-then-not-is_finite : goal.returns-then-not-is_finite
returns-then-not-is_finite c =
    let t = sym c.is_finite.ensures ∙ c.if-not-is_finite.true in
    raises (hoop-raises _ _ _ c.requires.1 (as_point _) (point-is (goal.at.returns-then-not-is_finite c).After-is_finite) t)

pub returns : goal.returns
returns c =
    let t = sym c.is_finite.ensures ∙ c.if-not-is_finite.false in
    rw (c.goes_on.ensures, c.put_real-2.ensures, c.put_real.ensures, c.cut_to.ensures)
    (moves-on (hoop-done _ _ _ c.requires.1 (as_point _) (point-is (goal.at.returns c).After-is_finite) t))
