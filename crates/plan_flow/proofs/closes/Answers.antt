-- `plan_flow::closes`: at each of the two codes by what the function called ensures.
use mathlib.Core.Path.{◌≡◌}
use native.Mathlib.Omega.{arith}
use Rattle.model.specs.Control.{set_ctl}
use Rattle.plan_flow.proofs.closes.Goals as goal

pub returns-in_default : goal.returns-in_default
returns-in_default c =
    λ f m.
    let e : c.args.kind ≡ 161 = omega arith in
    rw e (c.exits.ensures f (set_ctl _ m))
