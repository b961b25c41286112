-- `plan_flow::opens`: at each of the two codes by what the function called ensures.
use mathlib.Core.Path.{◌≡◌}
use native.Mathlib.Omega.{arith}
use Rattle.model.specs.Control.{set_main, set_ptr}
use Rattle.plan_flow.proofs.opens.Goals as goal

pub returns-in_default : goal.returns-in_default
returns-in_default c =
    λ m.
    let e : c.args.kind ≡ 160 = omega arith in
    rw e (c.enters.ensures _ (set_main _ (set_ptr _ m)))
