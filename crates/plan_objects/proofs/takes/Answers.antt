-- `plan_objects::takes`: at each of the four codes by what the function called ensures.
use mathlib.Core.Path.{◌≡◌}
use native.Mathlib.Omega.{arith}
use Rattle.model.specs.Control.{set_main, set_ptr, set_heap}
use Rattle.plan_objects.proofs.takes.Goals as goal

pub returns-in-36 : goal.returns-in-36
returns-in-36 c = λ m. rw c.in-36.is (c.forms.ensures (set_main _ (set_ptr _ m)))

pub returns-in-60 : goal.returns-in-60
returns-in-60 c = λ m. rw c.in-60.is (c.retracts.ensures (set_heap _ m))

pub returns-in-62 : goal.returns-in-62
returns-in-62 c = λ m. rw c.in-62.is (c.retracts-in-62.ensures (set_heap _ m))

pub returns-in_default : goal.returns-in_default
returns-in_default c =
    λ m.
    let e : c.args.kind ≡ 64 = omega arith in
    rw e (c.retracts-in_default.ensures (set_heap _ m))
