-- `apply::apply_late` meets its contract: a return that is late is the first frame's.
use mathlib.Core.Path.{◌≡◌}
use native.Mathlib.Omega.{arith}
use borrow.Author.Tests.{eq-eqb}
use Rattle.plan_meaning.specs.Settled.{apply_into, applied}
use Rattle.apply.proofs.apply_late.Goals as goal

pub returns-in-Return : goal.returns-in-Return
unfolding applied apply_into
returns-in-Return c f =
    let u : c.args.regs.frame ≡ 1 = grind (arith, c.requires.late, c.in-Return.is) in
    rw (c.in-Return.is, eq-eqb c.args.regs.frame 1 u) (c.finish.ensures _ _ _)
