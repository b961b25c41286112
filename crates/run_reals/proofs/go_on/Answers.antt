-- `run_reals::go_on` meets its contract: instructions on reals and the steps between them are steps of the run; it ends where neither goes on.
use native.Mathlib.Omega.{arith}
use borrow.Author.Tests.{not-true}
use mathlib.Core.Path.{sym, ◌∙◌}
use Rattle.plan.specs.Arms.{place-small}
use Rattle.theory_step.specs.Planning.{alive-ready}
use Rattle.run_steps.specs.Going.{paused-from}
use Rattle.run_reals.specs.Reckoning.{real-paused, going-past, on-past, rests-raised}
use Rattle.run_reals.proofs.go_on.Goals as goal

pub reckon-past-requires : goal.reckon-past-requires
reckon-past-requires c =
    let P = c.loop-at.invariant in
    let some = c.loop-at-test.true in
    (real-paused P.going.runs P.on? (sym c.in-Real.is ∙ (P.stopped some).is), some)

pub overflow_add-behind : goal.overflow_add-behind
overflow_add-behind c =
    let P = c.loop-at.invariant in
    let K = c.reckon-past.ensures in
    omega (arith, place-small (alive-ready (going-past P K).runs.alive (on-past P K)))

pub returns-then-not-past : goal.returns-then-not-past
returns-then-not-past c =
    rests-raised c.loop-at.invariant c.reckon-past.ensures (not-true _ c.if-not-past.true)

pub go_on-at-requires : goal.go_on-at-requires
go_on-at-requires c =
    let P = c.loop-at.invariant in
    let K = c.reckon-past.ensures in
    ((going-past P K).runs, on-past P K)

pub loop-at-preserved : goal.loop-at-preserved
loop-at-preserved c =
    paused-from (going-past c.loop-at.invariant c.reckon-past.ensures) c.go_on-at.ensures
