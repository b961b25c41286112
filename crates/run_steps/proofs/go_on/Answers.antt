-- `run_steps::go_on` meets its contract: each turn is one step of the model, done without a loop; soundness, kept by each step, gives what the plan and its writes ask.
use mathlib.Core.Bool.{true}
use mathlib.Core.Path.{◌≡◌, refl, sym, ◌∙◌}
use Rattle.std.specs.Prelude.{Option, Some, None, is_some, unwrap_or, IfSome}
use Rattle.model.specs.declared.Regs.{Regs}
use Rattle.theory_step.specs.Planning.{alive-ready}
use Rattle.theory_step.specs.Settling.{alive-settles}
use Rattle.run_steps.specs.Going.{going-applied}
use Rattle.run_steps.proofs.go_on.Goals as goal

-- the registers given, or else those from before, are of the same state
state-of : (o : Option Regs) (r : Regs) → IfSome o (λ x. x.state ≡ r.state) → (unwrap_or o r).state ≡ r.state
state-of None r e = refl
state-of (Some x) r e = e

pub plan_at-plan-requires : goal.plan_at-plan-requires
plan_at-plan-requires c = let I = c.loop-left.invariant in alive-ready I.0.runs.alive I.1

pub apply-tried-requires : goal.apply-tried-requires
apply-tried-requires c =
    let I = c.loop-left.invariant in
    (alive-settles I.0.runs.alive I.1).writes _ (sym c.plan_at-plan.ensures ∙ c.in-Write.is)

pub loop-left-preserved : goal.loop-left-preserved
loop-left-preserved c =
    let I = c.loop-left.invariant in
    let E = c.apply-tried.ensures in
    let k = c.apply-tried.auto in
    let s : is_some c.apply-tried.result ≡ true = c.if-is_none.ensures in (
      going-applied I.0 I.1 (sym c.in-Write.is ∙ c.plan_at-plan.ensures) c.loop-left-test.true (rw c.unwrap_or-r.ensures (rw s at E.state))
          (record { main = k.main; ptr = k.ptr; ctl = k.ctl; heap = k.heap }),
      λ u. I.1 (sym (rw c.unwrap_or-r.ensures (state-of _ _ E.running)) ∙ u),
    )
