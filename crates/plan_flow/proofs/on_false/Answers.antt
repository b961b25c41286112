-- `plan_flow::on_false`: at each of the two codes the definition computes, but for its test of the word, which the code makes too.
use mathlib.Core.Logic.{⊎_elim}
use mathlib.Core.Path.{◌≡◌}
use native.Mathlib.Omega.{arith}
use Rattle.model.specs.File.{ins_of}
use Rattle.plan_meaning.specs.Planned.{plan_of, planned}
use Rattle.plan_flow.specs.Given.{is_true, is_false}
use Rattle.plan_flow.proofs.on_false.Goals as goal

pub returns-then-main-top-ne0 : goal.returns-then-main-top-ne0
unfolding planned plan_of ins_of
returns-then-main-top-ne0 c =
    λ m.
    let t = is_true _ c.if-main-top-ne0.true in
    rw c.writes.ensures (⊎_elim (λ e. rw e (rw t)) (λ e. rw e (rw t)) c.requires.3)

pub returns-in-2 : goal.returns-in-2
unfolding planned plan_of ins_of
returns-in-2 c = λ m. rw (c.writes-in-2.ensures, c.in-2.is, is_false _ c.if-main-top-ne0.false, c.forwards-target.ensures.is)

pub returns-in_default : goal.returns-in_default
unfolding planned plan_of ins_of
returns-in_default c =
    λ m.
    let e : c.args.kind ≡ 5 = omega arith in
    rw (c.writes-in_default.ensures, e, is_false _ c.if-main-top-ne0.false, c.forwards-target.ensures.is)
