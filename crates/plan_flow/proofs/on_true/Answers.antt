-- `plan_flow::on_true`: at each of the two codes the definition computes, but for its test of the word, which the code makes too.
use mathlib.Core.Logic.{⊎_elim}
use mathlib.Core.Path.{◌≡◌}
use native.Mathlib.Omega.{arith}
use Rattle.model.specs.File.{ins_of}
use Rattle.plan_meaning.specs.Planned.{plan_of, planned}
use Rattle.plan_flow.specs.Given.{is_true, is_false}
use Rattle.plan_flow.proofs.on_true.Goals as goal

pub returns-then-main-top-eq0 : goal.returns-then-main-top-eq0
unfolding planned plan_of ins_of
returns-then-main-top-eq0 c =
    λ m.
    let t = is_false _ c.if-main-top-eq0.true in
    rw c.writes.ensures (⊎_elim (λ e. rw e (rw t)) (λ e. rw e (rw t)) c.requires.3)

pub returns-in-4 : goal.returns-in-4
unfolding planned plan_of ins_of
returns-in-4 c = λ m. rw (c.writes-in-4.ensures, c.in-4.is, is_true _ c.if-main-top-eq0.false, c.backwards-target.ensures.is)

pub returns-in_default : goal.returns-in_default
unfolding planned plan_of ins_of
returns-in_default c =
    λ m.
    let e : c.args.kind ≡ 6 = omega arith in
    rw (c.writes-in_default.ensures, e, is_true _ c.if-main-top-eq0.false, c.forwards-target.ensures.is)
