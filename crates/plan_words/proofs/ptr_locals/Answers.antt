-- `plan_words::ptr_locals`: at each of the two codes the definition computes; the frame's pointer base is read from its record.
use mathlib.Core.Path.{◌≡◌}
use native.Mathlib.Omega.{arith}
use Rattle.std.proofs.Common.{ap}
use Rattle.model.specs.Control.{Frame}
use Rattle.model.specs.File.{ins_of}
use Rattle.plan_meaning.specs.Planned.{basic_plan, plan_of, planned}
use Rattle.plan_words.proofs.ptr_locals.Goals as goal

pub returns-in-21 : goal.returns-in-21
unfolding planned plan_of basic_plan ins_of
returns-in-21 c = λ m. rw (c.writes.ensures, c.in-21.is, ap (λ (f : Frame). f.ptr_base) c.frame_of.ensures, c.operand.ensures.is)

pub returns-in_default : goal.returns-in_default
unfolding planned plan_of basic_plan ins_of
returns-in_default c =
    λ m.
    let e : c.args.kind ≡ 23 = omega arith in
    rw (c.writes-in_default.ensures, e, ap (λ (f : Frame). f.ptr_base) c.frame_of.ensures, c.operand.ensures.is)
