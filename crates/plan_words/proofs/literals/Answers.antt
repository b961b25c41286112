-- `plan_words::literals`: at each of the two codes the definition computes.
use mathlib.Core.Path.{◌≡◌}
use native.Mathlib.Omega.{arith}
use Rattle.model.specs.File.{codes, bodies, body_of, ins_of}
use Rattle.plan_meaning.specs.Planned.{basic_plan, plan_of, planned}
use Rattle.plan_words.proofs.literals.Goals as goal

pub bounds-file-at : goal.bounds-file-at
unfolding body_of bodies codes
bounds-file-at c = let b = rw c.in-54.is at c.requires.0 in omega (arith, b.inside)

pub operand4-requires : goal.operand4-requires
unfolding body_of bodies codes
operand4-requires c =
    let e : c.args.kind ≡ 56 = omega arith in
    let b = rw e at c.requires.0 in
    omega (arith, b.inside)

pub returns-in-54 : goal.returns-in-54
unfolding planned plan_of basic_plan ins_of body_of bodies codes
returns-in-54 c = λ m. rw (c.writes.ensures, c.in-54.is, c.signed_byte-word.ensures.is)

pub returns-in_default : goal.returns-in_default
unfolding planned plan_of basic_plan ins_of body_of bodies codes
returns-in_default c =
    λ m.
    let e : c.args.kind ≡ 56 = omega arith in
    rw (c.writes-in_default.ensures, e, c.operand4.ensures.is)
