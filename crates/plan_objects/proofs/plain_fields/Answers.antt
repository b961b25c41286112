-- `plan_objects::plain_fields`: at each of the two codes the definition computes; its test of the object is the code's.
use mathlib.Core.Logic.{⊎_elim}
use mathlib.Core.Path.{◌≡◌, ◌∙◌, sym}
use native.Mathlib.Omega.{arith}
use borrow.Author.Tests.{eq-eqb, ne_eqb}
use Rattle.model.specs.File.{ins_of}
use Rattle.heap.specs.Stores.{in-plain}
use Rattle.plan_meaning.specs.Planned.{basic_plan, plan_of, planned}
use Rattle.plan_objects.proofs.plain_fields.Goals as goal

pub returns-then-object-eq0 : goal.returns-then-object-eq0
unfolding planned plan_of basic_plan ins_of
returns-then-object-eq0 c =
    λ m.
    let z = eq-eqb _ 0 c.if-object-eq0.true in
    ⊎_elim (λ e. rw e (rw z)) (λ e. rw e (rw z)) c.requires.6

pub bounds-heap-at : goal.bounds-heap-at
bounds-heap-at c = omega (arith, in-plain _ _ _ (sym c.in_plain.ensures ∙ c.if-not-in_plain.false))

pub returns-then-not-in_plain : goal.returns-then-not-in_plain
unfolding planned plan_of basic_plan ins_of
returns-then-not-in_plain c =
    λ m.
    let t = sym c.in_plain.ensures ∙ c.if-not-in_plain.true in
    rw (c.in-30.is, ne_eqb _ 0 c.if-object-eq0.false, ← c.operand-s.ensures.is, t)

pub returns-then-not-may_set_plain : goal.returns-then-not-may_set_plain
unfolding planned plan_of basic_plan ins_of
returns-then-not-may_set_plain c =
    λ m.
    let e : c.args.kind ≡ 32 = omega arith in
    let t = sym c.may_set_plain.ensures ∙ c.if-not-may_set_plain.true in
    rw (e, ne_eqb _ 0 c.if-object-eq0.false, ← c.operand-s.ensures.is, t)

pub returns-else-not-in_plain : goal.returns-else-not-in_plain
unfolding planned plan_of basic_plan ins_of
returns-else-not-in_plain c =
    λ m.
    let t = sym c.in_plain.ensures ∙ c.if-not-in_plain.false in
    rw (c.writes.ensures, c.in-30.is, ne_eqb _ 0 c.if-object-eq0.false, ← c.operand-s.ensures.is, t)

pub returns-else-not-may_set_plain : goal.returns-else-not-may_set_plain
unfolding planned plan_of basic_plan ins_of
returns-else-not-may_set_plain c =
    λ m.
    let e : c.args.kind ≡ 32 = omega arith in
    let t = sym c.may_set_plain.ensures ∙ c.if-not-may_set_plain.false in
    rw (c.writes-in_default.ensures, e, ne_eqb _ 0 c.if-object-eq0.false, ← c.operand-s.ensures.is, t)
