-- `plan_objects::ptr_fields`: at each of the two codes the definition computes; its tests of the object are the code's.
use mathlib.Core.Logic.{⊎_elim}
use mathlib.Core.Path.{◌≡◌, ◌∙◌, sym}
use native.Mathlib.Omega.{arith}
use borrow.Author.Tests.{eq-eqb, ne_eqb}
use Rattle.model.specs.File.{ins_of}
use Rattle.heap.specs.Stores.{in-ptrs}
use Rattle.plan_meaning.specs.Planned.{basic_plan, plan_of, planned}
use Rattle.plan_objects.proofs.ptr_fields.Goals as goal

pub returns-then-object-eq0 : goal.returns-then-object-eq0
unfolding planned plan_of basic_plan ins_of
returns-then-object-eq0 c =
    λ m.
    let z = eq-eqb _ 0 c.if-object-eq0.true in
    ⊎_elim (λ e. rw e (rw z)) (λ e. rw e (rw z)) c.requires.5

pub returns-then-not-in_ptrs : goal.returns-then-not-in_ptrs
unfolding planned plan_of basic_plan ins_of
returns-then-not-in_ptrs c =
    λ m.
    let n = ne_eqb _ 0 c.if-object-eq0.false in
    let s = sym c.operand-s.ensures.is in
    let t = sym c.in_ptrs.ensures ∙ c.if-not-in_ptrs.true in
    ⊎_elim (λ e. rw e (rw (n, s, t))) (λ e. rw e (rw (n, s, t))) c.requires.5

pub bounds-heap-slot : goal.bounds-heap-slot
bounds-heap-slot c = omega (arith, in-ptrs _ _ _ (sym c.in_ptrs.ensures ∙ c.if-not-in_ptrs.false))

pub returns-in-31 : goal.returns-in-31
unfolding planned plan_of basic_plan ins_of
returns-in-31 c =
    λ m.
    let t = sym c.in_ptrs.ensures ∙ c.if-not-in_ptrs.false in
    rw (c.writes.ensures, c.in-31.is, ne_eqb _ 0 c.if-object-eq0.false, ← c.operand-s.ensures.is, t)

pub returns-in_default : goal.returns-in_default
unfolding planned plan_of basic_plan ins_of
returns-in_default c =
    λ m.
    let e : c.args.kind ≡ 33 = omega arith in
    let t = sym c.in_ptrs.ensures ∙ c.if-not-in_ptrs.false in
    rw (c.writes-in_default.ensures, e, ne_eqb _ 0 c.if-object-eq0.false, ← c.operand-s.ensures.is, t)
