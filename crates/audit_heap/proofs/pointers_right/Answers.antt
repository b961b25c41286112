-- No pointer words, no fault. Else, the invariant: the first fault of all pointer words is that of the objects from `q` on. A turn takes
-- off one object, whose words `check_pointers` tested.
use native.Mathlib.Omega.{arith}
use Rattle.std.proofs.lemmas.Result.{err_from_is_err_and}
use Rattle.model.specs.Heap.{mark_of, Object}
use Rattle.audit_heap.specs.Turns.{pointing-nothing, pointing-none, pointing-bad, pointing-object, pointing-more, pointing-end}
use Rattle.audit_heap.proofs.pointers_right.Goals as goal
use Rattle.audit_heap.proofs.pointers_right.Goals.{In-loop-q}

pub returns-then-links-eq0 : goal.returns-then-links-eq0
returns-then-links-eq0 c = pointing-nothing _ _ _ c.requires.2 c.if-links-eq0.true

pub loop-q-init : goal.loop-q-init
loop-q-init c = pointing-none _ _ c.requires.0 c.requires.1

-- the object at the turn's place
object : (c : In-loop-q) →
    let h = c.args.heap.now in
    Object h c.loop-q.q (mark_of h)
object c = pointing-object _ _ _ c.loop-q.invariant c.loop-q-test.true

pub check_pointers-requires : goal.check_pointers-requires
check_pointers-requires c = omega (arith, object (goal.at.check_pointers-requires c).In-loop-q, c.ptrs_at.ensures.is)

pub returns-in_err-check_pointers : goal.returns-in_err-check_pointers
returns-in_err-check_pointers c =
    let p = err_from_is_err_and c.from_residual.result c.from_residual.ensures.1 in
    rw (p.1, p.2)
    (pointing-bad _ _ _ c.loop-q.invariant _ _ _ _ c.loop-q-test.true c.ptrs_at.ensures c.check_pointers.ensures c.in_err-check_pointers.was)

pub size_at-q-requires : goal.size_at-q-requires
size_at-q-requires c = omega (arith, object (goal.at.size_at-q-requires c).In-loop-q)

pub loop-q-smaller : goal.loop-q-smaller
loop-q-smaller c = omega (arith, object (goal.at.loop-q-smaller c).In-loop-q, c.size_at-q.ensures.is)

pub loop-q-preserved : goal.loop-q-preserved
loop-q-preserved c =
    pointing-more _ _ _ c.loop-q.invariant _ _ _ _ _ c.loop-q-test.true
    c.ptrs_at.ensures c.check_pointers.ensures c.in_ok-check_pointers.was c.size_at-q.ensures

pub returns : goal.returns
returns c = pointing-end _ _ _ c.loop-q.invariant c.loop-q-test.false
