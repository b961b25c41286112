-- The invariant: the objects before `q` are marked and their pointer words counted, and the walk from word 2 is theirs and then the walk
-- from `q`. A turn takes one step of the walk; an object has at least two words, so the rest falls.
use mathlib.Core.Path.{refl, ◌∙◌}
use mathlib.Core.Bool.{true}
use native.Mathlib.Omega.{arith}
use lib.ListN.{length-set}
use Rattle.std.proofs.lemmas.Result.{err_from_is_err_and}
use Rattle.model.specs.Heap.{mark_of, Object}
use Rattle.audit_heap.specs.Turns.{marking-none}
use Rattle.audit_heap.proofs.Marking.{marking-fault, marking-object, marking-more, marking-end}
use Rattle.audit_heap.proofs.mark_objects.Goals as goal
use Rattle.audit_heap.proofs.mark_objects.Goals.{In_ok-judge_object}

pub loop-q-init : goal.loop-q-init
loop-q-init c = (refl, marking-none _ _ c.requires.0 c.requires.1 c.requires.2)

pub returns-in_err-judge_object : goal.returns-in_err-judge_object
returns-in_err-judge_object c =
    let p = err_from_is_err_and c.from_residual.result c.from_residual.ensures.1 in
    rw (p.1, p.2)
    (marking-fault _ _ _ _ c.loop-q.invariant.1 _ _ _ c.loop-q-test.true c.judge_object.ensures c.in_err-judge_object.was)

object : (c : In_ok-judge_object) →
    let h = c.args.heap.now in
    Object h c.loop-q.q (mark_of h)
object c = marking-object _ _ _ _ c.loop-q.invariant.1 _ c.judge_object.ensures c.in_ok-judge_object.was

pub size_at-q-requires : goal.size_at-q-requires
size_at-q-requires c = omega (arith, object (goal.at.size_at-q-requires c).In_ok-judge_object)

pub loop-q-smaller : goal.loop-q-smaller
loop-q-smaller c = omega (arith, object (goal.at.loop-q-smaller c).In_ok-judge_object, c.size_at-q.ensures.is)

pub loop-q-preserved : goal.loop-q-preserved
loop-q-preserved c =
    let l = c.loop-q in (
      length-set l.marks l.q true ∙ l.invariant.0,
      marking-more _ _ _ _ l.invariant.1 _ _ _ _ _ c.requires.0
          c.loop-q-test.true c.judge_object.ensures c.in_ok-judge_object.was c.ptrs_at-links.ensures c.size_at-q.ensures,
    )

pub returns : goal.returns
returns c = marking-end _ _ _ _ c.loop-q.invariant.1 c.loop-q-test.false
