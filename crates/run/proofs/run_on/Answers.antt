-- `run::run_on` meets its contract: the steps pause at a plan that is settled apart, which is one step more; the rest of the run stays the same.
use mathlib.Core.Path.{◌≡◌, sym, ◌∙◌}
use mathlib.Core.List.{List}
use mathlib.Core.Logic.{⊎_elim}
use Prim.Native.Nat.{ℕ, ◌-◌, ◌<◌}
use native.Mathlib.Omega.{arith}
use borrow.Author.Tests.{not-true, not-false}
use Rattle.model.specs.Control.{Machine}
use Rattle.theory_step.specs.Settling.{alive-settles}
use Rattle.run_steps.specs.Going.{SameLengths, Going, Paused, alike-trans, paused-from}
use Rattle.run_steps.specs.declared.Pause.{Pause}
use Rattle.run_reals.specs.Reckoning.{Rests, rests-other, rests-from, paused-here}
use Rattle.run.specs.Endings.{run-finished, going-finished, paused-spent, paused-uncaught, paused-on}
use Rattle.run.proofs.run_on.Goals as goal
use Rattle.run.proofs.run_on.Goals.{After-step_with-out, Else-not-out, then-at_real, else-at_real}

-- a rest at what is equal
rests-at : {f table main main' ptr ptr' ctl ctl' heap heap' : List ℕ} {n : ℕ} {m : Machine} {a a' : Pause} →
    main ≡ main' → ptr ≡ ptr' → ctl ≡ ctl' → heap ≡ heap' → a ≡ a' →
    Rests f table n m a'.left (record { regs = a'.regs; main = main'; ptr = ptr'; ctl = ctl'; heap = heap' }) a'.plan →
    Rests f table n m a.left (record { regs = a.regs; main = main; ptr = ptr; ctl = ctl; heap = heap }) a.plan
rests-at e₁ e₂ e₃ e₄ e₅ R = rw (e₁, e₂, e₃, e₄, e₅) R

-- `step_with` keeps the lengths
kept_at : (c : After-step_with-out) →
    let L = c.loop-pause in
    let N = c.step_with-out.new in
    SameLengths (record { regs = c.step_with-out.result.regs; main = N.main; ptr = N.ptr; ctl = N.ctl; heap = N.heap })
    (record { regs = L.pause.regs; main = L.main; ptr = L.ptr; ctl = L.ctl; heap = L.heap })
kept_at c = let k = c.step_with-out.auto in record { main = k.main; ptr = k.ptr; ctl = k.ctl; heap = k.heap }

alike_at : (c : After-step_with-out) →
    let A = c.args in
    let N = c.step_with-out.new in
    SameLengths (record { regs = c.step_with-out.result.regs; main = N.main; ptr = N.ptr; ctl = N.ctl; heap = N.heap })
    (record { regs = A.regs; main = A.main.now; ptr = A.ptr.now; ctl = A.ctl.now; heap = A.heap.now })
alike_at c = alike-trans (kept_at c) c.loop-pause.invariant.paused.going.alike

-- behind the test of `on`: a step further than at the turn
on-at : (c : Else-not-out) →
    let A = c.args in
    let N = c.step_with-out.new in
    Going A.file.now A.table.now A.budget (record { regs = A.regs; main = A.main.now; ptr = A.ptr.now; ctl = A.ctl.now; heap = A.heap.now })
    (c.loop-pause.pause.left - 1) (record { regs = c.step_with-out.result.regs; main = N.main; ptr = N.ptr; ctl = N.ctl; heap = N.heap })
on-at c =
    let S = c.step_with-out in
    let k = S.auto in
    paused-on c.loop-pause.invariant.paused c.loop-pause-test.true S.result S.ensures (not-false _ c.if-not-out.false)
    (record { main = k.main; ptr = k.ptr; ctl = k.ctl; heap = k.heap })

pub returns-then-regs-eq1 : goal.returns-then-regs-eq1
returns-then-regs-eq1 c = rw c.answered.ensures (sym (run-finished _ _ c.if-regs-eq1.true))

pub go_on-pause-requires : goal.go_on-pause-requires
go_on-pause-requires c = (c.requires, c.if-regs-eq1.false)

pub go_on-pause-requires-then-at_real : goal.go_on-pause-requires-then-at_real
go_on-pause-requires-then-at_real c = paused-here c.go_on-pause.ensures

pub loop-pause-init : goal.loop-pause-init
loop-pause-init c =
    let P = c.go_on-pause.ensures in
    elim c.if-at_real.branch [
      | then-at_real w ↦ rests-at w.main-is w.ptr-is w.ctl-is w.heap-is w.pause-is (rests-from P.going w.go_on-pause-then-at_real.ensures)
      | else-at_real w ↦ rests-at w.main-is w.ptr-is w.ctl-is w.heap-is w.pause-is (rests-other P (sym w.if-at_real.false ∙ c.at_real.ensures))
    ]

pub overflow_sub-after : goal.overflow_sub-after
overflow_sub-after c = omega (arith, c.loop-pause-test.true)

pub step_with-out-requires : goal.step_with-out-requires
step_with-out-requires c =
    let R = c.loop-pause.invariant in
    let I = R.paused in
    let P = I.stopped c.loop-pause-test.true in
    (rw P.is (alive-settles I.going.runs.alive I.on?), P.late, R.raises c.loop-pause-test.true)

pub overflow_sub-done : goal.overflow_sub-done
overflow_sub-done c = omega (arith, c.loop-pause.invariant.paused.going.less)

pub shape_of-main-then-not-out : goal.shape_of-main-then-not-out
shape_of-main-then-not-out c = (alike_at (goal.at.shape_of-main-then-not-out c).After-step_with-out).main

pub shape_of-ptr-then-not-out : goal.shape_of-ptr-then-not-out
shape_of-ptr-then-not-out c = (alike_at (goal.at.shape_of-ptr-then-not-out c).After-step_with-out).ptr

pub shape_of-ctl-then-not-out : goal.shape_of-ctl-then-not-out
shape_of-ctl-then-not-out c = (alike_at (goal.at.shape_of-ctl-then-not-out c).After-step_with-out).ctl

pub shape_of-heap-then-not-out : goal.shape_of-heap-then-not-out
shape_of-heap-then-not-out c = (alike_at (goal.at.shape_of-heap-then-not-out c).After-step_with-out).heap

pub returns-then-not-out : goal.returns-then-not-out
returns-then-not-out c =
    let S = c.step_with-out in
    rw c.answered-then-not-out.ensures (paused-uncaught c.loop-pause.invariant.paused c.loop-pause-test.true S.result S.ensures (not-true _ c.if-not-out.true))

pub overflow_sub-done-then-out-eq1 : goal.overflow_sub-done-then-out-eq1
overflow_sub-done-then-out-eq1 c = omega (arith, c.loop-pause.invariant.paused.going.less)

pub shape_of-main-then-out-eq1 : goal.shape_of-main-then-out-eq1
shape_of-main-then-out-eq1 c = (alike_at (goal.at.shape_of-main-then-out-eq1 c).After-step_with-out).main

pub shape_of-ptr-then-out-eq1 : goal.shape_of-ptr-then-out-eq1
shape_of-ptr-then-out-eq1 c = (alike_at (goal.at.shape_of-ptr-then-out-eq1 c).After-step_with-out).ptr

pub shape_of-ctl-then-out-eq1 : goal.shape_of-ctl-then-out-eq1
shape_of-ctl-then-out-eq1 c = (alike_at (goal.at.shape_of-ctl-then-out-eq1 c).After-step_with-out).ctl

pub shape_of-heap-then-out-eq1 : goal.shape_of-heap-then-out-eq1
shape_of-heap-then-out-eq1 c = (alike_at (goal.at.shape_of-heap-then-out-eq1 c).After-step_with-out).heap

pub returns-then-out-eq1 : goal.returns-then-out-eq1
returns-then-out-eq1 c =
    rw c.answered-then-out-eq1.ensures (going-finished (on-at (goal.at.returns-then-out-eq1 c).Else-not-out) c.if-out-eq1.true)

pub go_on-pause-requires-in-loop-pause : goal.go_on-pause-requires-in-loop-pause
go_on-pause-requires-in-loop-pause c = ((on-at (goal.at.go_on-pause-requires-in-loop-pause c).Else-not-out).runs, c.if-out-eq1.false)

pub go_on-pause-requires-then-at_real-2 : goal.go_on-pause-requires-then-at_real-2
go_on-pause-requires-then-at_real-2 c = paused-here c.go_on-pause-in-loop-pause.ensures

pub loop-pause-smaller-then-at_real-2 : goal.loop-pause-smaller-then-at_real-2
loop-pause-smaller-then-at_real-2 c =
    omega (arith, c.go_on-pause-in-loop-pause.ensures.going.less, c.loop-pause-test.true, c.go_on-pause-then-at_real-2.ensures.paused.going.less)

pub loop-pause-preserved-then-at_real-2 : goal.loop-pause-preserved-then-at_real-2
loop-pause-preserved-then-at_real-2 c =
    let G = on-at (goal.at.loop-pause-preserved-then-at_real-2 c).Else-not-out in
    rests-from (paused-from G c.go_on-pause-in-loop-pause.ensures).going c.go_on-pause-then-at_real-2.ensures

pub loop-pause-smaller : goal.loop-pause-smaller
loop-pause-smaller c = omega (arith, c.go_on-pause-in-loop-pause.ensures.going.less, c.loop-pause-test.true)

pub loop-pause-preserved : goal.loop-pause-preserved
loop-pause-preserved c =
    let G = on-at (goal.at.loop-pause-preserved c).Else-not-out in
    rests-other (paused-from G c.go_on-pause-in-loop-pause.ensures) (sym c.if-at_real-2.false ∙ c.at_real-in-loop-pause.ensures)

pub shape_of-main : goal.shape_of-main
shape_of-main c = c.loop-pause.invariant.paused.going.alike.main

pub shape_of-ptr : goal.shape_of-ptr
shape_of-ptr c = c.loop-pause.invariant.paused.going.alike.ptr

pub shape_of-ctl : goal.shape_of-ctl
shape_of-ctl c = c.loop-pause.invariant.paused.going.alike.ctl

pub shape_of-heap : goal.shape_of-heap
shape_of-heap c = c.loop-pause.invariant.paused.going.alike.heap

pub returns : goal.returns
returns c = rw c.answered-2.ensures (paused-spent c.loop-pause.invariant.paused (omega (arith, c.loop-pause-test.false)))
