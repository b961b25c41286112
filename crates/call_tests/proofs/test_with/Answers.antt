-- `call_tests::test_with` meets its contract: what start tests too decides, or else the audit of the state.
use native.Mathlib.Omega.{arith}
use Rattle.std.proofs.lemmas.Result.{err_from_is_err_and}
use Rattle.model.specs.Calls.{Lent, belong_tests}
use Rattle.call_tests.specs.Admit.{AdmittedMarks}
use Rattle.call_tests.specs.Tested.{test-refused, test-ready, test-lengths, test-sound, test-unsound}
use Rattle.call_tests.proofs.test_with.Goals as goal
use Rattle.call_tests.proofs.test_with.Goals.{After-admit_with}

-- what the tests found that start has too, with run's own for 13
found_at : (c : After-admit_with) →
    let A = c.args in
    let l : Lent = record { file = A.file.now; map = A.map.now; main = A.main.now; ptr = A.ptr.now; ctl = A.ctl.now; heap = A.heap.now; bytes = A.bytes.now } in
    let C = c.admit_with in
    AdmittedMarks (belong_tests l) l C.new.map C.new.table C.new.marks C.result
found_at c =
    let A = c.args in
    let l : Lent = record { file = A.file.now; map = A.map.now; main = A.main.now; ptr = A.ptr.now; ctl = A.ctl.now; heap = A.heap.now; bytes = A.bytes.now } in
    c.admit_with.ensures (belong_tests l) l.bytes c.requires.1

pub returns-in_err-procedures : goal.returns-in_err-procedures
returns-in_err-procedures c =
    let p = err_from_is_err_and c.from_residual.result c.from_residual.ensures.1 in
    rw (p.1, p.2) (test-refused (found_at (goal.at.returns-in_err-procedures c).After-admit_with) c.in_err-procedures.was)

pub regs_from-regs-requires : goal.regs_from-regs-requires
regs_from-regs-requires c =
    ((found_at (goal.at.regs_from-regs-requires c).After-admit_with).found.shown _ c.in_ok-procedures.was).its.0

pub invariant_of-passed : goal.invariant_of-passed
invariant_of-passed c = record {
  ready = test-ready (found_at (goal.at.invariant_of-passed c).After-admit_with) c.in_ok-procedures.was (λ i. omega (arith, c.type_inv.file i));
}

pub invariant_of-audited : goal.invariant_of-audited
invariant_of-audited c =
    let w = test-lengths (found_at (goal.at.invariant_of-audited c).After-admit_with) c.in_ok-procedures.was in
    record { main_fits = w.0; ptr_fits = w.1 }

pub returns-then-sound_state : goal.returns-then-sound_state
returns-then-sound_state c =
    test-sound (found_at (goal.at.returns-then-sound_state c).After-admit_with) c.in_ok-procedures.was c.regs_from-regs.ensures.0 c.sound_state.ensures c.if-sound_state.true

pub returns-else-sound_state : goal.returns-else-sound_state
returns-else-sound_state c =
    rw c.at.ensures
    (test-unsound (found_at (goal.at.returns-else-sound_state c).After-admit_with) c.in_ok-procedures.was c.regs_from-regs.ensures.0 c.sound_state.ensures c.if-sound_state.false)
