-- `call_tests::admit_with` meets its contract: each refusal is the model's, and where there is none the tests' facts hold.
use mathlib.Core.List.{List}
use Prim.Native.Nat.{ℕ}
use Rattle.std.proofs.lemmas.Result.{err_from_is_err_and}
use Rattle.model.specs.Choice.{Test}
use Rattle.call_tests.specs.Admit.{Asks, err-ok, first-whole, Measured, measured, admit-refused, admit-passes, admit-foreign, admit-lengths, admit-heap, admit-all}
use Rattle.call_tests.proofs.admit_with.Goals as goal
use Rattle.call_tests.proofs.admit_with.Goals.{After-lengths_right}

pub returns-in_err-procedures : goal.returns-in_err-procedures
returns-in_err-procedures c =
    let p = err_from_is_err_and c.from_residual.result c.from_residual.ensures.1 in
    λ ts bytes asks. rw (p.1, p.2) (admit-refused c.in_err-procedures.ensures (λ k e. err-ok _ k e))

pub returns-then-not-its : goal.returns-then-not-its
returns-then-not-its c =
    λ ts bytes asks. rw c.at.ensures (admit-foreign c.check_with.ensures c.in_ok-procedures.was asks (cc))

pub head_at-head-requires : goal.head_at-head-requires
head_at-head-requires c =
    (first-whole _ _ _ (admit-passes c.check_with.ensures c.in_ok-procedures.was)).1

-- what is known behind the test of the lengths
measured-at : (c : After-lengths_right) →
    let A = c.args in
    let C = c.check_with in
    (ts : List Test) (bytes : List ℕ) → Asks ts c.args.file.now c.args.its →
    Measured ts (record { file = A.file.now; map = A.map.now; main = A.main.now; ptr = A.ptr.now; ctl = A.ctl.now; heap = A.heap.now; bytes = bytes })
    C.new.map C.new.table c.in_ok-procedures.procedures c.lengths_right.result
measured-at c ts bytes asks =
    measured c.check_with.ensures c.in_ok-procedures.was asks (cc) c.head_at-head.ensures c.lengths_right.ensures

pub returns-then-not-lengths_right : goal.returns-then-not-lengths_right
returns-then-not-lengths_right c =
    λ ts bytes asks.
    rw c.at-then-not-lengths_right.ensures
    (admit-lengths (measured-at (goal.at.returns-then-not-lengths_right c).After-lengths_right ts bytes asks) (cc))

pub returns-in_err-audit_heap : goal.returns-in_err-audit_heap
returns-in_err-audit_heap c =
    let r = c.from_residual-in_err-audit_heap in
    let p = err_from_is_err_and r.result r.ensures.1 in
    λ ts bytes asks.
    rw (p.1, p.2)
    (admit-heap (measured-at (goal.at.returns-in_err-audit_heap c).After-lengths_right ts bytes asks) (cc) c.audit_heap.ensures c.in_err-audit_heap.was)

pub returns : goal.returns
returns c =
    λ ts bytes asks. admit-all (measured-at (goal.at.returns c).After-lengths_right ts bytes asks) (cc) c.audit_heap.ensures c.in_ok-audit_heap.was
