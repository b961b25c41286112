-- `calls::run` meets its contract: refusals write the map alone; what is let through is sound, so that the run is the model's.
use native.Mathlib.Omega.{arith}
use Rattle.calls.specs.Runs.{run-refused, run-runs, run_ran}
use Rattle.calls.proofs.run.Goals as goal

pub run_on-ended-requires : goal.run_on-ended-requires
run_on-ended-requires c =
    run-runs _ c.test_for_run.new.map c.test_for_run.new.table
    c.test_for_run.result c.test_for_run.ensures c.args.budget _
    c.in-Ok.is (λ i. omega (arith, c.type_inv.file i))

pub put_regs-requires : goal.put_regs-requires
put_regs-requires c =
    (c.test_for_run.ensures.through _ c.in-Ok.is).shown.its.0

pub returns-in-Err : goal.returns-in-Err
returns-in-Err c =
    rw c.from.ensures
    (run-refused _ c.test_for_run.new.map c.test_for_run.new.table
    c.test_for_run.result c.test_for_run.ensures c.args.budget _
    c.in-Err.is)

pub returns-in-Ok : goal.returns-in-Ok
returns-in-Ok c =
    run_ran _ c.test_for_run.new.map c.test_for_run.new.table
    c.test_for_run.result c.test_for_run.ensures c.args.budget _
    c.in-Ok.is c.run_on-ended.result.answer _ _ c.run_on-ended.ensures c.put_regs.ensures
