-- The invariant: what all the records come to is what those that are left come to.
use Rattle.std.proofs.Common.{arith}
use Rattle.audit_records.specs.Records.{the_look}
use Rattle.audit_state.specs.Descent.{lowest, read_none, read-end, read-on}
use Rattle.audit_state.proofs.records_right.Goals as goal

pub returns-in-Break : goal.returns-in-Break
unfolding lowest
returns-in-Break c =
    let a = c.args in
    read-end _ _ _ _ _ a.count _ (the_look a.top) (the_look c.loop-left.look) c.loop-left.invariant _ (omega arith) c.read_record.ensures _ c.in-Break.is

pub loop-left-preserved : goal.loop-left-preserved
loop-left-preserved c =
    let a = c.args in
    read-on _ _ _ _ _ a.count _ (the_look a.top) (the_look c.loop-left.look) c.loop-left.invariant _ (omega arith) c.read_record.ensures _ c.in-Continue.is

pub returns : goal.returns
unfolding lowest
returns c = let a = c.args in read_none _ _ _ _ _ a.count _ (the_look a.top) (the_look c.loop-left.look) c.loop-left.invariant (omega arith)
