-- The invariant: what all the records come to is what those that are left come to.
use Rattle.std.proofs.Common.{◌≡◌, length}
use Rattle.audit_records.specs.Records.{the_look}
use Rattle.audit_state.specs.Descent.{lowest}
use Rattle.audit_state.proofs.records_right.Given as goal

abbrev pub invariant-loop-left : goal.invariant-loop-left
invariant-loop-left l =
    let f = l.audited.passed.file.now in
    let map = l.audited.passed.map.now in
    let lm = length l.audited.main.now in
    let lp = length l.audited.ptr.now in
    lowest f map lm lp l.audited.ctl.now l.count (the_look l.fn.top) ≡ lowest f map lm lp l.audited.ctl.now l.left (the_look l.look)
