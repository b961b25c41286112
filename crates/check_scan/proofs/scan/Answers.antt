-- `check_scan::scan` meets its contract: what is still to be scanned decides what all the records come to; a record that the file's end cuts
-- short is the last, and decides by itself.
use mathlib.Core.Path.{refl}
use native.Mathlib.Omega.{arith}
use Rattle.check_scan.specs.Scanning.{RecordAt, behind-first, scanned-end, head-body, scan-unknown, scan-short, scan-mark, scan-head, scanned-other}
use Rattle.check_scan.proofs.scan.Goals as goal
use Rattle.check_scan.proofs.scan.Goals.{After-body-b}

pub returns-then-file : goal.returns-then-file
returns-then-file c = rw c.at.ensures (scanned-other _ _ _ c.if-file.true)

pub loop-p-init : goal.loop-p-init
loop-p-init c =
    (refl, behind-first _ _ _ c.if-file.false c.requires.3)

-- behind `body`: the record at p
record-at : (c : After-body-b) →
    let A = c.args in
    let L = c.loop-p in
    RecordAt A.file.now A.m.now L.m L.table L.p L.k L.last c.body-b.result
record-at c = record { scan = c.loop-p.invariant.1.here (omega arith); inside = omega arith; is = c.body-b.ensures.is }

pub loop-p-preserved-then-b-lt1 : goal.loop-p-preserved-then-b-lt1
loop-p-preserved-then-b-lt1 c = (refl, scan-short (record-at (goal.at.loop-p-preserved-then-b-lt1 c).After-body-b) (omega arith) (omega arith) c.mark-p.ensures.map)

pub loop-p-preserved-then-b-lt2 : goal.loop-p-preserved-then-b-lt2
loop-p-preserved-then-b-lt2 c = (refl, scan-short (record-at (goal.at.loop-p-preserved-then-b-lt2 c).After-body-b) (omega arith) (omega arith) c.mark-p-then-b-lt2.ensures.map)

pub loop-p-preserved-then-b-lt3 : goal.loop-p-preserved-then-b-lt3
loop-p-preserved-then-b-lt3 c = (refl, scan-short (record-at (goal.at.loop-p-preserved-then-b-lt3 c).After-body-b) (omega arith) (omega arith) c.mark-p-then-b-lt3.ensures.map)

pub loop-p-preserved-then-b-eq4 : goal.loop-p-preserved-then-b-eq4
loop-p-preserved-then-b-eq4 c = (refl, scan-short (record-at (goal.at.loop-p-preserved-then-b-eq4 c).After-body-b) (omega arith) (omega arith) c.mark-p-then-b-eq4.ensures.map)

pub loop-p-preserved-then-kind : goal.loop-p-preserved-then-kind
loop-p-preserved-then-kind c =
    let R = record-at (goal.at.loop-p-preserved-then-kind c).After-body-b in
    let is-head = c.if-kind.true in
    let size = head-body R is-head in
    (refl, scan-head R (λ z. omega arith) (omega arith) is-head c.list-last.ensures.heads c.list-last.ensures.later)

pub returns-then-b-eq-UNKNOWN : goal.returns-then-b-eq-UNKNOWN
returns-then-b-eq-UNKNOWN c = rw c.at-then-b-eq-UNKNOWN.ensures (scan-unknown (record-at (goal.at.returns-then-b-eq-UNKNOWN c).After-body-b) c.if-b-eq-UNKNOWN.true)

pub loop-p-preserved : goal.loop-p-preserved
loop-p-preserved c =
    (refl, scan-mark (record-at (goal.at.loop-p-preserved c).After-body-b) c.if-b-eq-UNKNOWN.false (omega arith) c.if-kind.false c.mark-p-else-b-eq-UNKNOWN.ensures.map)

pub returns : goal.returns
returns c = scanned-end (c.loop-p.invariant.1.here (omega arith)) (omega arith)
