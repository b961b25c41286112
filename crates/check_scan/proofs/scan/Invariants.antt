-- `check_scan::scan` meets its contract: what is still to be scanned decides what all the records come to; a record that the file's end cuts
-- short is the last, and decides by itself.
use mathlib.Core.Path.{◌≡◌}
use Prim.Native.Nat.{◌-◌}
use lib.ListN.{length}
use Rattle.check_scan.specs.Scanning.{Behind}
use Rattle.check_scan.proofs.scan.Given as goal

abbrev pub invariant-loop-p : goal.invariant-loop-p
invariant-loop-p l = (l.n ≡ length l.file) × Behind l.file l.initial.m l.m l.table l.p l.k l.last l.from

abbrev pub decreases-loop-p : goal.decreases-loop-p
decreases-loop-p l = length l.file - l.p
