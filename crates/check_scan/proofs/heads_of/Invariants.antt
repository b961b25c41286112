-- `check_scan::heads_of` meets its contract: what heads are still to come decides what all of them come to.
use mathlib.Core.Path.{◌≡◌}
use lib.ListN.{length}
use Rattle.check_scan.specs.Heading.{Heading}
use Rattle.check_scan.proofs.heads_of.Given as goal

abbrev pub invariant-loop-k : goal.invariant-loop-k
invariant-loop-k l = (l.size ≡ length l.file) × Heading l.file l.m l.k
