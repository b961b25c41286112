-- Before each turn the first i words are copied.
use Rattle.std.proofs.Common.{◌≡◌, length, take}
use lib.Seq.{sets}
use Rattle.apply_objects.proofs.copy.Given as goal

abbrev pub invariant-loop-i : goal.invariant-loop-i
invariant-loop-i l = record { long : length l.heap ≡ length l.initial.heap; copied : l.heap ≡ sets l.initial.heap l.to (take l.i l.words) }
