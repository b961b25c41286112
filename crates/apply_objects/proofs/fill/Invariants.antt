-- Before each turn the words from `from` to i are filled.
use Rattle.std.proofs.Common.{◌≡◌, ◌-◌, length, replicate}
use lib.Seq.{sets}
use Rattle.apply_objects.proofs.fill.Given as goal

abbrev pub invariant-loop-i : goal.invariant-loop-i
invariant-loop-i l = record { long : length l.heap ≡ length l.initial.heap; filled : l.heap ≡ sets l.initial.heap l.from (replicate (l.i - l.from) l.word) }
