-- What is written stays within the list.
use Rattle.std.proofs.Common.{◌≤◌, length}
use Rattle.samples.proofs.numbers.Given as goal

abbrev pub invariant-loop-c : goal.invariant-loop-c
invariant-loop-c l = l.n ≤ length l.out
