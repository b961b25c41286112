-- `check_flow::flow` meets its contract: the instructions still to come decide what the flow comes to.
use mathlib.Core.Path.{◌≡◌}
use Prim.Native.Nat.{◌-◌}
use lib.ListN.{length}
use Rattle.check_ways.specs.Ways.{Bounds}
use Rattle.check_flow.specs.Flowing.{Flowing}
use Rattle.check_flow.proofs.flow.Given as goal

abbrev pub invariant-loop-p : goal.invariant-loop-p
invariant-loop-p l =
    (l.n ≡ length l.file) × Flowing l.file l.m l.heads (length l.heads) l.p l.c l.procedure.head l.procedure.end × Bounds l.file l.procedure.head l.procedure

abbrev pub decreases-loop-p : goal.decreases-loop-p
decreases-loop-p l = length l.file - l.p
