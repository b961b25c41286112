-- The invariant: the objects before `q` are marked and their pointer words counted, and the walk from word 2 is theirs and then the walk
-- from `q`. A turn takes one step of the walk; an object has at least two words, so the rest falls.
use Prim.Native.Nat.{◌-◌}
use mathlib.Core.Path.{◌≡◌}
use lib.ListN.{length}
use Rattle.audit_heap.specs.Turns.{Marking}
use Rattle.audit_heap.proofs.mark_objects.Given as goal

abbrev pub invariant-loop-q : goal.invariant-loop-q
invariant-loop-q l = (length l.marks ≡ length l.initial.marks) × Marking l.heap l.q l.links l.marks

abbrev pub decreases-loop-q : goal.decreases-loop-q
decreases-loop-q l = l.mark - l.q
