-- No pointer words, no fault. Else, the invariant: the first fault of all pointer words is that of the objects from `q` on. A turn takes
-- off one object, whose words `check_pointers` tested.
use Prim.Native.Nat.{◌-◌}
use Rattle.audit_heap.specs.Turns.{Pointing}
use Rattle.audit_heap.proofs.pointers_right.Given as goal

abbrev pub invariant-loop-q : goal.invariant-loop-q
invariant-loop-q l = Pointing l.heap l.q l.marks

abbrev pub decreases-loop-q : goal.decreases-loop-q
decreases-loop-q l = l.mark - l.q
