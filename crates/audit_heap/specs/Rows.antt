-- The sample heaps (`heap_rows`): the words found by hand are their first faults, and those without one are sound. By `heap-rows-hold` the
-- audit finds them, by `heap-says` what it finds is right.
use Rattle.std.specs.Prelude.{List, [], ◌∷◌, map, ◌≡◌}
use Rattle.std.proofs.Common.{inl, inr, subst}
use Rattle.model.specs.Choice.{Mem}
use Rattle.model.specs.Heap.{Audit, heap_of}
use Rattle.model.specs.Samples.{HeapRow, heap_rows, heap-rows-hold}
use Rattle.audit_heap.specs.Audited.{Says, heap-says}

same-found : (f g : HeapRow → Audit) (l : List HeapRow) → map f l ≡ map g l → (r : HeapRow) → Mem r l → f r ≡ g r
same-found f g (a ∷ l) e r (inl m) = rw m cc
same-found f g [] e r x'' = elim x'' [ ]
same-found f g (a ∷ l) e r (inr m) = let t : map f l ≡ map g l = cc in same-found f g l t r m

pub rows-say : (r : HeapRow) → Mem r heap_rows → Says r.heap r.finds
rows-say r m = subst (Says r.heap) (same-found (λ r. heap_of r.heap) (λ r. r.finds) heap_rows heap-rows-hold r m) (heap-says r.heap)
