-- Demand 3 on calls, whole: the heap's laws, as the heap's theory has them, put into the claim over lists of calls.
use Rattle.std.specs.Prelude.{◌+◌, ◌<◌, [], ◌∷◌, ◌++◌, length}
use Rattle.std.proofs.Common.{arith}
use Rattle.model.specs.Heap.{mark_of}
use Rattle.model.specs.Claim.{CallsHold, HeapExactly}
use Rattle.audit_heap.specs.Audited.{clean-heap, heap_clean}
use Rattle.heap.specs.Stores.{store-plain, store-ptr, store-root}
use Rattle.heap.specs.Made.{pointer-more, pointer-new, made_kept}
use Rattle.theory_state.specs.Rules.{HeapLaws}
use Rattle.theory_state.specs.Claims.{calls}

pub heap-laws : HeapLaws
heap-laws =
    record {
      audit_clean = heap_clean;
      clean_audit = clean-heap;
      plain_store = λ h os q s w K m e. (store-plain K q s w m e).heap;
      ptr_store = λ h os q s v K m e p. (store-ptr K q s v m e p).heap;
      root_store = λ h os v K p. (store-root K v p).heap;
      forms = λ kind h os ps ws a b K room small each.
          let few : length ps < 16777216 = omega arith in
          let G = made_kept K kind ps ws few room a b (λ j k. each j) in
          record {
            objects = os ++ mark_of h ∷ [];
            heap = G.heap;
            old = λ v. pointer-more v os (mark_of h ∷ []);
            new = pointer-new (mark_of h) os;
            same_length = G.long;
          };
    }

-- for every list of check, start and run calls after a start that answered ready
pub calls-hold : CallsHold
calls-hold = calls heap-laws

-- what is sound of a heap is what the audit lets through
pub heap-exact : HeapExactly
heap-exact h os = (heap_clean h os, clean-heap h os)
