-- A turn of the walk that marks objects.
use Prim.Native.Nat.{ℕ, zero, suc, ◌+◌, ◌-◌, ◌<◌, ◌≤◌}
use Rattle.std.proofs.Math.Path.{◌≡◌, refl, sym}
use Rattle.std.proofs.Common.{Ok, Err, ◌∙◌, length-set}
use Rattle.std.specs.Prelude.{Bool, set}
use Rattle.std.proofs.Math.Bool.{true}
use mathlib.Core.List.{List, [], ◌∷◌, ◌++◌}
use native.Mathlib.Omega.{arith}
use borrow.Author.Tests.{le-leb}
use Rattle.model.specs.Heap.{mark_of, ptrs_at, size_at, Object, fault, clean, and_object}
use Rattle.model.specs.Heap.{walk}
use Rattle.audit_heap.specs.declared.BadWord.{BadWord}
use Rattle.audit_heap.specs.Judgement.{Judgement, faultless}
use Rattle.audit_heap.specs.First.{walked, or_audit}
use Rattle.audit_heap.specs.Found.{Range, fault_at, objects_found, Walked}
use Rattle.numbers.specs.Small.{Small}
use Rattle.audit_heap.specs.Turns.{judged-object, walk_step, marks-more, objects-fault, objects-clean, objects-last, linked-more, Marking}

module _ (h : List ℕ) (q links : ℕ) (t : List Bool) (M : Marking h q links t) where
  -- one step of the walk
  step_of : q < mark_of h → (n : ℕ) → mark_of h ≤ q + n →
      walk n h q (mark_of h) ≡ or_audit (fault_at h q (mark_of h)) (and_object q (walk (n - 1) h (q + size_at h q) (mark_of h)))
  step_of a zero e = absurd (omega arith)
  step_of a (suc n) e = let p : suc n - 1 ≡ n = omega arith in rw p (walk_step h q (mark_of h) n a)

  pub marking-fault : (a : Judgement) (p : BadWord) (t' : List Bool) → q < mark_of h → a ≡ fault_at h q (mark_of h) → a ≡ Err p → Walked h (Err p) t'
  marking-fault a p t' w e f =
      let g : fault_at h q (mark_of h) ≡ Err p = sym e ∙ f in
      let k : walked h ≡ fault p.at = M.same ∙ rw (step_of w M.left M.enough, g) (objects-fault M.done p.at) in
      record {
        is = rw k;
        marks = λ n c. let z : ◌≡◌ {A = ℕ} 0 1 = cc in absurd (omega arith);
        linked = λ n c. let z : ◌≡◌ {A = ℕ} 0 1 = cc in absurd (omega arith);
      }

  pub marking-object : (a : Judgement) → a ≡ fault_at h q (mark_of h) → a ≡ faultless → Object h q (mark_of h)
  marking-object a e f = judged-object h q (mark_of h) (sym e ∙ f)

  pub marking-more : (a : Judgement) (ptrs c size d : ℕ) → Range h → q < mark_of h → a ≡ fault_at h q (mark_of h) → a ≡ faultless →
      Small c (ptrs_at h q) ptrs → Small d (size_at h q) size → Marking h (q + size) (links + ptrs) (set t q true)
  marking-more a ptrs c size d R w e f P D =
      let g : fault_at h q (mark_of h) ≡ faultless = sym e ∙ f in
      let O = judged-object h q (mark_of h) g in
      let y = D.is in
      record {
        done = M.done ++ q ∷ [];
        left = M.left - 1;
        same = rw y (M.same ∙ rw (step_of w M.left M.enough, g) (objects-last M.done q (walk (M.left - 1) h (q + size_at h q) (mark_of h))));
        marks = marks-more t q (omega (arith, R.high, M.room)) M.done M.marks;
        linked = linked-more h q M.done links ptrs c P M.linked;
        enough = omega (arith, M.enough, O.holds);
        reach = omega (arith, O.ends);
        room = rw (length-set t q true) M.room;
        few = omega (arith, M.few, P.is, O.holds);
      }

  pub marking-end : mark_of h ≤ q → Walked h (Ok links) t
  unfolding walk objects_found
  marking-end w =
      let e : walked h ≡ clean M.done = M.same ∙ rw (ends M.left) (objects-clean M.done) in
      record { is = rw e; marks = λ n c. rw e M.marks; linked = λ n c. let g : n ≡ links = cc in rw (e, g) M.linked }
    where
      ends : (n : ℕ) → walk n h q (mark_of h) ≡ clean []
      ends zero = refl
      ends (suc n) = rw (le-leb (mark_of h) q w)
