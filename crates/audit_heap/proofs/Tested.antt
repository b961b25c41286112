-- The audit's answer by the first of the three tests behind the walk that fails: the root, the pointer words, the free words.
use Rattle.std.specs.Prelude.{ℕ, ◌≡◌, Bool, true, false, not, List, [], ◌∷◌}
use Rattle.std.proofs.Math.Path.{refl}
use Rattle.std.proofs.Common.{Result, Ok, Err, sym, ◌∙◌}
use Rattle.std.proofs.lemmas.Bool.{not-true, not-false}
use Rattle.model.specs.Choice.{when◌then◌else◌}
use Rattle.model.specs.Words.{word_at}
use Rattle.model.specs.Heap.{pointer_words}
use Rattle.audit_heap.specs.declared.BadWord.{BadWord}
use Rattle.audit_heap.specs.Judgement.{Judgement, faultless, faulty}
use Rattle.audit_heap.specs.First.{first_bad, free_words}
use Rattle.audit_words.specs.Every.{zero_at}
use Rattle.audit_words.specs.Table.{is_marked, marked_at}
use Rattle.audit_heap.specs.Found.{Range, objects_found, Walked, Audited}
use Rattle.audit_heap.specs.Answers.{audited-is}

module _ (h : List ℕ) (t : List Bool) (w : Result ℕ BadWord) (n : ℕ) (R : Range h) (W : Walked h w t) (e : w ≡ Ok n) where
  root-test : (v : Bool) → v ≡ is_marked t (word_at h 1) → first_bad (marked_at t h) (1 ∷ []) ≡ (when v then faultless else faulty 1)
  unfolding first_bad marked_at
  root-test v f = rw (← f)

  pub audited-root : (v : Bool) → v ≡ is_marked t (word_at h 1) → not v ≡ true → Audited h (faulty 1) t
  audited-root v f g = audited-is h t w n R W e (faulty 1) _ _ (faulty 1) (root-test v f ∙ rw (not-true v g)) refl refl refl

  pub audited-pointer : (v : Bool) (b : Judgement) (q : BadWord) → v ≡ is_marked t (word_at h 1) → not v ≡ false →
      b ≡ first_bad (marked_at t h) (pointer_words h (objects_found h)) → b ≡ Err q → Audited h (Err q) t
  audited-pointer v b q f g k l = audited-is h t w n R W e faultless (Err q) _ (Err q) (root-test v f ∙ rw (not-false v g)) (sym k ∙ l) refl refl

  pub audited-free : (v : Bool) (b c : Judgement) → v ≡ is_marked t (word_at h 1) → not v ≡ false →
      b ≡ first_bad (marked_at t h) (pointer_words h (objects_found h)) → b ≡ faultless →
      c ≡ first_bad (zero_at h) (free_words h) → Audited h c t
  audited-free v b c f g k l m = audited-is h t w n R W e faultless faultless c c (root-test v f ∙ rw (not-false v g)) (sym k ∙ l) (sym m) refl
