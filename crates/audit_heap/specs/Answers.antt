-- The answers of the audit, from what its parts answer: `heap_of` is the walk, then the root, the pointer words and the free words, and
-- the table of marks tells the pointers of the objects that the walk found.
use Rattle.std.specs.Prelude.{ℕ, ◌<◌, ◌≡◌, Bool, List, [], ◌∷◌, ◌⊎◌, length}
use Rattle.std.proofs.Math.Path.{refl}
use Rattle.std.proofs.Common.{Result, Ok, Err, sym, ◌∙◌, ap, arith}
use Rattle.model.specs.Words.{word_at}
use Rattle.model.specs.Heap.{Heap, mark_of, first_object, Objects, Audit, fault, clean, pointer_words, objects_in, heap_of, objects_of}
use Rattle.audit_heap.specs.declared.BadWord.{BadWord}
use Rattle.audit_heap.specs.Judgement.{Judgement, faultless, faulty, same-fault, uncounted}
use Rattle.audit_heap.specs.First.{first_bad, walked, free_words, audit_answer, or_else, or_audit, pointer_at, bad-append}
use Rattle.audit_heap.specs.Audited.{heap_clean, clean-heap, heap-judged, heap-walk-fault, heap-mark-fault, walk-shows}
use Rattle.audit_words.specs.Every.{zero_at}
use Rattle.audit_words.specs.Table.{Marks, marked_at, marked-pointer}
use Rattle.audit_heap.specs.Found.{Range, objects_found, Walked, Audited}

-- the walk found the objects
pub walked-objects : (h : List ℕ) (t : List Bool) (r : Result ℕ BadWord) (n : ℕ) → Range h → Walked h r t → r ≡ Ok n → walked h ≡ clean (objects_found h)
unfolding objects_found
walked-objects h t r n R W e = go (walked h) refl (sym W.is ∙ ap uncounted e)
  where
    go : (a : Audit) → walked h ≡ a → audit_answer a ≡ faultless → a ≡ clean (objects_in a)
    go (clean os) f g = refl
    go (fault q) f g = cc

pub walked-right : (h : List ℕ) (t : List Bool) (r : Result ℕ BadWord) (n : ℕ) → Range h → Walked h r t → r ≡ Ok n → Objects h first_object (mark_of h) (objects_found h)
walked-right h t r n R W e = rw (walked-objects h t r n R W e) at (walk-shows (length h) h first_object [] refl R.low (omega (arith, R.high)))

bad-same : (P Q : ℕ → Bool) (is : List ℕ) → ((i : ℕ) → P i ≡ Q i) → first_bad P is ≡ first_bad Q is
unfolding first_bad
bad-same P Q [] f = refl
bad-same P Q (i ∷ is) f = rw (f i, bad-same P Q is f)

-- in the table or among the objects, the same words are pointers
table_same : (h os : List ℕ) (t : List Bool) (is : List ℕ) → Marks os t → first_bad (pointer_at h os) is ≡ first_bad (marked_at t h) is
unfolding marked_at
table_same h os t is M = bad-same (pointer_at h os) (marked_at t h) is (λ i. sym (marked-pointer os t (word_at h i) M))

pub audited-mark : (h : List ℕ) (t : List Bool) → (mark_of h < first_object) ⊎ (length h < mark_of h) → Audited h (faulty 0) t
audited-mark h t e = record {
  is = rw (heap-mark-fault h e);
  marks = λ c. let z : ◌≡◌ {A = ℕ} 0 1 = cc in absurd (omega arith);
}

pub audited-walk : (h : List ℕ) (t t' : List Bool) (r : Result ℕ BadWord) (w : BadWord) → Range h → Walked h r t → r ≡ Err w → Audited h (Err w) t'
audited-walk h t t' r w R W e = go (walked h) refl (sym W.is ∙ ap uncounted e)
  where
    go : (a : Audit) → walked h ≡ a → audit_answer a ≡ Err w → Audited h (Err w) t'
    go (clean os) f g = let z : ◌≡◌ {A = ℕ} 0 1 = cc in absurd (omega arith)
    go (fault p) f g = record {
      is = rw (heap-walk-fault h p R.low R.high f) (sym g);
      marks = λ c. let z : ◌≡◌ {A = ℕ} 0 1 = cc in absurd (omega arith);
    }

module _ (h : List ℕ) (t : List Bool) (w : Result ℕ BadWord) (n : ℕ) (R : Range h) (W : Walked h w t) (e : w ≡ Ok n) where
  -- the three tests that are left: the root, the pointer words, the free words
  pub audited-is : (a b c r : Judgement) → first_bad (marked_at t h) (1 ∷ []) ≡ a → first_bad (marked_at t h) (pointer_words h (objects_found h)) ≡ b →
      first_bad (zero_at h) (free_words h) ≡ c → r ≡ or_else a (or_else b c) → Audited h r t
  unfolding objects_of
  audited-is a b c r f g k l =
      let M = W.marks n e in
      let s : first_bad (pointer_at h (objects_found h)) (1 ∷ pointer_words h (objects_found h)) ≡ or_else a b =
      table_same h (objects_found h) t (1 ∷ pointer_words h (objects_found h)) M ∙ bad-append (marked_at t h) (1 ∷ []) (pointer_words h (objects_found h)) ∙ rw (f, g) in
      let J : heap_of h ≡ or_audit (or_else a b) (or_audit c (clean (objects_found h))) =
      heap-judged h (objects_found h) R.low R.high (walked-objects h t w n R W e) ∙ rw (s, k) in
      record {
        is = l ∙ rw J (all_told a b c);
        marks = λ u. same a b c J (sym l ∙ u) M;
      }
    where
      all_told : (a b c : Judgement) → or_else a (or_else b c) ≡ audit_answer (or_audit (or_else a b) (or_audit c (clean (objects_found h))))
      all_told (Ok u) (Ok v) (Ok w) = refl
      all_told (Ok u) (Ok v) (Err w) = refl
      all_told (Ok u) (Err w) c = refl
      all_told (Err w) b c = refl

      same : (a b c : Judgement) → heap_of h ≡ or_audit (or_else a b) (or_audit c (clean (objects_found h))) →
          or_else a (or_else b c) ≡ faultless → Marks (objects_found h) t → Marks (objects_of h) t
      same (Ok u) (Ok v) (Ok w) J x M = rw J M
      same (Ok u) (Ok v) (Err w) J x M = let z : ◌≡◌ {A = ℕ} 0 1 = cc in absurd (omega arith)
      same (Ok u) (Err w) c J x M = let z : ◌≡◌ {A = ℕ} 0 1 = cc in absurd (omega arith)
      same (Err w) b c J x M = let z : ◌≡◌ {A = ℕ} 0 1 = cc in absurd (omega arith)

-- What the audit's answer shows

pub audited-sound : {h : List ℕ} {r : Judgement} {t : List Bool} → Audited h r t → r ≡ faultless → Heap h (objects_of h)
unfolding objects_of
audited-sound {h} A e = heap_clean h (objects_of h) (told-clean (heap_of h) (sym A.is ∙ e))
  where
    told-clean : (a : Audit) → audit_answer a ≡ faultless → a ≡ clean (objects_in a)
    told-clean (clean os) f = refl
    told-clean (fault q) f = cc

pub audited-clean : {h : List ℕ} {r : Judgement} {t : List Bool} → Audited h r t → r ≡ faultless → heap_of h ≡ clean (objects_of h)
audited-clean {h} A e = clean-heap h (objects_of h) (audited-sound A e)

pub audited-fault : {h : List ℕ} {r : Judgement} {t : List Bool} (w : BadWord) → Audited h r t → r ≡ Err w → heap_of h ≡ fault w.at
audited-fault {h} w A e = told-fault (heap_of h) (sym A.is ∙ e)
  where
    told-fault : (a : Audit) → audit_answer a ≡ Err w → a ≡ fault w.at
    told-fault (clean os) f = cc
    told-fault (fault p) f = ap fault (same-fault p w.at f)
