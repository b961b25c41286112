-- The element that an index finds in a vector of a sound heap: a word of the heap, one that 32 or 33 may store in, and a pointer if it lies in a
-- vector of pointers. The elements of a vector are its plain words but the first, or its pointer words.
use Rattle.std.specs.Prelude.{ℕ, ◌+◌, ◌-◌, ◌<◌, ◌≡◌, refl, Bool, true, false, List, ◌≢◌, ltb, eqb, ℤ, pos, negsuc, ◌-ℤ◌, length}
use Rattle.std.proofs.Common.{arith}
use borrow.Author.Tests.{eqb-true, eqb-false, ltb-true, le-leb, lt-ltb}
use Rattle.model.specs.Choice.{when◌then◌else◌, Mem}
use Rattle.model.specs.Words.{signed, word_at}
use Rattle.model.specs.File.{Side, on_main, on_ptr}
use Rattle.model.specs.Heap.{ptrs_at, size_at, kind_at, in_ptrs, in_plain, may_set_plain, may_set_ptr, Pointer, Heap}
use Rattle.model.specs.Vectors.{vector_kind, bound_at, first_element, elements_at, found, of_nil, nowhere, element_in, element_of}
use Rattle.heap.specs.Kinds.{at_words, at-pointers}
use Rattle.heap.specs.Stores.{object-lies}

-- an element that was found: the vector is an object of its kind, and has more than n elements
pub record Found (d : Side) (h : List ℕ) (o i : ℕ) : Type 0 where
  pub some : o ≢ 0
  pub kind : kind_at h o ≡ vector_kind d
  pub n : ℕ
  pub below : n < elements_at d h o
  pub is : i ≡ o + first_element d + n

pub is_found : (d : Side) (h : List ℕ) (o w i : ℕ) → element_of d h o w ≡ found i → Found d h o i
unfolding element_of
is_found d h o w i e = go (eqb o 0) refl (eqb (kind_at h o) (vector_kind d)) refl (signed w -ℤ signed (bound_at h o)) e
  where
    inside : (n : ℕ) (t : Bool) → eqb o 0 ≡ false → eqb (kind_at h o) (vector_kind d) ≡ true → ltb n (elements_at d h o) ≡ t →
        (when t then found (o + first_element d + n) else nowhere) ≡ found i → Found d h o i
    inside n true z k l e =
        record { some = eqb-false o 0 z; kind = eqb-true _ _ k; n = n; below = ltb-true n (elements_at d h o) l; is = cc }
    inside n false z k l e = let u : ◌≡◌ {A = ℕ} 0 1 = cc in absurd (omega arith)

    go : (t : Bool) → eqb o 0 ≡ t → (u : Bool) → eqb (kind_at h o) (vector_kind d) ≡ u → (z : ℤ) →
        (when t then of_nil else when u then element_in (o + first_element d) (elements_at d h o) z else nowhere) ≡ found i → Found d h o i
    go true p u k z e = let v : ◌≡◌ {A = ℕ} 0 1 = cc in absurd (omega arith)
    go false p false k z e = let v : ◌≡◌ {A = ℕ} 0 1 = cc in absurd (omega arith)
    go false p true k (pos n) e = inside n (ltb n (elements_at d h o)) p k refl e
    go false p true k (negsuc n) e = let v : ◌≡◌ {A = ℕ} 0 1 = cc in absurd (omega arith)

module _ {h os : List ℕ} (H : Heap h os) (o i : ℕ) (m : Mem o os) where
  -- of words: its number counted from the header
  pub word_set : (F : Found on_main h o i) → may_set_plain h o (3 + F.n) ≡ true
  unfolding may_set_plain in_plain elements_at
  word_set F =
      let l = (object-lies H o m).of_words F.kind in
      let b = F.below in
      rw (
        at_words h o F.kind,
        l.0,
        lt-ltb (3 + F.n) (size_at h o) (omega arith),
        le-leb 2 (3 + F.n) (omega arith),
        le-leb 1 (3 + F.n - 2) (omega arith),
      )

  pub ptr-set : (F : Found on_ptr h o i) → may_set_ptr h o (2 + F.n) ≡ true
  unfolding may_set_ptr in_ptrs elements_at
  ptr-set F =
      rw (at-pointers h o F.kind, le-leb 2 (2 + F.n) (omega arith), lt-ltb (2 + F.n) (2 + ptrs_at h o) (omega (arith, F.below)))

  pub ptr-element : Found on_ptr h o i → Pointer os (word_at h i)
  unfolding elements_at
  ptr-element F =
      let e : i ≡ o + (2 + F.n) = omega (arith, F.is) in
      rw e (H.inside o (2 + F.n) m (omega arith) (omega (arith, F.below)))

  pub element-in : (d : Side) → Found d h o i → i < length h
  unfolding elements_at
  element-in on_main F = let l = object-lies H o m in omega (arith, l.inside, F.is, F.below)
  element-in on_ptr F =
      let l = object-lies H o m in
      omega (arith, l.inside, l.holds, F.is, F.below)
