-- A new object at the mark, right by its kind's row, keeps a sound heap sound, with one object more at the end (`made_kept`). It reaches
-- the mark and the free words only, so the older objects and the free words behind it stay. One law for every row of the table.
use Rattle.std.specs.Prelude.{ℕ, suc, ◌+◌, ◌-◌, ◌*◌, ◌/◌, ◌<◌, ◌≤◌, ◌≡◌, refl, true, List, [], ◌∷◌, ◌++◌, ◌⊎◌, length}
use Rattle.std.proofs.Common.{ap, ◌∙◌, inl, inr, arith, length-append}
use Rattle.std.proofs.Math.ListN.{length-set, get_or-append}
use Rattle.std.proofs.lemmas.List.Edits.{sets}
use Rattle.std.proofs.Math.Seq.{length-sets, get_or-set_same, get_or-set_other}
use Rattle.model.specs.Choice.{Mem}
use Rattle.model.specs.Words.{word_at}
use Rattle.model.specs.Heap.{mark_of, root_of, first_object, kind_at, ptrs_at, size_at, kinds, kind_in, kind_of, object_of, made, Pointer, Heap}
use Rattle.laws.specs.Members.{mem-append, mem-more, mem-right}
use Rattle.laws.specs.Stores.{sets-other, sets-at}
use Rattle.heap.specs.Objects.{SameHeader, ptrs-alike, size-alike, objects-alike, objects-snoc}
use Rattle.heap.specs.Stores.{object-lies}

-- one object more
pub pointer-more : (v : ℕ) (os more : List ℕ) → Pointer os v → Pointer (os ++ more) v
pointer-more v os more (inl e) = inl e
pointer-more v os more (inr i) = inr (mem-more v os more i)

pub pointer-new : (m : ℕ) (os : List ℕ) → Pointer (os ++ m ∷ []) m
pointer-new m os = inr (mem-right m os (m ∷ []) (inl refl))

mem-last : (q m : ℕ) (os : List ℕ) → Mem q (os ++ m ∷ []) → Mem q os ⊎ (q ≡ m)
mem-last q m os i = go (mem-append q os (m ∷ []) i)
  where
    go : Mem q os ⊎ Mem q (m ∷ []) → Mem q os ⊎ (q ≡ m)
    go (inl i) = inl i
    go (inr (inl e)) = inr e
    go (inr (inr x'')) = elim x'' [ ]

-- what the new object leaves
pub record WithNew (h os : List ℕ) (kind : ℕ) (ps ws : List ℕ) : Type 0 where
  pub heap : Heap (made kind ps ws h) (os ++ mark_of h ∷ [])
  pub long : length (made kind ps ws h) ≡ length h
  pub mark : mark_of (made kind ps ws h) ≡ mark_of h + (2 + (length ps + length ws))
  -- the older words, the mark aside, and the new ones
  pub below : (i : ℕ) → 1 ≤ i → i < mark_of h → word_at (made kind ps ws h) i ≡ word_at h i
  pub word : (k : ℕ) → k < 2 + (length ps + length ws) → word_at (made kind ps ws h) (mark_of h + k) ≡ word_at (object_of kind ps ws) k
  pub ptrs : (q : ℕ) → Mem q os → ptrs_at (made kind ps ws h) q ≡ ptrs_at h q
  pub size : (q : ℕ) → Mem q os → size_at (made kind ps ws h) q ≡ size_at h q

-- the pointer words are few enough for the header, and the object fits
module _ {h os : List ℕ} (H : Heap h os) (kind : ℕ) (ps ws : List ℕ) (few : length ps < 16777216)
    (room : mark_of h + (2 + (length ps + length ws)) ≤ length h) where
  abbrev new : ℕ
  new = 2 + (length ps + length ws)

  abbrev object : List ℕ
  object = object_of kind ps ws

  abbrev h' : List ℕ
  h' = made kind ps ws h

  new-length : length object ≡ new
  new-length = let e = length-append ps ws in omega arith

  new-below : (i : ℕ) → 1 ≤ i → i < mark_of h → word_at h' i ≡ word_at h i
  unfolding made
  new-below i a b = get_or-set_other (sets h (mark_of h) object) 0 i _ 0 (omega arith) ∙ sets-other object h (mark_of h) i (inl b)

  new-above : (i : ℕ) → mark_of h + new ≤ i → word_at h' i ≡ word_at h i
  unfolding made
  new-above i a =
      get_or-set_other (sets h (mark_of h) object) 0 i _ 0 (omega arith)
      ∙ sets-other object h (mark_of h) i (inr (rw new-length a))

  new-at : (k : ℕ) → k < new → word_at h' (mark_of h + k) ≡ word_at object k
  unfolding made
  new-at k a =
      let l = H.low in
      get_or-set_other (sets h (mark_of h) object) 0 (mark_of h + k) _ 0 (omega arith)
      ∙ sets-at object h (mark_of h) k (rw new-length room) (rw new-length a)

  new-mark : mark_of h' ≡ mark_of h + new
  unfolding made
  new-mark = get_or-set_same (sets h (mark_of h) object) 0 _ 0 (rw (length-sets h (mark_of h) object) (omega (arith, H.low)))

  new-long : length h' ≡ length h
  unfolding made
  new-long = length-set (sets h (mark_of h) object) 0 _ ∙ length-sets h (mark_of h) object

  header : word_at h' (mark_of h) ≡ kind * 16777216 + length ps
  header = let z : mark_of h ≡ mark_of h + 0 = omega arith in ap (λ (i : ℕ). word_at h' i) z ∙ new-at 0 (omega arith)

  new-kind : kind_of h' (mark_of h) ≡ kind_in kinds kind
  unfolding kind_of kind_at
  new-kind = let e : word_at h' (mark_of h) / 16777216 ≡ kind = rw header (omega arith) in rw e

  new-ptrs : ptrs_at h' (mark_of h) ≡ length ps
  unfolding ptrs_at
  new-ptrs = rw header (omega arith)

  new-size : size_at h' (mark_of h) ≡ new
  unfolding size_at
  new-size = new-at 1 (omega arith)

  old : (q : ℕ) → Mem q os → SameHeader h h' q
  old q i =
      let l = object-lies H q i in
      let a = l.low in
      let b = l.holds in
      let c = l.ends in
      record { first = new-below q (omega arith) (omega arith); second = new-below (q + 1) (omega arith) (omega arith) }

  -- right by the kind's row, and its pointers are pointers
  pub made_kept : (kind_in kinds kind).ptrs (length ps) ≡ true → (kind_in kinds kind).size (length ps) (2 + (length ps + length ws)) ≡ true →
      ((j : ℕ) → j < length ps → Pointer os (word_at ps j)) → WithNew h os kind ps ws
  made_kept row-ptrs row-size right =
      let l = H.low in
      record {
        heap = record {
          low = rw new-mark (omega arith);
          high = rw (new-mark, new-long) room;
          objects =
              rw new-mark
              (objects-snoc h' first_object (mark_of h) (mark_of h + new) os
              (objects-alike h h' first_object (mark_of h) os H.objects old)
              record {
                ptrs = rw (new-kind, new-ptrs) row-ptrs;
                holds = rw (new-ptrs, new-size) (omega arith);
                ends = rw new-size (omega arith);
                size = rw (new-kind, new-ptrs, new-size) row-size;
              }
              (ap (λ (z : ℕ). mark_of h + z) new-size));
          root = rw (new-below 1 (omega arith) (omega arith)) (pointer-more (root_of h) os (mark_of h ∷ []) H.root);
          inside = λ q k i a b. at q k a b (mem-last q (mark_of h) os i);
          free = rw new-mark (λ i w. new-above i w ∙ H.free i (omega arith));
        };
        long = new-long;
        mark = new-mark;
        below = new-below;
        word = new-at;
        ptrs = λ q i. ptrs-alike (old q i);
        size = λ q i. size-alike (old q i);
      }
    where
      ptr_at : (j : ℕ) → j < length ps → word_at h' (mark_of h + (2 + j)) ≡ word_at ps j
      ptr_at j w =
          let e : 2 + j ≡ suc (suc j) = omega arith in
          new-at (2 + j) (omega arith) ∙ ap (λ (z : ℕ). word_at object z) e ∙ get_or-append ps ws 0 j w

      at : (q k : ℕ) → 2 ≤ k → k < 2 + ptrs_at h' q → Mem q os ⊎ (q ≡ mark_of h) → Pointer (os ++ mark_of h ∷ []) (word_at h' (q + k))
      at q k a b (inl i) =
          let t = object-lies H q i in
          let n = t.holds in
          let e = t.ends in
          let b' : k < 2 + ptrs_at h q = rw (ptrs-alike (old q i)) at b in
          rw (new-below (q + k) (omega arith) (omega arith)) (pointer-more (word_at h (q + k)) os (mark_of h ∷ []) (H.inside q k i a b'))
      at q k a b (inr e) =
          let b1 : k < 2 + ptrs_at h' (mark_of h) = rw e at b in
          let b2 : k < 2 + length ps = rw new-ptrs at b1 in
          let j : ℕ = k - 2 in
          let ek : q + k ≡ mark_of h + (2 + j) = omega arith in
          rw (ek, ptr_at j (omega arith)) (pointer-more (word_at ps j) os (mark_of h ∷ []) (right j (omega arith)))
