-- What the code asks of a vector is what the definition asks: nil, then the kind, then whether the index lies below the bound, and then its distance
-- from that against the number of elements.
use Rattle.std.specs.Prelude.{ℕ, ◌+◌, ◌-◌, ◌<◌, ◌≤◌, true, List, length, take, drop, ◌≢◌, ◌≡◌, refl, ℤ, pos, negsuc, ◌-ℤ◌}
use Rattle.std.proofs.Common.{Option, Some, None, true≢false, length-drop, get_or-drop, sym, ap, ◌∙◌, arith}
use Rattle.std.proofs.Math.Seq.{take-length}
use borrow.Author.Tests.{eq-eqb, ne_eqb, lt-ltb, le-ltb}
use Rattle.model.specs.Words.{signed, word_at}
use Rattle.model.specs.File.{Side}
use Rattle.model.specs.Heap.{kind_at, ptrs_at}
use Rattle.model.specs.Vectors.{Element, vector_kind, bound_at, first_element, elements_at, found, of_nil, nowhere, element_in, element_of}
use Rattle.arithmetic.specs.Distance.{negative?}

-- the words from the object at q on are a part of the heap, as the code counts them
abbrev pub heap_from : List ℕ → ℕ → List ℕ
heap_from h q = take (length h - q) (drop q h)

part : (h : List ℕ) (q : ℕ) → heap_from h q ≡ drop q h
part h q = ap (λ (n : ℕ). take n (drop q h)) (sym (length-drop q h)) ∙ take-length (drop q h)

pub length-heap-from : (h : List ℕ) (q : ℕ) → length (heap_from h q) ≡ length h - q
length-heap-from h q = ap length (part h q) ∙ length-drop q h

pub word-heap-from : (h : List ℕ) (q i : ℕ) → word_at (heap_from h q) i ≡ word_at h (q + i)
word-heap-from h q i = ap (λ (l : List ℕ). word_at l i) (part h q) ∙ get_or-drop q h i 0

-- the bound of a vector of pointers is its last word
pub bound-behind : (h : List ℕ) (q : ℕ) {size : ℕ} → size ≡ 3 + ptrs_at h q → word_at (heap_from h q) (size - 1) ≡ bound_at h q
unfolding bound_at
bound-behind h q {size} e = let i : size - 1 ≡ 2 + ptrs_at h q = omega (arith, e) in rw i (word-heap-from h q (2 + ptrs_at h q))

-- an element that far behind the first, where the search has one
abbrev pub place : ℕ → Option ℕ → Element
place first None = nowhere
place first (Some far) = found (first + far)

pub in-under : (first count : ℕ) (z : ℤ) → negative? z ≡ true → element_in first count z ≡ nowhere
in-under first count (pos n) e = absurd (true≢false (sym e))
in-under first count (negsuc n) e = refl

pub in-past : (first count far : ℕ) {z : ℤ} → pos far ≡ z → count ≤ far → element_in first count z ≡ nowhere
in-past first count far f l = rw (← f, le-ltb far count l)

pub in-found : (first count far : ℕ) {z : ℤ} → pos far ≡ z → far < count → element_in first count z ≡ found (first + far)
in-found first count far f l = rw (← f, lt-ltb far count l)

-- the object q, which is read as r, and the index i
module _ (d : Side) (h : List ℕ) (q i : ℕ) {r : ℕ} (e : r ≡ q) where
  pub nil-sought : r ≡ 0 → element_of d h q i ≡ of_nil
  unfolding element_of
  nil-sought z = rw (← e, eq-eqb r 0 z)

  -- its kind is read as k
  module _ (n : r ≢ 0) {k : ℕ} (is : k ≡ kind_at h r) where
    pub other-kind : k ≢ vector_kind d → element_of d h q i ≡ nowhere
    unfolding element_of
    other-kind u = rw (← e, ne_eqb r 0 n, ← is, ne_eqb k (vector_kind d) u)

-- of a vector, as its elements are counted and its bound is read
module _ (d : Side) (h : List ℕ) (q i : ℕ) (n : q ≢ 0) where
  pub sought : kind_at h q ≡ vector_kind d → {count bound : ℕ} → count ≡ elements_at d h q → bound ≡ bound_at h q →
      element_of d h q i ≡ element_in (q + first_element d) count (signed i -ℤ signed bound)
  unfolding element_of
  sought u c b = rw (ne_eqb q 0 n, eq-eqb (kind_at h q) (vector_kind d) u, ← c, ← b)

-- the object q, which is read as r, its kind as k, the number of its elements and its bound: the index below the bound, past the elements, or found
module _ (d : Side) (h : List ℕ) (q i : ℕ) {r : ℕ} (e : r ≡ q) (n : r ≢ 0) {k : ℕ} (is : k ≡ kind_at h r) (u : k ≡ vector_kind d)
    {count bound : ℕ} (c : count ≡ elements_at d h r) (b : bound ≡ bound_at h r) where
  read-sought : element_of d h q i ≡ element_in (r + first_element d) count (signed i -ℤ signed bound)
  unfolding element_of
  read-sought = rw (← e, ne_eqb r 0 n, ← is, eq-eqb k (vector_kind d) u, ← c, ← b)

  pub under-sought : negative? (signed i -ℤ signed bound) ≡ true → element_of d h q i ≡ nowhere
  under-sought v = read-sought ∙ in-under (r + first_element d) count (signed i -ℤ signed bound) v

  -- the distance of the index from the bound
  module _ {far : ℕ} (f : pos far ≡ signed i -ℤ signed bound) where
    pub past-sought : count ≤ far → element_of d h q i ≡ nowhere
    past-sought l = read-sought ∙ in-past _ _ _ f l

    pub found-sought : far < count → element_of d h q i ≡ found (r + first_element d + far)
    found-sought l = read-sought ∙ in-found _ _ _ f l
