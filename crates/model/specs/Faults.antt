-- Manual 6.8: the word that refusal 11 names, in the three steps and the words of orders 1 and 2 (`FirstFault`). It speaks of the heap's words alone,
-- not of how they are searched. That the audit names this word, that a heap has one at most, and one exactly if it is not sound: Claim.
use Rattle.std.specs.Prelude.{ℕ, ◌+◌, ◌<◌, ◌≤◌, false, List, ◌⊎◌, ◌≡◌, length}
use Rattle.model.specs.Choice.{Mem}
use Rattle.model.specs.Words.{word_at}
use Rattle.model.specs.Heap.{mark_of, first_object, ptrs_at, size_at, kind_of, Objects, Pointer}

-- Manual 6.8.1: the mark is in range
abbrev pub MarkInRange : List ℕ → Type 0
MarkInRange h = (first_object ≤ mark_of h) × (mark_of h ≤ length h)

-- Manual 6.8.2: walking upwards comes to q, below the mark: objects as 6.7.2 has them lie end to end from word 2 to q, so that no header and
-- no size word before q is at fault
pub record WalkTo (h : List ℕ) (q : ℕ) : Type 0 where
  pub below : q < mark_of h
  pub passed : List ℕ
  pub objects : Objects h first_object q passed

-- Manual 6.8.2: a header "of unknown kind or without a size word below the mark"; "pointer words wrong for a kind fault the header". A kind's row
-- says which numbers of pointer words are right, of an unknown kind none
abbrev pub HeaderFault : List ℕ → ℕ → Type 0
HeaderFault h q = ((kind_of h q).ptrs (ptrs_at h q) ≡ false) ⊎ (mark_of h ≤ q + 1)

-- Manual 6.8.2: a size word "below 2 plus the pointer words, running past the mark or wrong for its kind"
abbrev pub SizeFault : List ℕ → ℕ → Type 0
SizeFault h q =
    (size_at h q < 2 + ptrs_at h q) ⊎ (mark_of h < q + size_at h q) ⊎ ((kind_of h q).size (ptrs_at h q) (size_at h q) ≡ false)

-- Manual 6.8.2: word p is the walk's first fault: a header, or the size word behind a header that is right
pub data WalkFault (h : List ℕ) (p : ℕ) : Type 0 where
  header : WalkTo h p → HeaderFault h p → WalkFault h p
  size_word : (q : ℕ) → WalkTo h q → (HeaderFault h q → ⊥) → SizeFault h q → p ≡ q + 1 → WalkFault h p

-- Manual 6.8.3: word i lies in the pointer part of one of the objects
pub record InPointerPart (h os : List ℕ) (i : ℕ) : Type 0 where
  pub object : ℕ
  pub mem : Mem object os
  pub from : object + 2 ≤ i
  pub below : i < object + 2 + ptrs_at h object

-- Manual 6.8.3: "a bad pointer, the root included"; the root is word 1
abbrev pub BadPointer : List ℕ → List ℕ → ℕ → Type 0
BadPointer h os i = ((i ≡ 1) ⊎ InPointerPart h os i) × (Pointer os (word_at h i) → ⊥)

-- Manual 6.8.3: "a nonzero free word"
abbrev pub NonzeroFree : List ℕ → ℕ → Type 0
NonzeroFree h i = (mark_of h ≤ i) × (i < length h) × (word_at h i ≡ 0 → ⊥)

-- q is the lowest index of which P holds
abbrev pub Lowest : (ℕ → Type 0) → ℕ → Type 0
Lowest P q = P q × ((i : ℕ) → P i → q ≤ i)

-- Manual 6.8: word q is the one that refusal 11 names
pub data FirstFault (h : List ℕ) (q : ℕ) : Type 0 where
  -- 6.8.1: "word 0, if the mark is out of range"
  mark_word : (MarkInRange h → ⊥) → q ≡ 0 → FirstFault h q
  -- 6.8.2: "then, walking the objects upwards, the first header .. or the first size word .."
  on_walk : MarkInRange h → WalkFault h q → FirstFault h q
  -- 6.8.3: "then the lowest index that is a bad pointer .. or a nonzero free word", os being the indices of the objects from word 2 to the mark
  after_walk : MarkInRange h → (os : List ℕ) → Objects h first_object (mark_of h) os → Lowest (λ i. BadPointer h os i ⊎ NonzeroFree h i) q →
      FirstFault h q
