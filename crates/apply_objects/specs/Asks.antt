-- What the functions for new objects ask for, and what the heap is when an object is begun.
use Rattle.std.specs.Prelude.{ℕ, ◌+◌, ◌-◌, ◌*◌, ◌<◌, ◌≤◌, List, ◌⊎◌, ◌≡◌, length, set}
use Rattle.model.specs.Words.{word_at}
use Rattle.model.specs.Calls.{ptr_most, heap_most}
use Rattle.model.specs.Heap.{mark_of}
use Rattle.model.specs.declared.Regs.{Regs}
use Rattle.plan_meaning.specs.declared.Into.{Into}
use Rattle.plan_meaning.specs.declared.Into.TheVariants as into
use Rattle.plan_meaning.specs.declared.Put.{Put}

-- an object of a kind, with so many pointer words and plain words, is begun: it fits
pub record Begins (heap : List ℕ) (kind pointers words : ℕ) : Type 0 where
  pub known : kind < 256
  pub free : mark_of heap + (2 + (pointers + words)) ≤ length heap
  pub heap_at_most : length heap ≤ heap_most

-- header and size at the mark, which rises
unfoldable pub begun : ℕ → ℕ → ℕ → List ℕ → List ℕ
begun kind n k h = set (set (set h (mark_of h) (kind * 16777216 + n)) (mark_of h + 1) (2 + (n + k))) 0 (mark_of h + (2 + (n + k)))

-- a view is formed; lm and lp are the stacks' lengths
pub record Room (lm lp : ℕ) (heap : List ℕ) (r : Regs) (put : Put) : Type 0 where
  pub words : put.mtop ≤ r.mtop
  pub main_fits : r.mtop ≤ lm
  pub pointers : put.at ≤ r.ptop
  pub ptr_fits : r.ptop ≤ lp
  pub few : r.ptop ≤ ptr_most
  pub free : mark_of heap + (2 + ((r.ptop - put.at) + (r.mtop - put.mtop))) ≤ length heap
  pub heap_at_most : length heap ≤ heap_most

-- a vector of n elements is made
pub record VectorRoom (heap : List ℕ) (n : ℕ) : Type 0 where
  pub free : mark_of heap + (3 + n) ≤ length heap
  pub heap_at_most : length heap ≤ heap_most

abbrev pub WordsRoom : List ℕ → List ℕ → Regs → Type 0
WordsRoom main heap r = (3 ≤ r.mtop) × (r.mtop ≤ length main) × VectorRoom heap (word_at main (r.mtop - 2))

abbrev pub PointersRoom : List ℕ → List ℕ → List ℕ → Regs → Type 0
PointersRoom main ptr heap r =
    (2 ≤ r.mtop) × (r.mtop ≤ length main) × (1 ≤ r.ptop) × (r.ptop ≤ length ptr) × VectorRoom heap (word_at main (r.mtop - 1))

-- 36, 80, 81: a new object
abbrev pub MakesNew : Into → Type 0
MakesNew i = (i ≡ into.View) ⊎ ((i ≡ into.WordVector) ⊎ (i ≡ into.PtrVector))

pub record Making (main ptr heap : List ℕ) (r : Regs) (put : Put) : Type 0 where
  pub new : MakesNew put.into
  pub view : put.into ≡ into.View → Room (length main) (length ptr) heap r put
  pub words : put.into ≡ into.WordVector → WordsRoom main heap r
  pub pointers : put.into ≡ into.PtrVector → PointersRoom main ptr heap r
