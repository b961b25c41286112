-- The table of marks: a mark for each word of a heap, set where an object starts, and at 0 for nil. A look there tells a pointer
-- (`marked-pointer`).
use Rattle.std.specs.Prelude.{ℕ, zero, suc, ◌≤◌, ◌≡◌, refl, Bool, false, List, length, get_or, replicate}
use Rattle.std.proofs.Common.{sym, ◌∙◌, ap}
use Rattle.std.proofs.Math.ListN.{get_or-eq_default}
use Rattle.model.specs.Words.{word_at}
use Rattle.model.specs.Heap.{is_pointer}
use Rattle.numbers.specs.Small.{Small}
use Rattle.audit_words.specs.Every.{one_if}

-- the mark of a word; past the table's end there is none
unfoldable pub is_marked : List Bool → ℕ → Bool
is_marked t v = get_or t v false

-- a word that is read as the index i has the mark that stands at i, or none, past the end
pub marked-in : (t : List Bool) (v i b : ℕ) (r : Bool) → Small b v i → get_or t i false ≡ r → r ≡ is_marked t v
unfolding is_marked
marked-in t v i b r S e = sym e ∙ ap (λ k. get_or t k false) S.is

pub marked-out : (t : List Bool) (v i b : ℕ) → Small b v i → length t ≤ i → false ≡ is_marked t v
marked-out t v i b S a = marked-in t v i b false S (get_or-eq_default t false a)

-- no mark is set, as in a fresh table
unfoldable pub Unmarked : List Bool → Type 0
Unmarked t = (v : ℕ) → is_marked t v ≡ false

pub unmarked-fresh : (n : ℕ) → Unmarked (replicate n false)
unfolding Unmarked is_marked
unmarked-fresh zero v = refl
unmarked-fresh (suc n) zero = refl
unmarked-fresh (suc n) (suc v) = unmarked-fresh n v

-- the marks in the table t are nil's and those of the objects os
unfoldable pub Marks : List ℕ → List Bool → Type 0
Marks os t = (v : ℕ) → is_marked t v ≡ is_pointer os v

unfoldable pub marked_at : List Bool → List ℕ → ℕ → Bool
marked_at t h i = is_marked t (word_at h i)

pub marked-pointer : (os : List ℕ) (t : List Bool) (v : ℕ) → Marks os t → is_marked t v ≡ is_pointer os v
unfolding Marks
marked-pointer os t v M = M v

-- the mark of the word at an index, as a number
pub pointer_one : (h : List ℕ) (t : List Bool) (i r : ℕ) → Small 2 (one_if (is_marked t (word_at h i))) r → r ≡ one_if (marked_at t h i)
unfolding marked_at
pointer_one h t i r S = S.is
