-- The rows of the table of kinds, each had from the kind's number; and a kind whose row allows anything is one of them, so that every row lets
-- 33 store.
use Rattle.std.specs.Prelude.{ℕ, ◌+◌, ◌-◌, ◌≡◌, not, List, ◌≢◌, ltb, leb, eqb}
use Rattle.std.proofs.Math.Path.{refl}
use Rattle.std.proofs.Common.{sym, true≢false, arith}
use Rattle.std.proofs.Math.Bool.{Bool, true, false}
use Rattle.std.proofs.Math.Decide.{dec_lt}
use borrow.Author.Tests.{ne_eqb, lt-ltb, le-ltb, le-leb, lt-leb, not-true, not-false}
use Rattle.model.specs.Choice.{when◌then◌else◌}
use Rattle.model.specs.Heap.{Kind, kind_at, ptrs_at, view_kind, word_vector_kind, ptr_vector_kind, view, word_vector, ptr_vector, no_kind, kinds, kind_of}
use Rattle.model.specs.Heap.{in_plain, may_set_plain}

-- a place lies above another where their difference is not 0
above : (a b : ℕ) → ltb a b ≡ leb 1 (b - a)
above a b = elim (dec_lt a b) [ yes l ↦ rw (lt-ltb a b l, le-leb 1 (b - a) (omega arith)) | no l ↦ rw (le-ltb a b (omega arith), lt-leb 1 (b - a) (omega arith)) ]

module _ (h : List ℕ) (q : ℕ) where
  pub at-view : kind_at h q ≡ view_kind → kind_of h q ≡ view
  unfolding kind_of kinds
  at-view e = rw e

  pub at_words : kind_at h q ≡ word_vector_kind → kind_of h q ≡ word_vector
  unfolding kind_of kinds
  at_words e = rw e

  pub at-pointers : kind_at h q ≡ ptr_vector_kind → kind_of h q ≡ ptr_vector
  unfolding kind_of kinds
  at-pointers e = rw e

  pub at_none : kind_at h q ≢ view_kind → kind_at h q ≢ word_vector_kind → kind_at h q ≢ ptr_vector_kind → kind_of h q ≡ no_kind
  unfolding kind_of kinds
  at_none a b c = rw (ne_eqb (kind_at h q) view_kind a, ne_eqb (kind_at h q) word_vector_kind b, ne_eqb (kind_at h q) ptr_vector_kind c)

  -- the last of three tests: of what is neither a view nor a vector of words, whether it is a vector of pointers
  pub ptrs-else : {k : ℕ} (n : ℕ) → k ≡ kind_at h q → k ≢ view_kind → k ≢ word_vector_kind → eqb k ptr_vector_kind ≡ (kind_of h q).ptrs n
  unfolding kind_of kinds
  ptrs-else {k} n e a b = rw (← e, ne_eqb k view_kind a, ne_eqb k word_vector_kind b) (go (eqb k ptr_vector_kind))
    where
      go : (t : Bool) → t ≡ (when t then ptr_vector else no_kind).ptrs n
      go true = refl
      go false = refl

  pub row-sets : (n : ℕ) → (kind_of h q).ptrs n ≡ true → (kind_of h q).set_ptrs ≡ true
  unfolding kind_of kinds
  row-sets n e = go (eqb (kind_at h q) view_kind) (eqb (kind_at h q) word_vector_kind) (eqb (kind_at h q) ptr_vector_kind) e
    where
      row : Bool → Bool → Bool → Kind
      row s t u = when s then view else when t then word_vector else when u then ptr_vector else no_kind

      go : (s t u : Bool) → (row s t u).ptrs n ≡ true → (row s t u).set_ptrs ≡ true
      go true t u e = refl
      go false true u e = refl
      go false false true e = refl
      go false false false e = absurd (true≢false (sym e))

-- 32, where r tells whether word s is a plain word: in every one of a view; in all but the first of a vector of words; in no other
module _ (h : List ℕ) (q s : ℕ) (r : Bool) (e : r ≡ in_plain h q s) where
  pub set_out : not r ≡ true → false ≡ may_set_plain h q s
  unfolding may_set_plain
  set_out n = rw (← e, not-true r n)

  pub set_view : not r ≡ false → kind_at h q ≡ view_kind → true ≡ may_set_plain h q s
  unfolding may_set_plain
  set_view n k = rw (← e, not-false r n, at-view h q k)

  pub set-element : not r ≡ false → kind_at h q ≡ word_vector_kind → ltb (2 + ptrs_at h q) s ≡ may_set_plain h q s
  unfolding may_set_plain
  set-element n k = rw (← e, not-false r n, at_words h q k) (above (2 + ptrs_at h q) s)

  pub set-none : not r ≡ false → {k : ℕ} → k ≡ kind_at h q → k ≢ view_kind → k ≢ word_vector_kind → false ≡ may_set_plain h q s
  unfolding may_set_plain kind_of kinds
  set-none n {k} d a b = rw (← e, not-false r n, ← d, ne_eqb k view_kind a, ne_eqb k word_vector_kind b) (go (eqb k ptr_vector_kind))
    where
      go : (t : Bool) → false ≡ (when t then ptr_vector else no_kind).set_plain (s - (2 + ptrs_at h q))
      go true = refl
      go false = refl
