-- Manual 6.8: the first fault of some heaps, by its definition alone. Assumes nothing.
use Rattle.std.specs.Prelude.{ℕ, ◌+◌, ◌<◌, ◌≤◌, true, false, List, [], ◌∷◌, ◌⊎◌, ◌≡◌}
use Rattle.std.proofs.Common.{true≢false, inl, inr, sym, ◌∙◌, arith}
use Rattle.std.proofs.Math.Path.{refl}
use Rattle.model.specs.Choice.{Mem}
use Rattle.model.specs.Heap.{mark_of, kind_at, ptrs_at, size_at, kinds, kind_of}
use Rattle.model.specs.Heap.{Object, Objects, Pointer}
use Rattle.model.specs.Faults.{MarkInRange, HeaderFault, SizeFault, header, size_word, BadPointer, NonzeroFree, FirstFault, mark_word, on_walk, after_walk}
use Rattle.model.specs.Samples.{none_of, words_of, pointers_of, view_of}

-- a mark below 2, and one of length + 1
mark-low : FirstFault (1 ∷ 0 ∷ []) 0
mark-low = mark_word (λ R. omega (arith, R.0)) refl

mark-high : FirstFault (3 ∷ 0 ∷ []) 0
mark-high = mark_word (λ R. omega (arith, R.1)) refl

-- the first object's kind or its pointer words are wrong: the header, and whatever the size is, not the size word
first-header-named : (h : List ℕ) → MarkInRange h → 2 < mark_of h → (kind_of h 2).ptrs (ptrs_at h 2) ≡ false → FirstFault h 2
first-header-named h R l k = on_walk R (header (record { below = l; passed = []; objects = refl }) (inl k))

no-object : (h : List ℕ) (end : ℕ) → (kind_of h 2).ptrs (ptrs_at h 2) ≡ false → Object h 2 end → ⊥
no-object h end k O = true≢false (sym O.ptrs ∙ k)

first-size-not-named : (h : List ℕ) → 2 < mark_of h → (kind_of h 2).ptrs (ptrs_at h 2) ≡ false → FirstFault h 3 → ⊥
first-size-not-named h l k (mark_word n e) = omega arith
first-size-not-named h l k (on_walk R (header T F)) = go T.passed T.objects
  where
    go : (os : List ℕ) → Objects h 2 3 os → ⊥
    go [] W = omega arith
    go (o ∷ os) W = no-object h 3 k W.1
first-size-not-named h l k (on_walk R (size_word q T n F e)) = let f : q ≡ 2 = omega arith in n (rw f (inl k))
first-size-not-named h l k (after_walk R [] W L) = omega arith
first-size-not-named h l k (after_walk R (o ∷ os) W L) = no-object h (mark_of h) k W.1

-- a header of unknown kind, the size word bad too
abbrev two_bad : List ℕ
two_bad = 4 ∷ 0 ∷ none_of 0 ∷ 0 ∷ []

header-named : FirstFault two_bad 2
unfolding kind_of kinds kind_at ptrs_at
header-named = first-header-named two_bad (omega arith, omega arith) (omega arith) refl

size-not-named : FirstFault two_bad 3 → ⊥
unfolding kind_of kinds kind_at ptrs_at
size-not-named = first-size-not-named two_bad (omega arith) refl

-- a vector of words with a pointer word, and a size that has no room for it; with a size that would be right
abbrev words_with_pointer : List ℕ
words_with_pointer = 6 ∷ 0 ∷ words_of 1 ∷ 2 ∷ 0 ∷ 0 ∷ []

pointer-words-named : FirstFault words_with_pointer 2
unfolding kind_of kinds kind_at ptrs_at
pointer-words-named = first-header-named words_with_pointer (omega arith, omega arith) (omega arith) refl

size-behind-not-named : FirstFault words_with_pointer 3 → ⊥
unfolding kind_of kinds kind_at ptrs_at
size-behind-not-named = first-size-not-named words_with_pointer (omega arith) refl

pointer-words-alone-named : FirstFault (6 ∷ 0 ∷ words_of 1 ∷ 4 ∷ 0 ∷ 0 ∷ []) 2
unfolding kind_of kinds kind_at ptrs_at
pointer-words-alone-named = first-header-named (6 ∷ 0 ∷ words_of 1 ∷ 4 ∷ 0 ∷ 0 ∷ []) (omega arith, omega arith) (omega arith) refl

-- a header without a size word below the mark; a size word too small, and one past the mark
cut-header-named : FirstFault (3 ∷ 0 ∷ view_of 0 ∷ 2 ∷ []) 2
cut-header-named =
    on_walk (omega arith, omega arith) (header (record { below = omega arith; passed = []; objects = refl }) (inr (omega arith)))

first-size-named : (h : List ℕ) → MarkInRange h → 3 < mark_of h → (kind_of h 2).ptrs (ptrs_at h 2) ≡ true → SizeFault h 2 → FirstFault h 3
first-size-named h R l k F = on_walk R (size_word 2 (record { below = omega arith; passed = []; objects = refl }) right F refl)
  where
    right : HeaderFault h 2 → ⊥
    right (inl e) = true≢false (sym k ∙ e)
    right (inr m) = omega arith

small-size-named : FirstFault (4 ∷ 0 ∷ view_of 1 ∷ 2 ∷ []) 3
unfolding kind_of kinds kind_at ptrs_at size_at
small-size-named = first-size-named (4 ∷ 0 ∷ view_of 1 ∷ 2 ∷ []) (omega arith, omega arith) (omega arith) refl (inl (omega arith))

long-size-named : FirstFault (4 ∷ 0 ∷ view_of 0 ∷ 3 ∷ 0 ∷ []) 3
unfolding kind_of kinds kind_at ptrs_at size_at
long-size-named = first-size-named (4 ∷ 0 ∷ view_of 0 ∷ 3 ∷ 0 ∷ []) (omega arith, omega arith) (omega arith) refl (inr (inl (omega arith)))

-- a size wrong for its kind alone: a vector of words without a bound; of one pointer, one word short and one long
no-bound-named : FirstFault (4 ∷ 0 ∷ words_of 0 ∷ 2 ∷ []) 3
unfolding kind_of kinds kind_at ptrs_at size_at
no-bound-named = first-size-named (4 ∷ 0 ∷ words_of 0 ∷ 2 ∷ []) (omega arith, omega arith) (omega arith) refl (inr (inr refl))

short-vector-named : FirstFault (5 ∷ 0 ∷ pointers_of 1 ∷ 3 ∷ 0 ∷ []) 3
unfolding kind_of kinds kind_at ptrs_at size_at
short-vector-named = first-size-named (5 ∷ 0 ∷ pointers_of 1 ∷ 3 ∷ 0 ∷ []) (omega arith, omega arith) (omega arith) refl (inr (inr refl))

long-vector-named : FirstFault (7 ∷ 0 ∷ pointers_of 1 ∷ 5 ∷ 0 ∷ 0 ∷ 0 ∷ []) 3
unfolding kind_of kinds kind_at ptrs_at size_at
long-vector-named =
    first-size-named (7 ∷ 0 ∷ pointers_of 1 ∷ 5 ∷ 0 ∷ 0 ∷ 0 ∷ []) (omega arith, omega arith) (omega arith) refl (inr (inr refl))

-- the root, with a nonzero free word; the first of two such words; of two bad pointers and such a word the lowest
abbrev root_and_free : List ℕ
root_and_free = 2 ∷ 7 ∷ 5 ∷ []

root-named : FirstFault root_and_free 1
root-named = after_walk (omega arith, omega arith) [] refl (inl (inl refl, bad), lowest)
  where
    bad : Pointer [] 7 → ⊥
    bad (inl e) = omega arith
    bad (inr i) = elim i [ ]

    lowest : (i : ℕ) → BadPointer root_and_free [] i ⊎ NonzeroFree root_and_free i → 1 ≤ i
    lowest i (inl (inl e, n)) = omega arith
    lowest i (inl (inr I, n)) = absurd I.mem
    lowest i (inr F) = omega (arith, F.0)

abbrev two_free : List ℕ
two_free = 2 ∷ 0 ∷ 5 ∷ 5 ∷ []

free-named : FirstFault two_free 2
free-named = after_walk (omega arith, omega arith) [] refl (inr (omega arith, omega arith, λ e. omega arith), lowest)
  where
    lowest : (i : ℕ) → BadPointer two_free [] i ⊎ NonzeroFree two_free i → 2 ≤ i
    lowest i (inl (inl e, n)) = absurd (n (rw e (inl refl)))
    lowest i (inl (inr I, n)) = absurd I.mem
    lowest i (inr F) = omega (arith, F.0)

abbrev three_bad : List ℕ
three_bad = 6 ∷ 0 ∷ view_of 2 ∷ 4 ∷ 3 ∷ 9 ∷ 1 ∷ []

pointer-named : FirstFault three_bad 4
unfolding kind_of kinds kind_at ptrs_at size_at
pointer-named =
    after_walk (omega arith, omega arith) (2 ∷ [])
    (refl, record { ptrs = refl; holds = omega arith; ends = omega arith; size = refl }, refl)
    (inl (inr (record { object = 2; mem = inl refl; from = omega arith; below = omega arith }), bad), lowest)
  where
    bad : Pointer (2 ∷ []) 3 → ⊥
    bad (inl e) = omega arith
    bad (inr (inl e)) = omega arith
    bad (inr (inr i)) = elim i [ ]

    lowest : (i : ℕ) → BadPointer three_bad (2 ∷ []) i ⊎ NonzeroFree three_bad i → 4 ≤ i
    lowest i (inl (inl e, n)) = absurd (n (rw e (inl refl)))
    lowest i (inl (inr I, n)) = go I.mem I.from
      where
        go : Mem I.object (2 ∷ []) → I.object + 2 ≤ i → 4 ≤ i
        go (inl e) a = omega arith
        go (inr m) a = elim m [ ]
    lowest i (inr F) = omega (arith, F.0)
