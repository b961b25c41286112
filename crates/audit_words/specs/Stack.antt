-- The test of a pointer stack is that of the words below its top: those above are 0, so nil (`stack-told`).
use Rattle.std.specs.Prelude.{ℕ, zero, suc, ◌<◌, ◌≤◌, ◌≡◌, refl, Bool, true, false, List, [], ◌∷◌, ◌⊎◌, eqb, length, drop}
use Rattle.std.proofs.Math.Path.{sym}
use Rattle.std.proofs.Common.{◌∙◌, inl, inr, arith, drop-cons, eqb-true}
use Rattle.model.specs.Choice.{when◌then◌else◌, if-both}
use Rattle.model.specs.Words.{word_at}
use Rattle.model.specs.Heap.{is_pointer}
use Rattle.model.specs.Sound.{pointers, zeros}
use Rattle.heap.specs.Pointers.{true-pointer}
use Rattle.audit_words.specs.Every.{zero_at, Passing, Every}
use Rattle.audit_words.specs.Table.{Marks, marked_at, marked-pointer}

-- words that are 0 are pointers
zeros-pointers : (os l : List ℕ) → zeros l ≡ true → pointers os l ≡ true
zeros-pointers os [] e = refl
zeros-pointers os (v ∷ l) e =
    let b = if-both (eqb v 0) (zeros l) e in
    rw (true-pointer os v (inl (eqb-true v 0 b.0))) (zeros-pointers os l b.1)

zeros-end : (l : List ℕ) (i : ℕ) → length l ≤ i → zeros (drop i l) ≡ true
zeros-end [] zero h = refl
zeros-end [] (suc i) h = refl
zeros-end (w ∷ l) zero h = absurd (omega arith)
zeros-end (w ∷ l) (suc i) h = zeros-end l i (omega arith)

-- words from the top on that are 0, told one by one
pub zeros-told : (l : List ℕ) (top : ℕ) (r : Bool) → Every (zero_at l) top (length l) r → r ≡ zeros (drop top l)
unfolding zero_at
zeros-told l top true A = sym (all-zero l top A)
  where
    all-zero : (l : List ℕ) (i : ℕ) → Passing (zero_at l) i (length l) → zeros (drop i l) ≡ true
    all-zero [] i A = zeros-end [] i (omega arith)
    all-zero (w ∷ l) zero A = rw (A 0 (omega arith) (omega arith)) (all-zero l 0 (λ j a b. A (suc j) (omega arith) (omega arith)))
    all-zero (w ∷ l) (suc i) A = all-zero l i (λ j a b. A (suc j) (omega arith) (omega arith))
zeros-told l top false F = sym (one-not l top F.at F.low F.high F.fails)
  where
    one-not : (l : List ℕ) (i j : ℕ) → i ≤ j → j < length l → eqb (word_at l j) 0 ≡ false → zeros (drop i l) ≡ false
    one-not [] i j a b e = absurd (omega arith)
    one-not (w ∷ l) zero zero a b e = rw e
    one-not (w ∷ l) zero (suc j) a b e = rw (one-not l 0 j (omega arith) (omega arith) e) (go (eqb w 0))
      where
        go : (t : Bool) → (when t then false else false) ≡ false
        go true = refl
        go false = refl
    one-not (w ∷ l) (suc i) zero a b e = absurd (omega arith)
    one-not (w ∷ l) (suc i) (suc j) a b e = one-not l i j (omega arith) (omega arith) e

-- one word that is no pointer
pointers-fail : (os l : List ℕ) (i : ℕ) → i < length l → is_pointer os (word_at l i) ≡ false → pointers os l ≡ false
pointers-fail os [] i h e = absurd (omega arith)
pointers-fail os (v ∷ l) zero h e = rw e
pointers-fail os (v ∷ l) (suc i) h e = rw (pointers-fail os l i (omega arith) e) (go (is_pointer os v))
  where
    go : (t : Bool) → (when t then false else false) ≡ false
    go true = refl
    go false = refl

module _ (l : List ℕ) (t : List Bool) (os : List ℕ) (M : Marks os t) where
  told_at : (i : ℕ) (r : Bool) → marked_at t l i ≡ r → is_pointer os (word_at l i) ≡ r
  unfolding marked_at
  told_at i r e = sym (marked-pointer os t (word_at l i) M) ∙ e

  -- words that are nil are marked
  pub nil-marked : (n : ℕ) → Every (zero_at l) 0 n true → Every (marked_at t l) 0 n true
  unfolding zero_at marked_at
  nil-marked n A j a b = rw (eqb-true (word_at l j) 0 (A j a b)) (marked-pointer os t 0 M ∙ true-pointer os 0 (inl refl))

  -- pointers from i on, and below it
  pointers-down : (i : ℕ) → i ≤ length l → Passing (marked_at t l) 0 i → pointers os (drop i l) ≡ true → pointers os l ≡ true
  pointers-down zero h A e = e
  pointers-down (suc i) h A e =
      pointers-down i (omega arith) (λ j a b. A j a (omega arith))
      (rw (drop-cons l i 0 (omega arith), told_at i true (A i (omega arith) (omega arith))) e)

  -- the answer for the words below n, where those from the top on are 0: n is the top, or the stack's end
  pub stack-told : (top n : ℕ) (r : Bool) → n ≤ length l → (n ≡ top) ⊎ (n ≡ length l) → Every (marked_at t l) 0 n r →
      zeros (drop top l) ≡ true → r ≡ pointers os l
  stack-told top n true h w A z = sym (pointers-down n h A (zeros-pointers os (drop n l) (rest w)))
    where
      rest : (n ≡ top) ⊎ (n ≡ length l) → zeros (drop n l) ≡ true
      rest (inl e) = rw e z
      rest (inr e) = zeros-end l n (omega arith)
  stack-told top n false h w F z =
      let c = F.high in sym (pointers-fail os l F.at (omega arith) (told_at F.at false F.fails))
