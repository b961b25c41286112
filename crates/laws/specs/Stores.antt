-- Words stored in a list one behind the other, and a slice copied: the words outside stay. Each law is an induction on the list.
use Rattle.std.specs.Prelude.{ℕ, zero, suc, ◌+◌, ◌<◌, ◌≤◌, ◌-◌, List, [], ◌∷◌, ◌++◌, ◌⊎◌, ◌≡◌, refl, length, set, take, drop}
use Rattle.std.proofs.Common.{inl, inr, ap, sym, ◌∙◌, arith, length-set, get_or-set_same, get_or-set_other, take-suc, length-take-le, add-one}
use Rattle.std.proofs.lemmas.List.Edits.{sets}
use Rattle.std.proofs.Math.Seq.{slice, length-slice}
use Rattle.std.proofs.lemmas.List.{drop-append-le}
use Rattle.model.specs.Words.{word_at}

-- words stored from a place on: the words outside stay
pub sets-other : (vs l : List ℕ) (a i : ℕ) → (i < a) ⊎ (a + length vs ≤ i) → word_at (sets l a vs) i ≡ word_at l i
sets-other [] l a i h = refl
sets-other (v ∷ vs) l a i (inl h) = sets-other vs (set l a v) (suc a) i (inl (omega arith)) ∙ get_or-set_other l a i v 0 (omega arith)
sets-other (v ∷ vs) l a i (inr h) = sets-other vs (set l a v) (suc a) i (inr (omega arith)) ∙ get_or-set_other l a i v 0 (omega arith)

pub sets-at : (vs l : List ℕ) (a k : ℕ) → a + length vs ≤ length l → k < length vs → word_at (sets l a vs) (a + k) ≡ word_at vs k
sets-at [] l a k h w = absurd (omega arith)
sets-at (v ∷ vs) l a zero h w =
    let e : a + 0 ≡ a = omega arith in
    rw e (sets-other vs (set l a v) (suc a) a (inl (omega arith)) ∙ get_or-set_same l a v 0 (omega arith))
sets-at (v ∷ vs) l a (suc k) h w =
    let e : a + suc k ≡ suc a + k = omega arith in
    rw e (sets-at vs (set l a v) (suc a) k (rw (length-set l a v) (omega arith)) (omega arith))

-- stores one after another
pub sets-append : (xs ys l : List ℕ) (i : ℕ) → sets l i (xs ++ ys) ≡ sets (sets l i xs) (i + length xs) ys
sets-append [] ys l i = let e : i + 0 ≡ i = omega arith in rw e
sets-append (x ∷ xs) ys l i =
    let e : i + suc (length xs) ≡ suc i + length xs = omega arith in rw e (sets-append xs ys (set l i x) (suc i))

slice_snoc : (a i : ℕ) (l : List ℕ) → a ≤ i → i < length l → slice a (suc i) l ≡ slice a i l ++ (word_at l i ∷ [])
slice_snoc a i l h k =
    ap (drop a) (take-suc l i 0 k)
    ∙ drop-append-le a (take i l) (word_at l i ∷ []) (rw (length-take-le i l (omega arith)) h)

-- one word more is copied
pub copy_more : (h l : List ℕ) (to a i j : ℕ) → a ≤ i → i < length l → j ≡ to + (i - a) →
    set (sets h to (slice a i l)) j (word_at l i) ≡ sets h to (slice a (i + 1) l)
copy_more h l to a i j low k e =
    let n : to + length (slice a i l) ≡ j = ap (λ (n : ℕ). to + n) (length-slice a i l (omega arith)) ∙ sym e in
    sym (rw (add-one i, slice_snoc a i l low k, sets-append (slice a i l) (word_at l i ∷ []) h to, n) refl)
