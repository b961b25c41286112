-- Stacks as lists of words: what is left where words above a top are zeroed, all at once or one by one, and where a word is stored.
-- Each law is an induction on the list, or follows from one of its words.
use Rattle.std.specs.Prelude.{ℕ, zero, suc, ◌+◌, ◌<◌, ◌≤◌, ◌-◌, true, List, [], ◌∷◌, ◌⊎◌, ◌≡◌, refl, eqb, length, set, take, drop, replicate}
use Rattle.std.proofs.Common.{⊎_elim, ap, sym, ◌∙◌, subst, arith, get_or-set_same, get_or-set_other, get_or-drop, eqb-true, eq-eqb, eq-or-lt_of_le}
use Rattle.std.proofs.Math.Seq.{set_out, slice}
use Rattle.model.specs.Choice.{if-both}
use Rattle.model.specs.Words.{word_at, cut}
use Rattle.std.proofs.Math.Decide.{ℕ_discrete, dec_lt}
use Rattle.model.specs.Heap.{is_pointer}
use Rattle.model.specs.Sound.{zeros, pointers}

-- the words from t on are 0; every word has a property
abbrev pub Zero : ℕ → List ℕ → Type 0
Zero t l = (i : ℕ) → t ≤ i → word_at l i ≡ 0

abbrev pub Each : (ℕ → Type 0) → List ℕ → Type 0
Each P l = (i : ℕ) → P (word_at l i)

-- a stack with its top: it lies in the list, and the words above are 0
pub record Topped (t : ℕ) (l : List ℕ) : Type 0 where
  pub fits : t ≤ length l
  pub zero : Zero t l

-- a stack cut to a top
pub length_cut : (t : ℕ) (l : List ℕ) → length (cut t l) ≡ length l
unfolding cut
length_cut t [] = refl
length_cut zero (w ∷ l) = ap suc (length_cut zero l)
length_cut (suc t) (w ∷ l) = ap suc (length_cut t l)

pub cut_word : (t : ℕ) (l : List ℕ) (i : ℕ) → i < t → word_at (cut t l) i ≡ word_at l i
unfolding cut
cut_word t [] i h = refl
cut_word zero (w ∷ l) i h = absurd (omega arith)
cut_word (suc t) (w ∷ l) zero h = refl
cut_word (suc t) (w ∷ l) (suc i) h = cut_word t l i (omega arith)

pub cut-zero : (t : ℕ) (l : List ℕ) → Zero t (cut t l)
unfolding cut
cut-zero t [] i h = refl
cut-zero zero (w ∷ l) zero h = refl
cut-zero zero (w ∷ l) (suc i) h = cut-zero zero l i (omega arith)
cut-zero (suc t) (w ∷ l) zero h = absurd (omega arith)
cut-zero (suc t) (w ∷ l) (suc i) h = cut-zero t l i (omega arith)

pub cut-each : (P : ℕ → Type 0) (t : ℕ) (l : List ℕ) → P 0 → Each P l → Each P (cut t l)
cut-each P t l z h i = go (dec_lt i t)
  where
    go : Dec (i < t) → P (word_at (cut t l) i)
    go (yes k) = rw (cut_word t l i k) (h i)
    go (no k) = let w : t ≤ i = omega arith in rw (cut-zero t l i w) z

-- a word stored
pub set-zero : (t : ℕ) (l : List ℕ) (j v : ℕ) → j < t → Zero t l → Zero t (set l j v)
set-zero t l j v h z i k = get_or-set_other l j i v 0 (λ e. absurd (omega arith)) ∙ z i k

pub set-each : (P : ℕ → Type 0) (l : List ℕ) (j v : ℕ) → P v → Each P l → Each P (set l j v)
set-each P l j v pv h i = go (ℕ_discrete i j) (dec_lt j (length l))
  where
    go : Dec (i ≡ j) → Dec (j < length l) → P (word_at (set l j v) i)
    go (yes e) (yes k) = rw (e, get_or-set_same l j v 0 k) pv
    go (yes e) (no k) = let w : length l ≤ j = omega arith in rw (set_out l j v w) (h i)
    go (no e) d = rw (get_or-set_other l j i v 0 e) (h i)

-- the words from a on, up to b
pub slice-each : (P : ℕ → Type 0) (a b : ℕ) (l : List ℕ) → P 0 → Each P l → Each P (slice a b l)
slice-each P a b l z h i = rw (get_or-drop a (take b l) i 0) (below b l h (a + i))
  where
    below : (b : ℕ) (l : List ℕ) → Each P l → Each P (take b l)
    below zero l h i = z
    below (suc b) [] h i = z
    below (suc b) (w ∷ l) h zero = h 0
    below (suc b) (w ∷ l) h (suc i) = below b l (λ k. h (suc k)) i

-- one word over and over
pub replicate-each : (P : ℕ → Type 0) (n w : ℕ) → P 0 → P w → Each P (replicate n w)
replicate-each P zero w z h i = z
replicate-each P (suc n) w z h zero = h
replicate-each P (suc n) w z h (suc i) = replicate-each P n w z h i

-- the tests of the audit, and what they say
pub zeros-true : (t : ℕ) (l : List ℕ) → zeros (drop t l) ≡ true → Zero t l
zeros-true zero [] e i h = refl
zeros-true (suc t) [] e i h = refl
zeros-true zero (w ∷ l) e zero h = eqb-true w 0 (if-both (eqb w 0) (zeros l) e).0
zeros-true zero (w ∷ l) e (suc i) h = zeros-true zero l (if-both (eqb w 0) (zeros l) e).1 i (omega arith)
zeros-true (suc t) (w ∷ l) e zero h = absurd (omega arith)
zeros-true (suc t) (w ∷ l) e (suc i) h = zeros-true t l e i (omega arith)

pub true-zeros : (t : ℕ) (l : List ℕ) → Zero t l → zeros (drop t l) ≡ true
true-zeros zero [] h = refl
true-zeros (suc t) [] h = refl
true-zeros zero (w ∷ l) h = rw (eq-eqb w 0 (h 0 (omega arith))) (true-zeros zero l (λ i k. h (suc i) (omega arith)))
true-zeros (suc t) (w ∷ l) h = true-zeros t l (λ i k. h (suc i) (omega arith))

pub nil-pointer : (os : List ℕ) → is_pointer os 0 ≡ true
unfolding is_pointer
nil-pointer os = refl

pub pointers-true : (os l : List ℕ) → pointers os l ≡ true → Each (λ v. is_pointer os v ≡ true) l
pointers-true os [] e i = nil-pointer os
pointers-true os (v ∷ l) e zero = (if-both (is_pointer os v) (pointers os l) e).0
pointers-true os (v ∷ l) e (suc i) = pointers-true os l (if-both (is_pointer os v) (pointers os l) e).1 i

pub true-pointers : (os l : List ℕ) → Each (λ v. is_pointer os v ≡ true) l → pointers os l ≡ true
true-pointers os [] h = refl
true-pointers os (v ∷ l) h = rw (h 0) (true-pointers os l (λ i. h (suc i)))

-- where the words are 0 already, a cut changes nothing
pub cut-same : (t : ℕ) (l : List ℕ) → ((i : ℕ) → t ≤ i → word_at l i ≡ 0) → cut t l ≡ l
unfolding cut
cut-same t [] z = refl
cut-same zero (w ∷ l) z = rw (z 0 (omega arith), cut-same zero l (λ i h. z (suc i) (omega arith)))
cut-same (suc t) (w ∷ l) z = ap (λ (k : List ℕ). w ∷ k) (cut-same t l (λ i h. z (suc i) (omega arith)))

-- one word further down
pub cut_down : (i : ℕ) (l : List ℕ) → set (cut (suc i) l) i 0 ≡ cut i l
unfolding cut
cut_down i [] = refl
cut_down zero (w ∷ l) = refl
cut_down (suc i) (w ∷ l) = ap (λ (k : List ℕ). w ∷ k) (cut_down i l)

pub cut-next : (n i : ℕ) (l₀ l : List ℕ) → n < i → l ≡ cut i l₀ → set l (i - 1) 0 ≡ cut (i - 1) l₀
cut-next n i l₀ l h e =
    let s : i ≡ suc (i - 1) = omega arith in
    ap (λ (x : List ℕ). set x (i - 1) 0) (e ∙ ap (λ (k : ℕ). cut k l₀) s) ∙ cut_down (i - 1) l₀

pub cut-cut : (s t : ℕ) (l : List ℕ) → s ≤ t → cut s (cut t l) ≡ cut s l
unfolding cut
cut-cut s t [] h = refl
cut-cut zero zero (w ∷ l) h = ap (λ (k : List ℕ). 0 ∷ k) (cut-cut zero zero l (omega arith))
cut-cut zero (suc t) (w ∷ l) h = ap (λ (k : List ℕ). 0 ∷ k) (cut-cut zero t l (omega arith))
cut-cut (suc s) zero (w ∷ l) h = absurd (omega arith)
cut-cut (suc s) (suc t) (w ∷ l) h = ap (λ (k : List ℕ). w ∷ k) (cut-cut s t l (omega arith))

pub cut-topped : (t : ℕ) (l : List ℕ) → t ≤ length l → Topped t (cut t l)
cut-topped t l h = record { fits = rw length_cut h; zero = cut-zero t l }

-- a cut to above the top
pub cut-above : (new old : ℕ) (l : List ℕ) → old ≤ new → Topped old l → l ≡ cut new l
cut-above new old l h t = sym (cut-same new l (λ i k. t.zero i (omega arith)))

-- the topmost word zeroed
pub cut-last : (new old : ℕ) (l : List ℕ) → new < old → Topped old l → set l (old - 1) 0 ≡ cut (old - 1) l
cut-last new old l h t = cut-next new old l l h (cut-above old old l (omega arith) t)

-- a word above the top zeroed again
cut_again : (i : ℕ) (l : List ℕ) → set (cut i l) i 0 ≡ cut i l
unfolding cut
cut_again i [] = refl
cut_again zero (w ∷ l) = refl
cut_again (suc i) (w ∷ l) = ap (λ (k : List ℕ). w ∷ k) (cut_again i l)

-- one word goes, or two
pub cut-one : (new old : ℕ) (l : List ℕ) → new < old → old ≤ new + 1 → Topped old l → set l new 0 ≡ cut new l
cut-one new old l h k t =
    let e : old - 1 ≡ new = omega arith in
    subst (λ (i : ℕ). set l i 0 ≡ cut i l) e (cut-last new old l h t)

pub cut-two : (new old : ℕ) (l : List ℕ) → new < old → old ≤ new + 2 → Topped old l → set (set l (old - 1) 0) new 0 ≡ cut new l
cut-two new old l h k t = rw (cut-last new old l h t) (go (old - 1) (omega arith) (omega arith))
  where
    go : (i : ℕ) → new ≤ i → i ≤ new + 1 → set (cut i l) new 0 ≡ cut new l
    go i a b = ⊎_elim (λ e. rw (← e) (cut_again new l)) (λ u. let e : i ≡ suc new = omega arith in rw e (cut_down new l)) (eq-or-lt_of_le a)
