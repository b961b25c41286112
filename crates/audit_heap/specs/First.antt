-- The lowest index at fault: a list of indices is tested in its order (`first_bad`). It has none exactly where every index passes; what it
-- gives is in the list and does not pass, and where the list rises, all that is lower passes (`good-below`).
use Rattle.std.specs.Prelude.{ℕ, zero, suc, ◌+◌, ◌-◌, ◌<◌, ◌≤◌, Bool, eqb, length}
use Rattle.std.proofs.Math.Path.{◌≡◌, refl}
use Rattle.std.proofs.Math.Bool.{true, false}
use mathlib.Core.List.{List, [], ◌∷◌, ◌++◌}
use Rattle.std.proofs.Common.{Ok, Err, sym, inl, inr, arith}
use Rattle.std.proofs.Math.Decide.{ℕ_discrete}
use Rattle.model.specs.Choice.{when◌then◌else◌, Mem}
use Rattle.model.specs.Words.{word_at}
use Rattle.laws.specs.Members.{Rising}
use Rattle.model.specs.Heap.{mark_of, first_object, Audit, fault, clean, walk, is_pointer, range, pointers_first, zeros_first}
use Rattle.audit_words.specs.Every.{zero_at}
use Rattle.audit_heap.specs.Judgement.{Judgement, faultless, faulty, same-fault}

unfoldable pub first_bad : (ℕ → Bool) → List ℕ → Judgement
first_bad P [] = faultless
first_bad P (i ∷ is) = when P i then first_bad P is else faulty i

-- the walk of a whole heap, and its words from the mark on
abbrev pub walked : List ℕ → Audit
walked h = walk (length h) h first_object (mark_of h)

abbrev pub free_words : List ℕ → List ℕ
free_words h = range (mark_of h) (length h - mark_of h)

-- what the audit answers of the model's
abbrev pub audit_answer : Audit → Judgement
audit_answer (fault q) = faulty q
audit_answer (clean os) = faultless

-- the first fault of two
abbrev pub or_else : Judgement → Judgement → Judgement
or_else (Ok u) b = b
or_else (Err w) b = Err w

abbrev pub or_audit : Judgement → Audit → Audit
or_audit (Ok u) b = b
or_audit (Err w) b = fault w.at

-- the model's test of a pointer, as `zero_at` is of a free word
abbrev pub pointer_at : List ℕ → List ℕ → ℕ → Bool
pointer_at h os i = is_pointer os (word_at h i)

pub pointers-first : (h os is : List ℕ) (rest : Audit) → pointers_first h os is rest ≡ or_audit (first_bad (pointer_at h os) is) rest
unfolding pointers_first first_bad
pointers-first h os [] rest = refl
pointers-first h os (i ∷ is) rest = go (is_pointer os (word_at h i)) (pointers-first h os is rest)
  where
    go : (t : Bool) → pointers_first h os is rest ≡ or_audit (first_bad (pointer_at h os) is) rest →
        (when t then pointers_first h os is rest else fault i) ≡ or_audit (when t then first_bad (pointer_at h os) is else faulty i) rest
    go true e = e
    go false e = refl

pub zeros-first : (h is : List ℕ) (rest : Audit) → zeros_first h is rest ≡ or_audit (first_bad (zero_at h) is) rest
unfolding zeros_first first_bad zero_at
zeros-first h [] rest = refl
zeros-first h (i ∷ is) rest = go (eqb (word_at h i) 0) (zeros-first h is rest)
  where
    go : (t : Bool) → zeros_first h is rest ≡ or_audit (first_bad (zero_at h) is) rest →
        (when t then zeros_first h is rest else fault i) ≡ or_audit (when t then first_bad (zero_at h) is else faulty i) rest
    go true e = e
    go false e = refl

module _ (P : ℕ → Bool) where
  pub bad-append : (is js : List ℕ) → first_bad P (is ++ js) ≡ or_else (first_bad P is) (first_bad P js)
  unfolding first_bad
  bad-append [] js = refl
  bad-append (i ∷ is) js = go (P i) (bad-append is js)
    where
      go : (t : Bool) → first_bad P (is ++ js) ≡ or_else (first_bad P is) (first_bad P js) →
          (when t then first_bad P (is ++ js) else faulty i) ≡ or_else (when t then first_bad P is else faulty i) (first_bad P js)
      go true e = e
      go false e = refl

  -- every index passes
  pub all-good : (is : List ℕ) → first_bad P is ≡ faultless → (i : ℕ) → Mem i is → P i ≡ true
  unfolding first_bad
  all-good (j ∷ is) e i m = go (P j) refl (all-good is) e m
    where
      go : (t : Bool) → P j ≡ t → (first_bad P is ≡ faultless → (i : ℕ) → Mem i is → P i ≡ true) →
          (when t then first_bad P is else faulty j) ≡ faultless → Mem i (j ∷ is) → P i ≡ true
      go true u f w (inl m) = rw m u
      go true u f w (inr m) = f w i m
      go false u f w m = cc
  all-good [] e i m = elim m [ ]

  pub none-bad : (is : List ℕ) → ((i : ℕ) → Mem i is → P i ≡ true) → first_bad P is ≡ faultless
  unfolding first_bad
  none-bad [] f = refl
  none-bad (i ∷ is) f = rw (f i (inl refl)) (none-bad is (λ j m. f j (inr m)))

  pub bad-in : (is : List ℕ) (q : ℕ) → first_bad P is ≡ faulty q → Mem q is × (P q ≡ false)
  unfolding first_bad
  bad-in [] q e = let z : ◌≡◌ {A = ℕ} 0 1 = cc in absurd (omega arith)
  bad-in (i ∷ is) q e = go (P i) refl (bad-in is q) e
    where
      go : (t : Bool) → P i ≡ t → (first_bad P is ≡ faulty q → Mem q is × (P q ≡ false)) →
          (when t then first_bad P is else faulty i) ≡ faulty q → Mem q (i ∷ is) × (P q ≡ false)
      go true u f w = let r = f w in (inr r.0, r.1)
      go false u f w = let g = same-fault i q w in (inl (sym g), rw (← g) u)

  pub good-below : (is : List ℕ) (q : ℕ) → Rising is → first_bad P is ≡ faulty q → (i : ℕ) → Mem i is → i < q → P i ≡ true
  unfolding first_bad
  good-below [] q R e i m l = absurd m
  good-below (j ∷ is) q R e i m l = go (P j) refl (good-below is q R.1) e m
    where
      go : (t : Bool) → P j ≡ t → (first_bad P is ≡ faulty q → (i : ℕ) → Mem i is → i < q → P i ≡ true) →
          (when t then first_bad P is else faulty j) ≡ faulty q → Mem i (j ∷ is) → P i ≡ true
      go true u f w (inl m) = rw m u
      go true u f w (inr m) = f w i m l
      go false u f w (inl m) = let g = same-fault j q w in absurd (omega arith)
      go false u f w (inr m) = let g = same-fault j q w in absurd (omega (arith, R.0 i m))

-- the indices of a range
pub range-mem : (q n i : ℕ) → Mem i (range q n) → (q ≤ i) × (i < q + n)
range-mem q (suc n) i (inl e) = (omega arith, omega arith)
range-mem q (suc n) i (inr m) = let r = range-mem (suc q) n i m in (omega arith, omega arith)
range-mem q zero i x' = elim x' [ ]

pub range-rising : (q n : ℕ) → Rising (range q n)
range-rising q zero = tt
range-rising q (suc n) = (λ i m. omega (arith, (range-mem (suc q) n i m).0), range-rising (suc q) n)

pub mem-range : (q n i : ℕ) → q ≤ i → i < q + n → Mem i (range q n)
mem-range q zero i a b = absurd (omega arith)
mem-range q (suc n) i a b = go (ℕ_discrete i q) (mem-range (suc q) n i)
  where
    go : Dec (i ≡ q) → (suc q ≤ i → i < suc q + n → Mem i (range (suc q) n)) → Mem i (range q (suc n))
    go (yes e) f = inl e
    go (no e) f = inr (f (omega arith) (omega arith))
