-- Whether every index of a range passes a test; and that of the words of a list, told without a branch for each: by an `and` of all tests,
-- or, of words that are to be 0, by joining their bits, which are 0 or one of the words is not.
use Rattle.std.specs.Prelude.{ℕ, zero, suc, ◌+◌, ◌-◌, ◌<◌, ◌≤◌, ◌≡◌, refl, Bool, true, false, ◌&&◌, List, [], ◌∷◌, ◌⊎◌, eqb, length, take}
use Rattle.std.proofs.Common.{sym, ◌∙◌, ap, subst, inl, inr, arith, eq-eqb, ne_eqb}
use Rattle.std.proofs.Math.Decide.{ℕ_discrete}
use Rattle.std.proofs.Math.Bool.{and-true, and_assoc}
use Rattle.std.specs.List.{between, fold, list_all}
use Rattle.std.specs.Int.Bits.{bit_or, or_add_and}
use Rattle.std.proofs.lemmas.Nat.{and_le_l, and_le_r}
use Rattle.std.proofs.lemmas.Slice.{between_from_start}
use Rattle.std.proofs.lemmas.List.Edits.{length-between, get_or-between}
use Rattle.model.specs.Words.{word_at}

-- whether a word is 0
unfoldable pub zero_at : List ℕ → ℕ → Bool
zero_at h i = eqb (word_at h i) 0

-- a test's answer as a number, for those that count
unfoldable pub one_if : Bool → ℕ
one_if true = 1
one_if false = 0

pub one-is : (t : Bool) (r : ℕ) → r ≡ one_if t → eqb r 1 ≡ t
unfolding one_if
one-is true r e = eq-eqb r 1 e
one-is false r e = ne_eqb r 1 (λ f. omega arith)

-- an index from `from` up to `end` that fails
pub record Failing (P : ℕ → Bool) (from end : ℕ) : Type 0 where
  pub at : ℕ
  pub low : from ≤ at
  pub high : at < end
  pub fails : P at ≡ false

-- every index from `from` up to `end` passes
abbrev pub Passing : (ℕ → Bool) → ℕ → ℕ → Type 0
Passing P from end = (j : ℕ) → from ≤ j → j < end → P j ≡ true

-- the answer says which
abbrev pub Every : (ℕ → Bool) → ℕ → ℕ → Bool → Type 0
Every P from end true = Passing P from end
Every P from end false = Failing P from end

module _ (P : ℕ → Bool) (from : ℕ) where
  pub every-none : Every P from from true
  every-none j a b = absurd (omega arith)

  -- one index more
  pub every_more : (i : ℕ) (b : Bool) → from ≤ i → Every P from i b → Every P from (i + 1) (b && P i)
  every_more i b a E = go (P i) refl b E
    where
      next : (j : ℕ) → Passing P from i → P i ≡ true → from ≤ j → j < i + 1 → P j ≡ true
      next j A p b c = at (ℕ_discrete j i)
        where
          at : Dec (j ≡ i) → P j ≡ true
          at (yes f) = rw f p
          at (no f) = A j b (omega arith)

      go : (t : Bool) → P i ≡ t → (b : Bool) → Every P from i b → Every P from (i + 1) (b && t)
      go true p true A = λ j b c. next j A p b c
      go false p true A = record { at = i; low = a; high = omega arith; fails = p }
      go t p false F = record { at = F.at; low = F.low; high = let h = F.high in omega arith; fails = F.fails }

  -- a walk that starts behind the end sees none
  pub every-end : (i end : ℕ) (b : Bool) → end ≤ i → (i ≡ from) ⊎ (i ≤ end) → Every P from i b → Every P from end b
  every-end i end true a w A = λ j b c. A j b (omega arith)
  every-end i end false a w F = record { at = F.at; low = F.low; high = go w; fails = F.fails }
    where
      go : (i ≡ from) ⊎ (i ≤ end) → F.at < end
      go (inl e) = let l = F.low in let h = F.high in absurd (omega arith)
      go (inr e) = let h = F.high in omega arith

-- The same of the words of a list, and of those of a part of it

front : (P : ℕ → Bool) (n : ℕ) (b : Bool) → Every (λ i. P (suc i)) 0 n b → Every P 0 (suc n) (P 0 && b)
front P n b E = go (P 0) refl b E
  where
    go : (t : Bool) → P 0 ≡ t → (b : Bool) → Every (λ i. P (suc i)) 0 n b → Every P 0 (suc n) (t && b)
    go false p b E = record { at = 0; low = omega arith; high = omega arith; fails = p }
    go true p true A = λ j a h. at j h
      where
        at : (j : ℕ) → j < suc n → P j ≡ true
        at zero h = p
        at (suc j) h = A j (omega arith) (omega arith)
    go true p false F = let h = F.high in record { at = suc F.at; low = omega arith; high = omega arith; fails = F.fails }

pub every-list : (Q : ℕ → Bool) (l : List ℕ) → Every (λ i. Q (word_at l i)) 0 (length l) (list_all Q l)
every-list Q [] = every-none (λ i. Q (word_at [] i)) 0
every-list Q (w ∷ l) = front (λ i. Q (word_at (w ∷ l) i)) (length l) (list_all Q l) (every-list Q l)

pub every-part : (P : ℕ → Bool) (Q : ℕ → Bool) (from n : ℕ) (b : Bool) → ((i : ℕ) → i < n → Q i ≡ P (from + i)) → Every Q 0 n b → Every P from (from + n) b
every-part P Q from n true same A = λ j a h.
    let i : ℕ = j - from in
    let e : from + i ≡ j = omega arith in
    rw (← e) (sym (same i (omega arith)) ∙ A i (omega arith) (omega arith))
every-part P Q from n false same F =
    let h = F.high in
    record { at = from + F.at; low = omega arith; high = omega arith; fails = sym (same F.at h) ∙ F.fails }

-- told of the words from `from` up to `end` in a list of their own
pub every-within : (Q : ℕ → Bool) (l : List ℕ) (from end : ℕ) (b : Bool) → from ≤ end → end ≤ length l →
    Every (λ i. Q (word_at (between from end l) i)) 0 (length (between from end l)) b → Every (λ i. Q (word_at l i)) from end b
every-within Q l from end b a h E =
    let part = between from end l in
    let n = length-between l from end h in
    let e : from + length part ≡ end = omega arith in
    subst (λ (e : ℕ). Every (λ i. Q (word_at l i)) from e b) e
    (every-part (λ i. Q (word_at l i)) (λ i. Q (word_at part i)) from (length part) b
    (λ i k. ap Q (get_or-between l from end i 0 (omega arith))) E)

pub every-between : (Q : ℕ → Bool) (l : List ℕ) (from end : ℕ) → from ≤ end → end ≤ length l →
    Every (λ i. Q (word_at l i)) from end (list_all Q (between from end l))
every-between Q l from end a b = every-within Q l from end (list_all Q (between from end l)) a b (every-list Q (between from end l))

pub every-first : (Q : ℕ → Bool) (l : List ℕ) (n : ℕ) (b : Bool) → n ≤ length l →
    Every (λ i. Q (word_at (take n l) i)) 0 (length (take n l)) b → Every (λ i. Q (word_at l i)) 0 n b
every-first Q l n b h E = every-within Q l 0 n b (omega arith) h (rw (between_from_start l n) E)

-- Words that are to be 0 are joined: their bits are 0, or one of the words is not.

join-flag : (any w : ℕ) → eqb any 0 && eqb w 0 ≡ eqb (bit_or any w) 0
join-flag any w = go (ℕ_discrete any 0) (ℕ_discrete w 0)
  where
    go : Dec (any ≡ 0) → Dec (w ≡ 0) → eqb any 0 && eqb w 0 ≡ eqb (bit_or any w) 0
    go (yes e) (yes f) = rw (e, f)
    go (yes e) (no f) = rw (eq-eqb any 0 e, ne_eqb w 0 f, ne_eqb (bit_or any w) 0 (λ z. f (omega (arith, or_add_and any w, and_le_l any w))))
    go (no e) f = rw (ne_eqb any 0 e, ne_eqb (bit_or any w) 0 (λ z. e (omega (arith, or_add_and any w, and_le_r any w))))

pub joined : (any : ℕ) (l : List ℕ) → eqb (fold bit_or any l) 0 ≡ eqb any 0 && list_all (λ w. eqb w 0) l
joined any [] = sym (and-true (eqb any 0))
joined any (w ∷ l) = joined (bit_or any w) l ∙ ap (λ t. t && list_all (λ w. eqb w 0) l) (sym (join-flag any w)) ∙ and_assoc (eqb any 0) (eqb w 0) (list_all (λ w. eqb w 0) l)

-- One index more: those that pass are counted, or words that are to be 0 are joined.

count-flag : (good n r : ℕ) (p : Bool) → good ≤ n → r ≡ one_if p → eqb good n && p ≡ eqb (good + r) (n + 1)
unfolding one_if
count-flag good n r p a e = go p e (ℕ_discrete good n)
  where
    go : (p : Bool) → r ≡ one_if p → Dec (good ≡ n) → eqb good n && p ≡ eqb (good + r) (n + 1)
    go true e (yes f) = rw (eq-eqb good n f, eq-eqb (good + r) (n + 1) (omega arith))
    go false e (yes f) = rw (eq-eqb good n f, ne_eqb (good + r) (n + 1) (λ g. omega arith))
    go true e (no f) = rw (ne_eqb good n f, ne_eqb (good + r) (n + 1) (λ g. omega arith))
    go false e (no f) = rw (ne_eqb good n f, ne_eqb (good + r) (n + 1) (λ g. omega arith))

pub counted-more : (P : ℕ → Bool) (from i good r : ℕ) → from ≤ i → good ≤ i - from → r ≡ one_if (P i) →
    Every P from i (eqb good (i - from)) → Every P from (i + 1) (eqb (good + r) (i + 1 - from))
counted-more P from i good r a b e E =
    let n : i + 1 - from ≡ i - from + 1 = omega arith in
    rw (n, ← count-flag good (i - from) r (P i) b e) (every_more P from i (eqb good (i - from)) a E)

pub joined-more : (l : List ℕ) (from i any : ℕ) → from ≤ i → Every (zero_at l) from i (eqb any 0) →
    Every (zero_at l) from (i + 1) (eqb (bit_or any (word_at l i)) 0)
unfolding zero_at
joined-more l from i any a E = rw (← join-flag any (word_at l i)) (every_more (zero_at l) from i (eqb any 0) a E)
