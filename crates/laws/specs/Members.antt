-- Members of a list: as a test and as a statement, by their index, of two lists joined, of a selection; lists that rise. Each law is an induction on the list.
use Rattle.std.specs.Prelude.{ℕ, zero, suc, ◌<◌, ◌-◌, Bool, true, false, List, [], ◌∷◌, ◌++◌, ◌⊎◌, ◌≡◌, refl, eqb, length, get_or}
use Rattle.std.proofs.Common.{true≢false, inl, inr, sym, arith, eqb-true, eq-eqb}
use Rattle.model.specs.Choice.{member, Mem, when◌then◌else◌}
use Rattle.model.specs.File.{select}

-- members of a list
pub member-in : (q : ℕ) (l : List ℕ) → member q l ≡ true → Mem q l
member-in q [] e = absurd (true≢false (sym e))
member-in q (p ∷ l) e = go (eqb q p) refl (λ h. member-in q l h) e
  where
    go : (t : Bool) → eqb q p ≡ t → (member q l ≡ true → Mem q l) → (when t then true else member q l) ≡ true → Mem q (p ∷ l)
    go true h r e = inl (eqb-true q p h)
    go false h r e = inr (r e)

pub in-member : (q : ℕ) (l : List ℕ) → Mem q l → member q l ≡ true
in-member q (p ∷ l) (inl e) = rw (eq-eqb q p e)
in-member q (p ∷ l) (inr h) = go (eqb q p) (in-member q l h)
  where
    go : (t : Bool) → member q l ≡ true → (when t then true else member q l) ≡ true
    go true e = refl
    go false e = e
in-member q [] x' = elim x' [ ]

-- a list that rises
abbrev pub Rising : List ℕ → Type 0
Rising [] = Unit {0}
Rising (p ∷ ps) = ((q : ℕ) → Mem q ps → p < q) × Rising ps

-- members of a list
pub get_or-in : (l : List ℕ) (n d : ℕ) → n < length l → Mem (get_or l n d) l
get_or-in [] n d h = absurd (omega arith)
get_or-in (a ∷ l) zero d h = inl refl
get_or-in (a ∷ l) (suc n) d h = inr (get_or-in l n d (omega arith))

pub has_some : (a : ℕ) (l : List ℕ) → Mem a l → 0 < length l
has_some a (b ∷ l) h = omega arith
has_some a [] h = elim h [ ]

-- the members of two lists joined
pub mem-append : (i : ℕ) (l r : List ℕ) → Mem i (l ++ r) → Mem i l ⊎ Mem i r
mem-append i [] r m = inr m
mem-append i (a ∷ l) r (inl e) = inl (inl e)
mem-append i (a ∷ l) r (inr m) = go (mem-append i l r m)
  where
    go : Mem i l ⊎ Mem i r → Mem i (a ∷ l) ⊎ Mem i r
    go (inl m) = inl (inr m)
    go (inr m) = inr m

pub mem-more : (i : ℕ) (l r : List ℕ) → Mem i l → Mem i (l ++ r)
mem-more i (a ∷ l) r (inl e) = inl e
mem-more i (a ∷ l) r (inr m) = inr (mem-more i l r m)
mem-more i [] r x' = elim x' [ ]

pub mem-right : (i : ℕ) (l r : List ℕ) → Mem i r → Mem i (l ++ r)
mem-right i [] r m = m
mem-right i (a ∷ l) r m = inr (mem-right i l r m)

pub rising-append : (l r : List ℕ) → Rising l → Rising r → ((i j : ℕ) → Mem i l → Mem j r → i < j) → Rising (l ++ r)
rising-append [] r L R f = R
rising-append (a ∷ l) r L R f = (λ q m. go q (mem-append q l r m), rising-append l r L.1 R (λ i j m. f i j (inr m)))
  where
    go : (q : ℕ) → Mem q l ⊎ Mem q r → a < q
    go q (inl m) = L.0 q m
    go q (inr m) = f a q (inl refl) m

-- what a selection keeps
module _ (t : ℕ → Bool) where
  pub select_in : (l : List ℕ) (q : ℕ) → Mem q (select t l) → Mem q l × (t q ≡ true)
  select_in [] q h = absurd h
  select_in (p ∷ l) q h = go (t p) refl (select_in l q) h
    where
      go : (b : Bool) → t p ≡ b → (Mem q (select t l) → Mem q l × (t q ≡ true)) →
          Mem q (when b then p ∷ select t l else select t l) → Mem q (p ∷ l) × (t q ≡ true)
      go true e r (inl h) = (inl h, rw h e)
      go true e r (inr h) = let w = r h in (inr w.0, w.1)
      go false e r h = let w = r h in (inr w.0, w.1)

  pub in-select : (l : List ℕ) (q : ℕ) → Mem q l → t q ≡ true → Mem q (select t l)
  in-select (p ∷ l) q (inl h) e = let w : t p ≡ true = rw h at e in rw w (inl h)
  in-select (p ∷ l) q (inr h) e = go (t p) (in-select l q h e)
    where
      go : (b : Bool) → Mem q (select t l) → Mem q (when b then p ∷ select t l else select t l)
      go true r = inr r
      go false r = r
  in-select [] q x'' e = elim x'' [ ]

  pub select-rising : (l : List ℕ) → Rising l → Rising (select t l)
  select-rising [] r = tt
  select-rising (p ∷ l) r = go (t p) (select-rising l r.1)
    where
      go : (b : Bool) → Rising (select t l) → Rising (when b then p ∷ select t l else select t l)
      go true w = (λ q h. r.0 q (select_in l q h).0, w)
      go false w = w

-- within a list the default does not matter
pub get_d_any : (l : List ℕ) (i d d' : ℕ) → i < length l → get_or l i d ≡ get_or l i d'
get_d_any [] i d d' h = absurd (omega arith)
get_d_any (x ∷ l) zero d d' h = refl
get_d_any (x ∷ l) (suc i) d d' h = get_d_any l i d d' (omega arith)
