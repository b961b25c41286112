-- What the code leaves of the heap where an object is made is what the model says: header, size and mark first, then the words of its parts.
use Rattle.std.specs.Prelude.{ℕ, suc, ◌+◌, ◌<◌, ◌≡◌, refl, zero, List, [], ◌∷◌, ◌++◌, length, set, replicate}
use Rattle.std.proofs.Common.{ap, sym, ◌∙◌, arith}
use Rattle.std.proofs.lemmas.List.{length-replicate, replicate-append-replicate}
use Rattle.std.proofs.lemmas.List.Edits.{sets}
use Rattle.model.specs.Heap.{mark_of, made}
use Rattle.laws.specs.Stores.{sets-append}
use Rattle.apply_objects.specs.Asks.{begun}

-- one word more is filled
pub fill_more : (h : List ℕ) (from i n w : ℕ) → i ≡ from + n → set (sets h from (replicate n w)) i w ≡ sets h from (replicate (n + 1) w)
fill_more h from i n w e =
    let l : from + length (replicate n w) ≡ i = ap (λ (k : ℕ). from + k) (length-replicate n w) ∙ sym e in
    sym (ap (sets h from) (sym (replicate-append-replicate n 1 w)) ∙ rw (sets-append (replicate n w) (w ∷ []) h from, l) refl)

-- a store behind word 0, and one in it
set-swap : (l : List ℕ) (i v w : ℕ) → 0 < i → set (set l 0 v) i w ≡ set (set l i w) 0 v
set-swap [] i v w a = refl
set-swap (x ∷ l) (suc i) v w a = refl
set-swap (x ∷ l) zero v w a = elim a [ ]

sets-swap : (ws l : List ℕ) (i v : ℕ) → 0 < i → sets (set l 0 v) i ws ≡ set (sets l i ws) 0 v
sets-swap [] l i v a = refl
sets-swap (w ∷ ws) l i v a = ap (λ (k : List ℕ). sets k (suc i) ws) (set-swap l i v w a) ∙ sets-swap ws (set l i w) (suc i) v (omega arith)

-- header, size and mark, then the words of both parts: the whole object
object-made : (kind : ℕ) (ps ws h : List ℕ) →
    sets (sets (begun kind (length ps) (length ws) h) (mark_of h + 2) ps) (mark_of h + 2 + length ps) ws ≡ made kind ps ws h
unfolding begun made
object-made kind ps ws h =
    let a : mark_of h + 1 ≡ suc (mark_of h) = omega arith in
    let b : mark_of h + 2 ≡ suc (suc (mark_of h)) = omega arith in
    rw (a, b) (sym (sets-append ps ws _ (suc (suc (mark_of h)))) ∙ sets-swap (ps ++ ws) _ (suc (suc (mark_of h))) _ (omega arith))

-- what the code leaves, where `begin` has left h₀, and `first` is the index of the word behind header and size
module _ (h : List ℕ) (kind n k : ℕ) {h₀ : List ℕ} {first : ℕ} (f : first ≡ mark_of h + 2) (b : h₀ ≡ begun kind n k h) where
  -- both parts are copied
  pub both-copied : (ps ws : List ℕ) {h₁ h₂ : List ℕ} → n ≡ length ps → k ≡ length ws → h₁ ≡ sets h₀ first ps → h₂ ≡ sets h₁ (first + n) ws →
      h₂ ≡ made kind ps ws h
  both-copied ps ws en ek e₁ e₂ = rw (e₂, e₁, b, f, en, ek) (object-made kind ps ws h)

  -- no pointer words; a plain word, and m times another
  pub plain-filled : (v w : ℕ) {m c : ℕ} {h₂ : List ℕ} → c ≡ m → n ≡ 0 → k ≡ 1 + c → h₂ ≡ sets (set h₀ first v) (first + 1) (replicate c w) →
      h₂ ≡ made kind [] (v ∷ replicate m w) h
  plain-filled v w {m} ec en ek e =
      let a : mark_of h + 2 + 1 ≡ suc (mark_of h + 2) = omega arith in
      let z : mark_of h + 2 + 0 ≡ mark_of h + 2 = omega arith in
      let d : k ≡ suc (length (replicate m w)) = omega (arith, ec, ek, length-replicate m w) in
      rw (e, b, f, en, d, a, ec) (rw z at (object-made kind [] (v ∷ replicate m w) h))

  -- n times a pointer, and a plain word
  pub pointers-filled : (v w : ℕ) {m c : ℕ} {h₁ : List ℕ} → c ≡ m → n ≡ c → k ≡ 1 → h₁ ≡ sets h₀ first (replicate c w) →
      set h₁ (first + c) v ≡ made kind (replicate m w) (v ∷ []) h
  pointers-filled v w {m} ec en ek e =
      rw (e, b, f, en, ek, ec) (rw (length-replicate m w) at (object-made kind (replicate m w) (v ∷ []) h))
