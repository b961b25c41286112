-- The finished map, and what a file that passes is: proofs/Exact.antt has the theorems.
use Rattle.std.specs.Prelude.{ℕ, zero, suc, ◌+◌, ◌*◌, ◌<◌, ◌≤◌, List, ◌∷◌, ◌++◌, ◌≡◌, refl, length, get_or, drop}
use Rattle.std.proofs.Math.Path.{ap}
use Rattle.std.proofs.Common.{◌∙◌, length-append, length-drop, drop_at}
use native.Mathlib.Omega.{arith}
use Rattle.std.proofs.Math.ListN.{get_or-append}
use Rattle.model.specs.Checker.{none, state, Known, state_at, passed, flow, map_from}
use Rattle.model.specs.Sound.{main_at, ptr_at, inner_at}
use Rattle.model.specs.Calls.{map_size, over_map}
use Rattle.model.specs.Claim.{assigned, InOrder}

-- three numbers a place
get-behind : (a b c : ℕ) (map : List ℕ) (i j : ℕ) → i ≡ suc (suc (suc j)) → get_or (a ∷ b ∷ c ∷ map) i none ≡ get_or map j none
get-behind a b c map i j e = rw e

behind : (a b c : ℕ) (map : List ℕ) (j : ℕ) → assigned (a ∷ b ∷ c ∷ map) (suc j) ≡ assigned map j
unfolding main_at ptr_at inner_at
behind a b c map j =
    let x = get-behind a b c map (3 * suc j) (3 * j) (omega arith) in
    let y = get-behind a b c map (3 * suc j + 1) (3 * j + 1) (omega arith) in
    let z = get-behind a b c map (3 * suc j + 2) (3 * j + 2) (omega arith) in
    λ i. state (x i) (y i) (z i)

map_at : (k : Known) (n p j : ℕ) → j < n → assigned (map_from k n p) j ≡ state_at k (p + j)
unfolding map_from main_at ptr_at inner_at
map_at k zero p j h = absurd (omega arith)
map_at k (suc n) p zero h = let z : p ≡ p + 0 = omega arith in ap (state_at k) z
map_at k (suc n) p (suc j) h =
    let s = state_at k p in
    let z : suc p + j ≡ p + suc j = omega arith in
    behind s.main s.ptr s.inner (map_from k n (suc p)) j ∙ map_at k n (suc p) j (omega arith) ∙ ap (state_at k) z

map-length : (k : Known) (n p : ℕ) → length (map_from k n p) ≡ 3 * n
unfolding map_from
map-length k zero p = refl
map-length k (suc n) p = rw (map-length k n (suc p)) (omega arith)

-- the numbers of the map's part: those in front of what is kept
front_at : (new rest : List ℕ) (n p : ℕ) → length new ≡ 3 * n → p < n → assigned (new ++ rest) p ≡ assigned new p
unfolding main_at ptr_at inner_at
front_at new rest n p e h =
    let x = get_or-append new rest none (3 * p) (omega arith) in
    let y = get_or-append new rest none (3 * p + 1) (omega arith) in
    let z = get_or-append new rest none (3 * p + 2) (omega arith) in
    λ i. state (x i) (y i) (z i)

module _ (f map : List ℕ) (k : Known) where
  -- the finished map
  abbrev pub finished_map : List ℕ
  finished_map = over_map f map (map_from k (length f) 0)

  pub finished-map-at : (p : ℕ) → p < length f → assigned finished_map p ≡ state_at k p
  unfolding over_map
  finished-map-at p h =
      let z : 0 + p ≡ p = omega arith in
      front_at (map_from k (length f) 0) (drop (map_size f) map) (length f) p (map-length k (length f) 0) h
      ∙ map_at k (length f) 0 p h
      ∙ ap (state_at k) z

  pub finished-length : map_size f ≤ length map → length finished_map ≡ length map
  unfolding over_map
  finished-length h = simp (length-append, map-length, length-drop) (omega arith)

-- a map finished again is the same
pub finished-again : (f map : List ℕ) (k : Known) → finished_map f (finished_map f map k) k ≡ finished_map f map k
unfolding over_map
finished-again f map k =
    ap (λ (l : List ℕ). map_from k (length f) 0 ++ l)
    (drop_at (map_from k (length f) 0) (drop (map_size f) map) (map_size f) (map-length k (length f) 0))

-- what a pass says
pub record Passed (f map new : List ℕ) : Type 0 where
  pub formed : InOrder f
  pub room : map_size f ≤ length map
  pub known : Known
  pub flows : flow f ≡ passed known
  pub is : new ≡ finished_map f map known
