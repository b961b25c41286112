-- A pointer, as the audits test it and as soundness states it: each follows from the other. By cases on nil.
use Rattle.std.specs.Prelude.{ℕ, ◌≡◌, refl, Bool, true, false, ◌||◌, List, ◌≢◌, eqb}
use Rattle.std.proofs.Common.{inl, inr, eq-eqb, eqb-true}
use Rattle.model.specs.Choice.{member, Mem}
use Rattle.model.specs.Heap.{Pointer, is_pointer}
use Rattle.laws.specs.Members.{member-in, in-member}

pub pointer-true : (os : List ℕ) (v : ℕ) → is_pointer os v ≡ true → Pointer os v
unfolding is_pointer
pointer-true os v e = go (eqb v 0) refl e
  where
    go : (t : Bool) → eqb v 0 ≡ t → t || member v os ≡ true → Pointer os v
    go true u w = inl (eqb-true v 0 u)
    go false u w = inr (member-in v os w)

pub true-pointer : (os : List ℕ) (v : ℕ) → Pointer os v → is_pointer os v ≡ true
unfolding is_pointer
true-pointer os v (inl e) = rw (eq-eqb v 0 e)
true-pointer os v (inr i) = go (eqb v 0)
  where
    go : (t : Bool) → t || member v os ≡ true
    go true = refl
    go false = in-member v os i

-- one that is not nil
pub is-object : (os : List ℕ) (v : ℕ) → Pointer os v → v ≢ 0 → Mem v os
is-object os v (inl e) u = absurd (u e)
is-object os v (inr o) u = o
