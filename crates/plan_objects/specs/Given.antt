-- The definition in the values that the code computes.
use Rattle.std.specs.Prelude.{ℕ, ◌≡◌, Bool, true, false, Some, eqb}
use Rattle.std.proofs.Common.{◌∙◌, sym, eq-eqb, ne_eqb}
use Rattle.model.specs.Words.{bit, eq_w, operate}

-- the word of a comparison
pub same_word : (a b : ℕ) {w : ℕ} → Some w ≡ operate eq_w a b → w ≡ bit (eqb a b)
unfolding operate
same_word a b e = cc e

-- an object on the stack: whether it is nil
pub is-nil : {w r : ℕ} → r ≡ w → r ≡ 0 → eqb w 0 ≡ true
is-nil {w} e z = eq-eqb w 0 (sym e ∙ z)

-- the code reads the object w and the number k as r and s, and asks `test`, for plain or for pointer words, with the answer b
pub record FieldAsked (test : ℕ → ℕ → Bool) (w k r s : ℕ) (b : Bool) : Type 0 where
  pub object : r ≡ w
  pub number : s ≡ k
  pub some : eqb w 0 ≡ false
  pub part : test w k ≡ b

pub field-asked : (test : ℕ → ℕ → Bool) {w k r s : ℕ} {b : Bool} → r ≡ w → (r ≡ 0 → ⊥) → s ≡ k → b ≡ test r s → FieldAsked test w k r s b
field-asked test {w} e n d t = record { object = e; number = d; some = ne_eqb w 0 (λ z. n (e ∙ z)); part = rw (e, d) at (sym t) }
