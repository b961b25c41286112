-- `reals::is_real`: the codes of the two tests are computed; every instruction on reals has one of them.
use mathlib.Core.Bool.{Bool, true, false, true≢false}
use mathlib.Core.List.{List, [], ◌∷◌}
use mathlib.Core.Logic.{◌⊎◌, inl, inr, ⊎_elim}
use mathlib.Core.Path.{◌≡◌, refl, sym, ◌∙◌}
use Prim.Native.Nat.{ℕ}
use Rattle.model.specs.File.{ins_of}
use Rattle.laws_file.specs.Codes.{is_real?, real_codes, real-code}
use Rattle.laws_file.specs.Kinds.{OneOf, at_each}
use Rattle.reals.proofs.is_real.Goals as goal
use Rattle.reals.proofs.is_real.Goals.{in-53, in_default}

-- the codes of the two tests
abbrev one : List ℕ
one = 53 ∷ 150 ∷ 152 ∷ 155 ∷ []

abbrev other : List ℕ
other = 151 ∷ 153 ∷ 156 ∷ []

in_arms : {k : ℕ} → OneOf real_codes k → OneOf one k ⊎ OneOf other k
in_arms (inl z) = inl (inl z)
in_arms (inr (inl z)) = inl (inr (inl z))
in_arms (inr (inr (inl z))) = inr (inl z)
in_arms (inr (inr (inr (inl z)))) = inl (inr (inr (inl z)))
in_arms (inr (inr (inr (inr (inl z))))) = inr (inr (inl z))
in_arms (inr (inr (inr (inr (inr (inl z)))))) = inl (inr (inr (inr z)))
in_arms (inr (inr (inr (inr (inr (inr z)))))) = inr (inr (inr z))

not-real : (f : List ℕ) (p k : ℕ) → (OneOf real_codes k → ⊥) → false ≡ is_real? (ins_of f p k)
not-real f p k u = go (is_real? (ins_of f p k)) refl
  where
    go : (t : Bool) → is_real? (ins_of f p k) ≡ t → false ≡ is_real? (ins_of f p k)
    go true e = absurd (u (real-code f p k e))
    go false e = sym e

pub returns-then-matches : goal.returns-then-matches
unfolding ins_of
returns-then-matches c =
    elim c.match-matches.branch [
      | in-53 w ↦ λ f p. rw w.matches-is (at_each (λ k. true ≡ is_real? (ins_of f p k)) one _ (refl, (refl, (refl, (refl, tt)))) w.in-53.is)
      | in_default w ↦ absurd (true≢false (sym c.if-matches.true ∙ w.matches-is))
    ]

pub returns-in-151 : goal.returns-in-151
unfolding ins_of
returns-in-151 c = λ f p. at_each (λ k. true ≡ is_real? (ins_of f p k)) other _ (refl, (refl, (refl, tt))) c.in-151.is

pub returns-in_default-matches : goal.returns-in_default-matches
returns-in_default-matches c =
    elim c.match-matches.branch [
      | in-53 w ↦ absurd (true≢false (sym w.matches-is ∙ c.if-matches.false))
      | in_default w ↦ λ f p. not-real f p _ (λ o. ⊎_elim w.in_default.in_default-own.rest.1 c.in_default-matches.in_default-matches-own.rest.1 (in_arms o))
    ]
