-- `run_reals::at_real`: the match knows the plan, or that it is one of the others.
use Prim.Native.Nat.{ℕ}
use mathlib.Core.Bool.{false}
use mathlib.Core.Path.{◌≡◌, refl}
use Rattle.plan_meaning.specs.declared.Plan.{Plan}
use Rattle.plan_meaning.specs.declared.Plan.TheVariants.{Write, OutOfRange, NilObject, NoSuchWord, HeapFull, NoRoom, VectorFault, Thrown, Real}
use Rattle.run_reals.specs.Reckoning.{at_real?}
use Rattle.run_reals.proofs.at_real.Goals as goal

not-real : (plan : Plan) → ((p : ℕ) → plan ≡ Real p → ⊥) → false ≡ at_real? plan
unfolding at_real?
not-real (Write put) u = refl
not-real OutOfRange u = refl
not-real NilObject u = refl
not-real NoSuchWord u = refl
not-real HeapFull u = refl
not-real NoRoom u = refl
not-real VectorFault u = refl
not-real Thrown u = refl
not-real (Real p) u = absurd (u p refl)

pub returns-in-Real : goal.returns-in-Real
unfolding at_real?
returns-in-Real c = rw c.in-Real.is

pub returns-in_default : goal.returns-in_default
returns-in_default c = not-real _ c.in_default.not-Real
