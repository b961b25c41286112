-- What steps keep, runs keep: the states after so many steps, and the state that a run leaves, whose answer is no refusal. By induction
-- on the steps.
use Prim.Native.Nat.{ℕ, zero, suc}
use Rattle.std.specs.Prelude.{◌≡◌, Bool, List}
use Rattle.std.proofs.Math.Path.{refl, subst}
use Rattle.std.proofs.Math.Bool.{true, false}
use Rattle.std.proofs.Common.{true≢false, arith}
use Rattle.std.proofs.Math.Dec.{eqb}
use Rattle.std.proofs.lemmas.Bool.{eqb-false}
use Rattle.model.specs.Choice.{when◌then◌else◌}
use Rattle.model.specs.Control.{Machine}
use Rattle.model.specs.Step.{Stepped, next, uncaught, step, Ran, ran, and_run, run_on}
use Rattle.model.specs.Calls.{told_of}
use Rattle.model.specs.Claim.{NotRefused, there, nowhere, and_reach, after_steps}
use Rattle.model.specs.declared.Answer.TheVariants as answer

finished-told : (k : ℕ) → NotRefused (answer.Finished k)
unfolding told_of
finished-told k e = omega arith

spent-told : (k : ℕ) → NotRefused (answer.Spent k)
unfolding told_of
spent-told k e = omega arith

uncaught-told : (code p k : ℕ) → NotRefused (answer.Uncaught code p k)
unfolding told_of
uncaught-told code p k e = omega arith

module _ (f : List ℕ) (I : Machine → Type 0)
    (keeps : (m m' : Machine) → I m → (m.regs.state ≡ 1 → ⊥) → step f m ≡ next m' → I m')
    (stays : (m m' : Machine) (code : ℕ) → I m → step f m ≡ uncaught code m' → I m') where
  pub after-keeps : (k : ℕ) (m m' : Machine) → I m → after_steps f k m ≡ there m' → I m'
  unfolding after_steps
  after-keeps zero m m' h e = let w : m ≡ m' = cc in subst I w h
  after-keeps (suc k) m m' h e = go (eqb m.regs.state 1) refl (step f m) refl (λ x. after-keeps k x m') e
    where
      go : (t : Bool) → eqb m.regs.state 1 ≡ t → (o : Stepped) → step f m ≡ o →
          ((x : Machine) → I x → after_steps f k x ≡ there m' → I m') →
          (when t then nowhere else and_reach o (after_steps f k)) ≡ there m' → I m'
      go true u o d r v = absurd (true≢false (cc))
      go false u (next x) d r v = r x (keeps m x h (eqb-false m.regs.state 1 u) d) v
      go false u (uncaught c x) d r v = absurd (true≢false (cc))

  abbrev Fine : Ran → Type 0
  Fine r = I r.state × NotRefused r.answer

  pub run-keeps : (n k : ℕ) (m : Machine) → I m → Fine (run_on f n k m)
  unfolding run_on
  run-keeps zero k m h = go (eqb m.regs.state 1)
    where
      go : (t : Bool) → Fine (when t then ran (answer.Finished k) m else ran (answer.Spent k) m)
      go true = (h, finished-told k)
      go false = (h, spent-told k)
  run-keeps (suc n) k m h = go (eqb m.regs.state 1) refl (step f m) refl (λ x. run-keeps n (suc k) x)
    where
      go : (t : Bool) → eqb m.regs.state 1 ≡ t → (o : Stepped) → step f m ≡ o →
          ((x : Machine) → I x → Fine (run_on f n (suc k) x)) →
          Fine (when t then ran (answer.Finished k) m else and_run (run_on f n (suc k)) k o)
      go true u o d r = (h, finished-told k)
      go false u (next x) d r = r x (keeps m x h (eqb-false m.regs.state 1 u) d)
      go false u (uncaught c x) d r = (stays m x c h d, uncaught-told c x.regs.place k)
