-- Steps of a run: what is left of the budget decides what the rest of the run comes to, and soundness is kept. Steps add up.
use Prim.Native.Nat.{ℕ, suc, ◌+◌, ◌-◌, ◌<◌, ◌≤◌}
use Rattle.std.specs.Prelude.{Bool, true, false, List, ◌≡◌, refl, length}
use Rattle.std.proofs.Math.Path.{ap}
use Rattle.std.proofs.Common.{sym, ◌∙◌, subst, ne_eqb}
use native.Mathlib.Omega.{arith}
use Rattle.model.specs.Control.{Machine, set_regs}
use Rattle.plan_meaning.specs.Planned.{plan_at}
use Rattle.model.specs.Step.{next, step, run_on}
use Rattle.plan_meaning.specs.Settled.{settle, applied}
use Rattle.theory_step.specs.Alive.{Alive, alive-step}
use Rattle.theory_step.specs.Settling.{alive-plan}
use Rattle.apply.specs.Applies.{Late, Later, applied_if}
use Rattle.model.specs.declared.Regs.{Regs}
use Rattle.plan_meaning.specs.declared.Put.{Put}
use Rattle.plan_meaning.specs.declared.Plan.{Plan}
use Rattle.plan_meaning.specs.declared.Plan.TheVariants.{Write}

-- a sound state of a passed file, with some map
pub record Runs (f table : List ℕ) (m : Machine) : Type 0 where
  pub map : List ℕ
  pub alive : Alive f map table m

-- the lists keep their lengths
pub record SameLengths (m m₀ : Machine) : Type 0 where
  pub main : length m.main ≡ length m₀.main
  pub ptr : length m.ptr ≡ length m₀.ptr
  pub ctl : length m.ctl ≡ length m₀.ctl
  pub heap : length m.heap ≡ length m₀.heap

pub alike-trans : {m m' m'' : Machine} → SameLengths m'' m' → SameLengths m' m → SameLengths m'' m
alike-trans a b = record { main = a.main ∙ b.main; ptr = a.ptr ∙ b.ptr; ctl = a.ctl ∙ b.ctl; heap = a.heap ∙ b.heap }

-- with n steps left the machine is at m, and with n' left at m': the rest of the run is the same, however many steps were done before
pub record Going (f table : List ℕ) (n : ℕ) (m : Machine) (n' : ℕ) (m' : Machine) : Type 0 where
  pub less : n' ≤ n
  pub same : (k : ℕ) → run_on f n k m ≡ run_on f n' (k + (n - n')) m'
  pub runs : Runs f table m'
  pub alike : SameLengths m' m

-- a plan that is settled apart: it is that of the next instruction, and it raises or is late
pub record PlanPaused (f : List ℕ) (m : Machine) (plan : Plan) : Type 0 where
  pub is : plan ≡ plan_at f m
  pub late : Later m.regs plan

-- where the steps pause: at such a plan, or with no step left
pub record Paused (f table : List ℕ) (n : ℕ) (m : Machine) (n' : ℕ) (m' : Machine) (plan : Plan) : Type 0 where
  pub going : Going f table n m n' m'
  pub on? : m'.regs.state ≡ 1 → ⊥
  pub stopped : 0 < n' → PlanPaused f m' plan

-- a plan that does not write is settled apart
pub stopped-raise : {f : List ℕ} {m : Machine} {plan : Plan} → plan ≡ plan_at f m → ((put : Put) → plan ≡ Write put → ⊥) → PlanPaused f m plan
stopped-raise e never = record { is = e; late = λ put u. absurd (never put u) }

-- a write that is late is settled apart
stopped-late : (f : List ℕ) (m : Machine) (put : Put) → Write put ≡ plan_at f m → Late put.into m.regs → PlanPaused f m (Write put)
stopped-late f m put e L = record { is = e; late = λ put' u. subst (λ (p : Put). Late p.into m.regs) (write-one put put' u) L }
  where
    write-one : (p q : Put) → Write p ≡ Write q → p ≡ q
    write-one p q u = cc

module _ {f table : List ℕ} where
  pub going_start : {n : ℕ} {m : Machine} → Runs f table m → Going f table n m n m
  going_start {n} {m} R =
      record {
        less = omega arith;
        same = λ k. let e : k ≡ k + (n - n) = omega arith in ap (λ (i : ℕ). run_on f n i m) e;
        runs = R;
        alike = record { main = refl; ptr = refl; ctl = refl; heap = refl };
      }

  pub going-trans : {n n' n'' : ℕ} {m m' m'' : Machine} → Going f table n m n' m' → Going f table n' m' n'' m'' → Going f table n m n'' m''
  going-trans {n} {n'} {n''} {m'' = m''} G H =
      let a = G.less in
      let b = H.less in
      record {
        less = omega arith;
        same =
            λ k. let e : k + (n - n') + (n' - n'') ≡ k + (n - n'') = omega arith in
            G.same k ∙ H.same (k + (n - n')) ∙ ap (λ (i : ℕ). run_on f n'' i m'') e;
        runs = H.runs;
        alike = alike-trans H.alike G.alike;
      }

  -- steps before a pause
  pub paused-from : {n n' n'' : ℕ} {m m' m'' : Machine} {plan : Plan} → Going f table n m n' m' → Paused f table n' m' n'' m'' plan → Paused f table n m n'' m'' plan
  paused-from G P = record { going = going-trans G P.going; on? = P.on?; stopped = P.stopped }

  -- one step further: one step less is left
  pub going_step : {n₀ n : ℕ} {m₀ m m' : Machine} → Going f table n₀ m₀ n m → 0 < n → (m.regs.state ≡ 1 → ⊥) → step f m ≡ next m' → SameLengths m' m →
      Going f table n₀ m₀ (n - 1) m'
  unfolding run_on
  going_step {n = n} {m = m} {m'} G some on? w a =
      let left : n ≡ suc (n - 1) = omega arith in
      let R = G.runs in
      going-trans G (record {
        less = omega arith;
        same =
            λ k. let e : suc k ≡ k + (n - (n - 1)) = omega arith in
            ap (λ (i : ℕ). run_on f i k m) left ∙ rw (ne_eqb m.regs.state 1 on?, w) (ap (λ (i : ℕ). run_on f (n - 1) i m') e);
        runs = record { map = R.map; alive = alive-step R.alive on? w };
        alike = a;
      })

-- a plan's write was done, which is a step; or it was not, and all is as it was
module _ {f table : List ℕ} {n₀ n : ℕ} {m₀ m : Machine} (G : Going f table n₀ m₀ n m) (on? : m.regs.state ≡ 1 → ⊥)
    {put : Put} {m' : Machine} (e : Write put ≡ plan_at f m) where
  pub going-applied : 0 < n → m' ≡ applied f put m → SameLengths m' m → Going f table n₀ m₀ (n - 1) m'
  unfolding settle
  going-applied some a l = going_step G some on? (sym (alive-plan G.runs.alive on?) ∙ rw (← e) (ap next (sym a))) l

  pub paused-late : {b : Bool} {r : Regs} → m'.regs ≡ m.regs → b ≡ false → set_regs r m' ≡ applied_if b f put m → (b ≡ false → Late put.into m.regs) →
      Paused f table n₀ m₀ n m' (Write put)
  paused-late q d a l =
      let k : m' ≡ m = ap (set_regs m'.regs) (rw d at a) ∙ ap (λ (x : Regs). set_regs x m) q in
      rw k (record { going = G; on? = on?; stopped = λ h. stopped-late f m put e (l d) })
