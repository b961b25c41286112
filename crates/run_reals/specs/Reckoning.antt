-- Instructions on reals, one after another, are steps of the run, whatever the lists that they leave alone; where one is left, it raises 1.
use Rattle.std.specs.Prelude.{ℕ, ◌+◌, ◌-◌, ◌<◌, ◌≤◌, Some, None, Bool, true, false, List, ◌≡◌, refl, length}
use Rattle.std.proofs.Common.{true≢false, ap, ◌∙◌, arith}
use Rattle.std.proofs.Math.Path.{sym}
use Rattle.model.specs.File.{byte_at, after, ins_of, ins_at}
use Rattle.model.specs.Control.{Machine}
use Rattle.model.specs.Instructions.{code_of, out_of_range, Result, done, fails, rule}
use Rattle.model.specs.Step.{next, raised}
use Rattle.model.specs.declared.Regs.{Regs}
use Rattle.laws_file.specs.Codes.{is_real?, real_codes, real-code}
use Rattle.laws_file.specs.Kinds.{at_each}
use Rattle.plan_meaning.specs.Planned.{plan_of, plan_at, basic_plan}
use Rattle.plan_meaning.specs.Settled.{settle}
use Rattle.plan_meaning.specs.declared.Put.{Put}
use Rattle.plan_meaning.specs.declared.Plan.{Plan}
use Rattle.plan_meaning.specs.declared.Plan.TheVariants.{Write, OutOfRange, NilObject, NoSuchWord, HeapFull, NoRoom, VectorFault, Thrown, Real}
use Rattle.real_steps.specs.Does.{Does, RealHere}
use Rattle.apply.specs.Ended.{RealRaises}
use Rattle.theory_step.specs.Settling.{alive-settles, alive-real, alive-plan}
use Rattle.run_steps.specs.Going.{Runs, Going, Paused, going_start, going-trans, going_step, stopped-raise, paused-from}

-- whether a plan is that of an instruction on reals
unfoldable pub at_real? : Plan → Bool
at_real? (Write put) = false
at_real? OutOfRange = false
at_real? NilObject = false
at_real? NoSuchWord = false
at_real? HeapFull = false
at_real? NoRoom = false
at_real? VectorFault = false
at_real? Thrown = false
at_real? (Real p) = true

-- the table of the heads, and the lists that an instruction on reals leaves alone
pub record Rest : Type 0 where
  pub table : List ℕ
  pub ptr : List ℕ
  pub ctl : List ℕ
  pub heap : List ℕ

abbrev pub with : Rest → Regs → List ℕ → Machine
with o r l = record { regs = r; main = l; ptr = o.ptr; ctl = o.ctl; heap = o.heap }

-- some sound state of a passed file has these registers and this main stack, and is before an instruction on reals, whose body is at p
pub record AtReal (f l : List ℕ) (r : Regs) (p : ℕ) : Type 0 where
  pub rest : Rest
  pub runs : Runs f rest.table (with rest r l)
  pub on? : r.state ≡ 1 → ⊥
  pub real : is_real? (ins_at f r.place) ≡ true
  pub body : p ≡ r.place + 1

-- from r₀ and l₀ with n steps left to r and l with n' left, in a run of every such state
pub record Reckons (f l₀ : List ℕ) (r₀ : Regs) (n : ℕ) (l : List ℕ) (r : Regs) (n' : ℕ) : Type 0 where
  pub going : (o : Rest) → Runs f o.table (with o r₀ l₀) → Going f o.table n (with o r₀ l₀) n' (with o r l)
  pub state : r.state ≡ r₀.state
  pub kept : length l ≡ length l₀

-- what instructions on reals come to: at least one is done, or the one that is left raises 1; `finite` tells which
pub record Reckoned (f l₀ : List ℕ) (r₀ : Regs) (n : ℕ) (l : List ℕ) (r : Regs) (n' : ℕ) (finite : Bool) : Type 0 where
  pub reckons : Reckons f l₀ r₀ n l r n'
  pub further : finite ≡ true → n' < n
  pub real : finite ≡ false → is_real? (ins_at f r.place) ≡ true
  pub raises : finite ≡ false → (o : Rest) (p : ℕ) → settle f (with o r l) (Real p) ≡ raised f (with o r l) (code_of out_of_range)

-- where the steps pause, and an instruction on reals that is left there raises 1
pub record Rests (f table : List ℕ) (n : ℕ) (m : Machine) (n' : ℕ) (m' : Machine) (plan : Plan) : Type 0 where
  pub paused : Paused f table n m n' m' plan
  pub raises : 0 < n' → RealRaises f m' plan

-- a plan for an instruction on reals writes nothing
never-writes : (p : ℕ) (put : Put) → Real p ≡ Write put → ⊥
unfolding at_real?
never-writes p put e = true≢false (ap at_real? e)

-- the plan of an instruction on reals
real-plan : (f : List ℕ) (m : Machine) → is_real? (ins_at f m.regs.place) ≡ true → plan_at f m ≡ Real (m.regs.place + 1)
unfolding plan_at plan_of basic_plan ins_at ins_of
real-plan f m e =
    let p = m.regs.place in
    at_each (λ k. plan_of f m (after f p) (ins_of f p k) ≡ Real (p + 1)) real_codes (byte_at f p) (refl, (refl, (refl, (refl, (refl, (refl, (refl, tt)))))))
    (real-code f p (byte_at f p) e)

-- a sound state with such a plan is before such an instruction
pub real-paused : {f table : List ℕ} {m : Machine} {p : ℕ} → Runs f table m → (m.regs.state ≡ 1 → ⊥) → Real p ≡ plan_at f m → AtReal f m.main m.regs p
real-paused {table = table} {m} {p} R on? e =
    let S = alive-real R.alive on? p (sym e) in
    record { rest = record { table = table; ptr = m.ptr; ctl = m.ctl; heap = m.heap }; runs = R; on? = on?; real = S.real; body = S.body }

-- it is done, or 1 is raised
module _ (f : List ℕ) (m : Machine) (p : ℕ) where
  abbrev real_rule : Result
  real_rule = rule f m (after f m.regs.place) (ins_at f m.regs.place)

  real-done : (m' : Machine) → done m' ≡ real_rule → settle f m (Real p) ≡ next m'
  unfolding settle
  real-done m' e = rw (← e)

  real-raised : fails out_of_range ≡ real_rule → settle f m (Real p) ≡ raised f m (code_of out_of_range)
  unfolding settle
  real-raised e = rw (← e)

pub reckons-none : {f l : List ℕ} {r : Regs} {n : ℕ} → Reckons f l r n l r n
reckons-none = record { going = λ o R. going_start R; state = refl; kept = refl }

module _ {f l : List ℕ} {r : Regs} {p : ℕ} (A : AtReal f l r p) where
  abbrev here : Machine
  here = with A.rest r l

  -- what doing the instruction asks for
  pub real-ready : RealHere f l r × (p ≡ r.place + 1)
  real-ready =
      let e = real-plan f here A.real in
      let S = alive-real A.runs.alive A.on? _ e in
      let R = (alive-settles A.runs.alive A.on?).raises (λ put u. never-writes _ put (sym e ∙ u)) in
      (record { real = A.real; inside = S.inside; pops = S.pops; pushes = S.pushes; topped = R.main_top; few = R.main_at_most }, A.body)

  -- it was done: one step more
  module _ (l' : List ℕ) (r' : Regs) (D : Does l r (after f r.place) (Some r') l' (ins_at f r.place)) where
    pub reckons-step : {l₀ : List ℕ} {r₀ : Regs} {n₀ n : ℕ} → Reckons f l₀ r₀ n₀ l r n → 0 < n → r'.state ≡ r.state → length l' ≡ length l →
        Reckons f l₀ r₀ n₀ l' r' (n - 1)
    reckons-step K some s k =
        record {
          going =
              λ o R.
              let G = K.going o R in
              let w = real-done f (with o r l) _ (with o r' l') (D f o.ptr o.ctl o.heap) in
              let e = sym (alive-plan G.runs.alive A.on?) ∙ (ap (settle f (with o r l)) (real-plan f (with o r l) A.real) ∙ w) in
              going_step G some A.on? e (record { main = k; ptr = refl; ctl = refl; heap = refl });
          state = s ∙ K.state;
          kept = k ∙ K.kept;
        }

    pub reals-on : r'.state ≡ r.state → length l' ≡ length l → Runs f A.rest.table (with A.rest r' l')
    reals-on s k = ((reckons-step (reckons-none {n = 1}) (omega arith) s k).going A.rest A.runs).runs

  -- its result was not finite
  pub reals-raise : (l' : List ℕ) → Does l r (after f r.place) None l' (ins_at f r.place) →
      (o : Rest) (q : ℕ) → settle f (with o r l) (Real q) ≡ raised f (with o r l) (code_of out_of_range)
  reals-raise l' D o q = real-raised f (with o r l) q (D f o.ptr o.ctl o.heap)

-- where no instruction on reals is left, or no step
module _ {f table : List ℕ} {n n' : ℕ} {m m' : Machine} {plan : Plan} (P : Paused f table n m n' m' plan) where
  pub rests-other : false ≡ at_real? plan → Rests f table n m n' m' plan
  unfolding at_real?
  rests-other u = record { paused = P; raises = λ h p e. absurd (true≢false (sym (ap at_real? e) ∙ sym u)) }

  pub rests-spent : n' ≤ 0 → Rests f table n m n' m' plan
  rests-spent z = record { paused = P; raises = λ h. absurd (omega (arith, z, h)) }

  -- from a pause past instructions on reals
  module _ {l : List ℕ} {r : Regs} {n'' : ℕ} {finite : Bool} (K : Reckoned f m'.main m'.regs n' l r n'' finite) where
    abbrev past : Machine
    past = record { regs = r; main = l; ptr = m'.ptr; ctl = m'.ctl; heap = m'.heap }

    abbrev unchanged : Rest
    unchanged = record { table = table; ptr = m'.ptr; ctl = m'.ctl; heap = m'.heap }

    pub going-past : Going f table n m n'' past
    going-past = going-trans P.going (K.reckons.going unchanged P.going.runs)

    pub on-past : r.state ≡ 1 → ⊥
    on-past u = P.on? (sym K.reckons.state ∙ u)

    pub rests-raised : finite ≡ false → Rests f table n m n'' past (Real (r.place + 1))
    rests-raised d =
        let e = sym (real-plan f past (K.real d)) in
        record {
          paused = record { going = going-past; on? = on-past; stopped = λ h. stopped-raise e (never-writes _) };
          raises = λ h p u. K.raises d unchanged _;
        }

-- steps before a rest
pub rests-from : {f table : List ℕ} {n n' n'' : ℕ} {m m' m'' : Machine} {plan : Plan} → Going f table n m n' m' → Rests f table n' m' n'' m'' plan →
    Rests f table n m n'' m'' plan
rests-from G R = record { paused = paused-from G R.paused; raises = R.raises }

-- a pause as the start of what follows
pub paused-here : {f table : List ℕ} {n n' : ℕ} {m m' : Machine} {plan : Plan} → Paused f table n m n' m' plan → Paused f table n' m' n' m' plan
paused-here P = record { going = going_start P.going.runs; on? = P.on?; stopped = P.stopped }
