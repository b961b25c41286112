-- A plan that raises an exception ends where the exception leads.
use Rattle.std.specs.Prelude.{ℕ, ◌≡◌, List}
use Rattle.model.specs.Control.{Machine}
use Rattle.model.specs.Moves.{mtop}
use Rattle.model.specs.Step.{raised}
use Rattle.plan_meaning.specs.Settled.{settle}
use Rattle.plan_meaning.specs.declared.Put.{Put}
use Rattle.plan_meaning.specs.declared.Plan.{Plan}
use Rattle.plan_meaning.specs.declared.Plan.TheVariants.{Write}
use Rattle.apply.specs.Ended.{Ended, ended_of, RealRaises, raised_by, settle-raised, Settles}

-- a plan that neither writes nor is done as a whole: its exception is raised
pub ends-raised : {f table : List ℕ} {m : Machine} {plan : Plan} {code : ℕ} {x : Ended} → Settles f table m plan → ((put : Put) → plan ≡ Write put → ⊥) → RealRaises f m plan →
    code ≡ raised_by m.main (mtop m) plan → x ≡ ended_of (raised f m code) → x ≡ ended_of (settle f m plan)
ends-raised {f = f} {m = m} {plan = plan} S never n e d = rw (settle-raised f m plan never n, ← e) d
