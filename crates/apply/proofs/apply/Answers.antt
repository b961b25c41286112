-- `apply::apply` meets its contract: each arm knows where the plan writes, and what it calls leaves what the model applies there; what is left is late.
use mathlib.Core.List.{[]}
use mathlib.Core.Logic.{inl}
use mathlib.Core.Path.{ap}
use borrow.Author.Tests.{ne_eqb}
use Rattle.model.specs.Control.{Machine}
use Rattle.plan_meaning.specs.Settled.{apply_into, applied}
use Rattle.apply.proofs.apply.Goals as goal

pub returns-in-Frame-clause-state : goal.returns-in-Frame-clause-state
unfolding applied apply_into
returns-in-Frame-clause-state c = rw c.in-Frame.is (c.call.ensures _ _ _)

pub returns-in-Frame-clause-running : goal.returns-in-Frame-clause-running
returns-in-Frame-clause-running c = ap (λ (m : Machine). m.regs.state) (c.call.ensures [] [] [])

pub returns-else-regs-eq1-clause-state : goal.returns-else-regs-eq1-clause-state
unfolding applied apply_into
returns-else-regs-eq1-clause-state c = rw (c.in-Return.is, ne_eqb c.args.regs.frame 1 c.if-regs-eq1.false) (c.leave.ensures _ _ _)

pub returns-else-regs-eq1-clause-running : goal.returns-else-regs-eq1-clause-running
returns-else-regs-eq1-clause-running c = ap (λ (m : Machine). m.regs.state) (c.leave.ensures [] [] [])

pub returns-in-Handler-clause-state : goal.returns-in-Handler-clause-state
unfolding applied apply_into
returns-in-Handler-clause-state c = rw c.in-Handler.is (c.«open».ensures _ _ _)

pub returns-in-Handler-clause-running : goal.returns-in-Handler-clause-running
returns-in-Handler-clause-running c = ap (λ (m : Machine). m.regs.state) (c.«open».ensures [] [] [])

pub returns-in-Close-clause-state : goal.returns-in-Close-clause-state
unfolding applied apply_into
returns-in-Close-clause-state c = rw c.in-Close.is (c.close.ensures _ _ _)

pub returns-in-Close-clause-running : goal.returns-in-Close-clause-running
returns-in-Close-clause-running c = ap (λ (m : Machine). m.regs.state) (c.close.ensures [] [] [])

pub returns-else-plain : goal.returns-else-plain
returns-else-plain c =
    let n = c.if-plain.false in
    record { state = rw n at (c.plain.ensures.state c.args.ctl.now); running = tt; undone = inl (c.plain.ensures.undone n) }
