-- `apply::step_with` meets its contract: a write that was left is applied, every other plan raises its code; of an instruction on reals that is what is asked.
use Rattle.plan_meaning.specs.Settled.{settle}
use Rattle.apply.specs.Applied.{to-late}
use Rattle.apply.specs.Ended.{ended_of}
use Rattle.apply.proofs.Raising.{ends-raised}
use Rattle.apply.proofs.step_with.Goals as goal

pub returns-in_default : goal.returns-in_default
returns-in_default c = ends-raised c.requires.0 c.in_default.not-Write c.requires.2 c.code_of-code.ensures (c.raise.ensures _)

pub apply_late-next-requires : goal.apply_late-next-requires
apply_late-next-requires c = let e = c.in-Write.is in to-late (c.requires.0.writes _ e) (c.requires.1 _ e)

pub returns : goal.returns
unfolding ended_of settle
returns c =
    rw (c.in-Write.is, ← c.apply_late-next.ensures _)
