-- The next head's place is in the table.
use Rattle.audit_places.specs.Places.{table-end, file-end}
use Rattle.audit_places.proofs.Passed.end_of.Goals as goal

pub returns-then-next-self : goal.returns-then-next-self
returns-then-next-self c = table-end _ _ _ _ c.args.self.now.ready.heads.placed c.if-next-self.true

pub returns-else-next-self : goal.returns-else-next-self
returns-else-next-self c = file-end _ _ _ _ c.args.self.now.ready.heads.placed c.if-next-self.false
