-- The table has the head's place.
use Rattle.audit_places.specs.Places.{head-inside, head-for}
use Rattle.audit_places.proofs.Passed.head_of.Goals as goal

pub head_at-requires : goal.head_at-requires
head_at-requires c = head-inside _ _ _ c.args.self.now.ready.heads _ c.requires

pub returns : goal.returns
returns c = head-for _ _ _ c.args.self.now.ready.heads _ _ c.requires c.head_at.ensures
