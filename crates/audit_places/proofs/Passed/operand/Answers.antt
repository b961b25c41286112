-- The operand is the sum of its two bytes.
use native.Mathlib.Omega.{arith}
use Rattle.model.specs.File.{operand}
use Rattle.audit_places.proofs.Passed.operand.Goals as goal

pub returns : goal.returns
unfolding operand
returns c = let a = c.byte_at.ensures in let b = c.byte_at-2.ensures in omega arith
