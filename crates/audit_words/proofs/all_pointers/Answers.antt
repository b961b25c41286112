-- A turn tells one word more.
use Rattle.std.proofs.Common.{arith}
use Rattle.audit_words.specs.Every.{every_more}
use Rattle.audit_words.specs.Table.{marked_at}
use Rattle.audit_words.proofs.all_pointers.Goals as goal

pub loop-word-preserved : goal.loop-word-preserved
unfolding marked_at
loop-word-preserved c = rw c.is_pointer-all.ensures (every_more _ 0 _ _ (omega arith) c.loop-word.invariant)
