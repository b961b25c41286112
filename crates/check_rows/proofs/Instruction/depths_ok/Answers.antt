-- `check_rows::Instruction::depths_ok`: one stack after the other, as the definition has them.
use mathlib.Core.Path.{sym, ◌∙◌}
use Rattle.check_rows.specs.Tests.{stacks_ok}
use Rattle.check_rows.proofs.Instruction.depths_ok.Goals as goal

pub returns-then-stack_ok : goal.returns-then-stack_ok
unfolding stacks_ok
returns-then-stack_ok c = rw (sym c.stack_ok.ensures ∙ c.if-stack_ok.true) c.stack_ok-then-stack_ok.ensures

pub returns-else-stack_ok : goal.returns-else-stack_ok
unfolding stacks_ok
returns-else-stack_ok c = c.if-stack_ok.false ∙ rw (sym c.stack_ok.ensures ∙ c.if-stack_ok.false)
