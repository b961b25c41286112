-- Told one by one, the words from the top on are 0 exactly if `zeros` says so.
use Rattle.audit_words.specs.Stack.{zeros-told}
use Rattle.audit_state.proofs.zeros_from.Goals as goal

pub returns : goal.returns
returns c = zeros-told _ _ c.all_zero.result c.all_zero.ensures
