-- The pointers below the top are read once those above it are known to be nil.
use Rattle.std.proofs.Common.{arith}
use Rattle.std.proofs.lemmas.Bool.Decides.{nat_tests}
use Rattle.model.specs.Control.{root_words}
use Rattle.audit_state.proofs.words_right.Goals as goal

pub returns-then-zeros_from-3 : goal.returns-then-zeros_from-3
unfolding root_words
returns-then-zeros_from-3 c = λ heap K. grind (arith, nat_tests, c.audit_pointers.ensures _ K)
