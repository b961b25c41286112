-- The invariant: what is told of the words so far.
use Rattle.audit_words.specs.Every.{Every}
use Rattle.audit_words.specs.Table.{marked_at}
use Rattle.audit_words.proofs.all_pointers.Given as goal

abbrev pub invariant-loop-word : goal.invariant-loop-word
invariant-loop-word l = Every (marked_at l.marks l.words) 0 l.word-index l.all
