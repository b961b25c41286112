-- `control_stack::put_record`: before each turn the words already taken stand from the top on; there are as many as a record has.
use Rattle.std.proofs.Common.{◌≡◌, take, length}
use Rattle.std.proofs.lemmas.List.Edits.{sets}
use Rattle.model.specs.Control.{record_words}
use Rattle.control_stack.proofs.put_record.Given as goal

abbrev pub invariant-loop-i : goal.invariant-loop-i
invariant-loop-i l = (length l.word-items ≡ record_words) × (l.ctl ≡ sets l.fn.ctl l.top (take l.i l.word-items))
