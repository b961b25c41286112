-- Manual 5.14, 6.5: the refusals by their numbers.
use Rattle.std.specs.Prelude.{ℕ, Result, Ok, Err}
use Rattle.model.specs.declared.Answer.{Answer}
use Rattle.model.specs.declared.Answer.TheVariants.{Refused}
use Rattle.model.specs.declared.RefusedAt.{RefusedAt}
use Rattle.model.specs.declared.Refusal.{Refusal}
use Rattle.model.specs.declared.Refusal.TheVariants.{FileLength, MapLength, Records, Heads, Target, Reach, Depths, Handlers, Meeting, ListLengths, Heap, State, OtherFile}

abbrev pub number_of : Refusal → ℕ
number_of FileLength = 1
number_of MapLength = 2
number_of Records = 3
number_of Heads = 4
number_of Target = 5
number_of Reach = 6
number_of Depths = 7
number_of Handlers = 8
number_of Meeting = 9
number_of ListLengths = 10
number_of Heap = 11
number_of State = 12
number_of OtherFile = 13

-- what a test found, as a number: 0 where it found nothing
abbrev pub fault_of : {A : Type 0} → Result A Refusal → ℕ
fault_of (Ok _) = 0
fault_of (Err r) = number_of r

-- a refusal as an answer
abbrev pub refused_as : RefusedAt → Answer
refused_as e = Refused (number_of e.refusal) e.place
