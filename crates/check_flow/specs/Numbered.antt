-- The number of a refusal is not 0, which stands for none.
use Rattle.std.specs.Prelude.{◌≡◌}
use Rattle.std.proofs.Common.{arith}
use Rattle.model.specs.Refusals.{number_of}
use Rattle.model.specs.declared.Refusal.{Refusal}
use Rattle.model.specs.declared.Refusal.TheVariants.{FileLength, MapLength, Records, Heads, Target, Reach, Depths, Handlers, Meeting, ListLengths, Heap, State, OtherFile}

pub number-some : (r : Refusal) → number_of r ≡ 0 → ⊥
number-some FileLength e = absurd (omega arith)
number-some MapLength e = absurd (omega arith)
number-some Records e = absurd (omega arith)
number-some Heads e = absurd (omega arith)
number-some Target e = absurd (omega arith)
number-some Reach e = absurd (omega arith)
number-some Depths e = absurd (omega arith)
number-some Handlers e = absurd (omega arith)
number-some Meeting e = absurd (omega arith)
number-some ListLengths e = absurd (omega arith)
number-some Heap e = absurd (omega arith)
number-some State e = absurd (omega arith)
number-some OtherFile e = absurd (omega arith)
