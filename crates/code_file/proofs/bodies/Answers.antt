-- `code_file::bodies`: the constant's entries are those of `lengths`.
use mathlib.Core.Path.{refl}
use Rattle.code_file.specs.Table.{lengths}
use Rattle.code_file.proofs.bodies.Goals as goal

pub returns : goal.returns
unfolding lengths
returns c = refl
