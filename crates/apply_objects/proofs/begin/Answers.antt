-- The three stores are those of `begun`; a kind's number is one more than its place among the kinds.
use Rattle.std.proofs.Common.{◌+◌, ◌≡◌, refl}
use denote.Enum.Declared.{tag_of}
use Rattle.model.specs.contracts.ObjectKind as made
use Rattle.model.specs.declared.ObjectKind.{ObjectKind}
use Rattle.model.specs.declared.ObjectKind.TheVariants.{View, WordVector, PtrVector}
use Rattle.model.specs.ObjectKinds.{kind_number}
use Rattle.apply_objects.specs.Asks.{begun}
use Rattle.apply_objects.proofs.begin.Goals as goal

numbered : (kind : ObjectKind) → tag_of made.the_type kind + 1 ≡ kind_number kind
numbered View = refl
numbered WordVector = refl
numbered PtrVector = refl

pub returns-clause-begun : goal.returns-clause-begun
unfolding begun
returns-clause-begun c = rw (numbered c.args.kind)
