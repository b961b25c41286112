-- `apply_objects::make` meets its contract: each arm knows which object is made.
use borrow.Enum.Refused.{opened}
use Rattle.plan_meaning.specs.Settled.{apply_into, applied}
use Rattle.apply_objects.proofs.Tags.{last_one}
use Rattle.apply_objects.proofs.make.Goals as goal

pub form-requires : goal.form-requires
form-requires c = c.requires.view c.in-View.is

pub word_vector-requires : goal.word_vector-requires
word_vector-requires c = c.requires.words c.in-WordVector.is

pub ptr_vector-requires : goal.ptr_vector-requires
ptr_vector-requires c =
    let M = c.requires in
    M.pointers (last_one _ M.new (opened c.in_default.in_default-own.keys3))

pub returns-in-View : goal.returns-in-View
unfolding applied apply_into
returns-in-View c f ctl = rw c.in-View.is c.form.ensures

pub returns-in-WordVector : goal.returns-in-WordVector
unfolding applied apply_into
returns-in-WordVector c f ctl = rw c.in-WordVector.is c.word_vector.ensures

pub returns-in_default : goal.returns-in_default
unfolding applied apply_into
returns-in_default c f ctl =
    let M = c.requires in
    rw (last_one _ M.new (opened c.in_default.in_default-own.keys3)) c.ptr_vector.ensures
