-- `plan_objects::same_ptr`: the definition computes; `arithmetic::eq_w` ensures the word.
use Rattle.model.specs.File.{ins_of}
use Rattle.plan_meaning.specs.Planned.{basic_plan, plan_of, planned}
use Rattle.plan_objects.specs.Given.{same_word}
use Rattle.plan_objects.proofs.same_ptr.Goals as goal

pub returns : goal.returns
unfolding planned plan_of basic_plan ins_of
returns c = λ f m. rw (c.writes.ensures, same_word _ _ c.eq_w-word.ensures)
