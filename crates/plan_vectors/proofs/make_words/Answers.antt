-- `plan_vectors::make_words`: at code 80 the definition computes to what `make` ensures.
use Rattle.model.specs.File.{ins_of}
use Rattle.model.specs.Control.{set_main}
use Rattle.plan_meaning.specs.Planned.{basic_plan, plan_of, planned}
use Rattle.plan_vectors.proofs.make_words.Goals as goal

pub returns : goal.returns
unfolding planned plan_of basic_plan ins_of
returns c = λ f m. c.make.ensures (set_main c.args.main.now m)
