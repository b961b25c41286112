-- `reals::operate`: at each of the four codes the definition computes.
use mathlib.Core.Path.{refl}
use Rattle.model.specs.File.{ins_of}
use Rattle.model.specs.Reals.{f_plus, f_times, f_minus, f_divide, operate_reals}
use Rattle.laws_file.specs.Kinds.{other}
use Rattle.reals.proofs.operate.Goals as goal

pub returns-in-150 : goal.returns-in-150
unfolding ins_of operate_reals
returns-in-150 c = record { op = f_plus; code = λ f p. rw c.in-150.is; is = refl }

pub returns-in-151 : goal.returns-in-151
unfolding ins_of operate_reals
returns-in-151 c = record { op = f_times; code = λ f p. rw c.in-151.is; is = refl }

pub returns-in-152 : goal.returns-in-152
unfolding ins_of operate_reals
returns-in-152 c = record { op = f_minus; code = λ f p. rw c.in-152.is; is = refl }

pub returns-in_default : goal.returns-in_default
unfolding ins_of operate_reals
returns-in_default c =
    let n = c.in_default.in_default-own.rest in
    let e = other (other (other c.requires n.0.0.1) n.0.1) n.1 in
    record { op = f_divide; code = λ f p. rw e; is = refl }
