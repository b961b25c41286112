-- `check_flow::take`: each family by its own function; a code with no arm leads to the next instruction alone, or nowhere.
use Prim.Native.Nat.{suc}
use mathlib.Core.Path.{◌∙◌, ap, refl}
use native.Mathlib.Omega.{arith}
use Rattle.model.specs.File.{codes, bodies, body_of, ins_of}
use Rattle.model.specs.Checker.{handler_at}
use Rattle.check_rows.specs.Shape.{Open, Close, Return, shape_of}
use Rattle.check_rows.specs.Site.{body-room}
use Rattle.check_rows.specs.Kinds.{body-jumps}
use Rattle.check_ways.specs.Ways.{leads_to, led, took}
use Rattle.check_flow.proofs.take.Goals as goal

pub leave-requires : goal.leave-requires
unfolding ins_of shape_of body_of bodies codes
leave-requires c = led c.requires.1 73 1 (leads_to Return 0 0) c.in-73.is refl refl

pub operand-requires : goal.operand-requires
unfolding body_of bodies codes
operand-requires c =
    body-room c.requires.1.here.site 2 (ap body_of (c.requires.1.kind_is ∙ c.in-160.is))

pub open-requires : goal.open-requires
unfolding ins_of shape_of body_of bodies codes handler_at
open-requires c =
    led c.requires.1 160 3 (leads_to Open 0 _) c.in-160.is refl (rw (c.operand.ensures.is, c.requires.1.here.head))

pub close-requires : goal.close-requires
unfolding ins_of shape_of body_of bodies codes
close-requires c = led c.requires.1 161 1 (leads_to Close 0 0) c.in-161.is refl refl

pub returns-in_ok-leave-in-73 : goal.returns-in_ok-leave-in-73
unfolding body_of bodies codes
returns-in_ok-leave-in-73 c = took c.requires.1 73 1 c.in-73.is refl c.in_ok-leave-in-73.ensures

pub returns-in_ok-open-in-160 : goal.returns-in_ok-open-in-160
unfolding body_of bodies codes
returns-in_ok-open-in-160 c = took c.requires.1 160 3 c.in-160.is refl c.in_ok-open-in-160.ensures

pub returns-in_ok-close-in-161 : goal.returns-in_ok-close-in-161
unfolding body_of bodies codes
returns-in_ok-close-in-161 c = took c.requires.1 161 1 c.in-161.is refl c.in_ok-close-in-161.ensures

pub returns-in_ok-jumps-in-1-to-6 : goal.returns-in_ok-jumps-in-1-to-6
returns-in_ok-jumps-in-1-to-6 c =
    took c.requires.1 _ 3 refl (ap suc (body-jumps _ (omega arith) (omega arith))) c.in_ok-jumps-in-1-to-6.ensures
