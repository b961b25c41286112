-- `control_stack::put_record`: all five written are the record on top of the others.
use Rattle.std.proofs.Common.{◌∙◌}
use Rattle.control_stack.specs.Layout.{words-put}
use Rattle.control_stack.proofs.put_record.Goals as goal

pub returns : goal.returns
returns c =
    c.loop-i.invariant.1
    ∙ words-put c.args.ctl.now c.args.words c.args.top c.loop-i.i c.loop-i.invariant.0 c.loop-i-test.false c.requires.whole
