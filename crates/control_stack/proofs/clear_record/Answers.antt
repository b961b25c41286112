-- `control_stack::clear_record`: the words above are 0, so five zeros cut the stack.
use Rattle.std.proofs.Common.{arith}
use Rattle.control_stack.specs.Layout.{cleared-at-once}
use Rattle.control_stack.proofs.clear_record.Goals as goal

pub returns : goal.returns
returns c = rw (c.fill.ensures.after (λ y e. e)) (cleared-at-once c.args.ctl.now c.args.at _ (omega arith) c.requires.0 c.requires.1)
