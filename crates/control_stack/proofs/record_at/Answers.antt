-- `control_stack::record_at`: what `try_from` copies are the five words from `at` on.
use Rattle.std.proofs.Common.{arith}
use Rattle.control_stack.specs.Layout.{words-read}
use Rattle.control_stack.proofs.record_at.Goals as goal

pub returns : goal.returns
returns c =
    let read = rw c.unwrap.ensures at c.try_from.ensures.1 in
    words-read c.args.ctl.now c.unwrap.result c.args.at _ read.same (omega arith)
