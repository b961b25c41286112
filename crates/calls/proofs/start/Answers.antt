-- `calls::start` meets its contract: refusals write the map alone; zeroed stacks, the first registers and the file's sums are the state that
-- it begins with.
use mathlib.Core.Path.{◌≡◌, ap, ◌∙◌}
use mathlib.Core.List.{List}
use Prim.Native.Nat.{ℕ}
use lib.ListN.{length}
use Rattle.model.specs.Words.{cut}
use Rattle.registers.specs.Registers.{registers-length}
use Rattle.call_tests.specs.Admit.{first-whole}
use Rattle.calls.specs.Starts.{start-refused, start-ready, filled-cut}
use Rattle.calls.proofs.start.Goals as goal

pub returns-in-Err : goal.returns-in-Err
returns-in-Err c =
    rw c.from.ensures (start-refused _ c.admit.new.map c.admit.new.table c.admit.result c.admit.ensures _ c.in-Err.is)

pub put_regs-requires : goal.put_regs-requires
put_regs-requires c = (c.admit.ensures.shown _ c.in_default.is).its.0

pub sums_of-requires : goal.sums_of-requires
sums_of-requires c = (first-whole _ _ _ (c.admit.ensures.shown _ c.in_default.is).passes).2

pub put_sums-requires : goal.put_sums-requires
put_sums-requires c = ap length c.put_regs.ensures ∙ registers-length _ _

pub returns : goal.returns
returns c =
    let A = c.args in
    let m : c.fill.new.self ≡ cut 0 A.main.now = c.fill.ensures.after (λ y h. h) ∙ filled-cut A.main.now in
    let p : c.fill-2.new.self ≡ cut 0 A.ptr.now = c.fill-2.ensures.after (λ y h. h) ∙ filled-cut A.ptr.now in
    let k : c.fill-3.new.self ≡ cut 0 A.ctl.now = c.fill-3.ensures.after (λ y h. h) ∙ filled-cut A.ctl.now in
    start-ready _ c.admit.new.map c.admit.new.table c.admit.result c.admit.ensures _ c.in_default.is _ _ _ _ _ _ _ m p k
    c.put_regs.ensures c.sums_of.ensures c.put_sums.ensures
