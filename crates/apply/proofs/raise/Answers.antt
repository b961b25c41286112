-- `apply::raise` meets its contract: no handler, and nothing is written; or the stacks are cut to the handler's tops, its record and
-- those above it go, and the code is pushed.
use native.Mathlib.Omega.{arith}
use Rattle.laws.specs.Cuts.{length_cut}
use Rattle.apply.specs.Ended.{uncaught-ends, caught-ends, guard-top, guard-targets}
use Rattle.apply.proofs.raise.Goals as goal

pub returns-then-handler-eq0 : goal.returns-then-handler-eq0
returns-then-handler-eq0 c heap = uncaught-ends _ _ _ c.if-handler-eq0.true

pub target-place-requires : goal.target-place-requires
target-place-requires c =
    guard-targets c.requires c.if-handler-eq0.false c.handler_at-guard.ensures

pub offset_bounds-main-top : goal.offset_bounds-main-top
offset_bounds-main-top c =
    let top = guard-top c.requires c.if-handler-eq0.false c.handler_at-guard.ensures in
    omega (arith, c.requires.main_at_most, top)

pub bounds-main-top : goal.bounds-main-top
bounds-main-top c =
    let top = guard-top c.requires c.if-handler-eq0.false c.handler_at-guard.ensures in
    rw (c.cut_to.ensures, length_cut) top

pub resume-next-requires : goal.resume-next-requires
resume-next-requires c =
    let top = guard-top c.requires c.if-handler-eq0.false c.handler_at-guard.ensures in
    (omega (arith, c.requires.main_at_most, top), omega (arith, c.if-handler-eq0.false), omega (arith, c.requires.handler, c.requires.ctl_top.fits, c.requires.ctl_at_most))

pub returns : goal.returns
returns c heap =
    caught-ends _ _ _ c.if-handler-eq0.false c.handler_at-guard.ensures c.target-place.ensures c.resume-next.ensures
    c.cut_to.ensures c.cut_to-2.ensures c.unwind.ensures
