-- `check_ways::leave`: the tests in their order (`on_return`); nothing is passed on.
use mathlib.Core.Path.{sym}
use borrow.Author.Tests.{eq-eqb, ne_eqb}
use Rattle.std.proofs.lemmas.Result.{err_from_is_err_and}
use Rattle.check_ways.specs.Ways.{stops, stops-unreached, test-passes, all-passed, takes-return, on_return}
use Rattle.check_ways.proofs.leave.Goals as goal

pub returns-in_err-s : goal.returns-in_err-s
returns-in_err-s c =
    let p = err_from_is_err_and c.from_residual.result c.from_residual.ensures.1 in
    rw (p.1, p.2) (stops-unreached _ (takes-return _ _ _ _ c.args.procedure c.requires.here c.requires.bounds c.requires.shape_is) c.in_err-s.ensures)

pub returns-then-s-h : goal.returns-then-s-h
returns-then-s-h c =
    let J = test-passes (on_return c.requires c.in_ok-s.ensures.0 c.head_at-h.ensures) c.in_ok-s.ensures.1 in
    stops J (ne_eqb _ _ c.if-s-h.true)

pub returns-then-s-h-2 : goal.returns-then-s-h-2
returns-then-s-h-2 c =
    let J = test-passes (on_return c.requires c.in_ok-s.ensures.0 c.head_at-h.ensures) c.in_ok-s.ensures.1 in
    stops (test-passes J (eq-eqb _ _ c.if-s-h.false)) (ne_eqb _ _ c.if-s-h-2.true)

pub returns-then-s-ne-NONE_OPEN : goal.returns-then-s-ne-NONE_OPEN
returns-then-s-ne-NONE_OPEN c =
    let J = test-passes (on_return c.requires c.in_ok-s.ensures.0 c.head_at-h.ensures) c.in_ok-s.ensures.1 in
    stops (test-passes (test-passes J (eq-eqb _ _ c.if-s-h.false)) (eq-eqb _ _ c.if-s-h-2.false)) (ne_eqb _ _ c.if-s-ne-NONE_OPEN.true)

pub returns : goal.returns
returns c =
    let J = test-passes (on_return c.requires c.in_ok-s.ensures.0 c.head_at-h.ensures) c.in_ok-s.ensures.1 in
    sym (all-passed (test-passes (test-passes (test-passes J (eq-eqb _ _ c.if-s-h.false)) (eq-eqb _ _ c.if-s-h-2.false)) (eq-eqb _ _ c.if-s-ne-NONE_OPEN.false)))
