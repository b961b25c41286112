-- `check_ways::close`: the tests in their order (`on-close`), then the state with the handlers open at the 160.
use mathlib.Core.Bool.{not}
use mathlib.Core.Path.{sym, ◌∙◌, ap}
use borrow.Author.Tests.{lt-ltb, le-ltb, eq-eqb, ne_eqb}
use Rattle.std.proofs.lemmas.Result.{err_from_is_err_and}
use Rattle.model.specs.Checker.{State}
use Rattle.check_ways.specs.Ways.{stops, stops-unreached, test-passes, all-passed, takes-close, on-close}
use Rattle.check_ways.proofs.close.Goals as goal

pub returns-in_err-s : goal.returns-in_err-s
returns-in_err-s c =
    let p = err_from_is_err_and c.from_residual.result c.from_residual.ensures.1 in
    rw (p.1, p.2) (stops-unreached _ (takes-close _ _ _ _ c.args.procedure c.requires.here c.requires.bounds c.requires.shape_is) c.in_err-s.ensures)

pub returns-then-procedure-next : goal.returns-then-procedure-next
returns-then-procedure-next c =
    stops (test-passes (on-close c.requires c.in_ok-s.ensures.0) c.in_ok-s.ensures.1) (le-ltb _ _ c.if-procedure-next.true)

pub returns-then-s-eq-NONE_OPEN : goal.returns-then-s-eq-NONE_OPEN
returns-then-s-eq-NONE_OPEN c =
    let J = test-passes (on-close c.requires c.in_ok-s.ensures.0) c.in_ok-s.ensures.1 in
    stops (test-passes J (lt-ltb _ _ c.if-procedure-next.false)) (ap not (eq-eqb _ _ c.if-s-eq-NONE_OPEN.true))

pub returns : goal.returns
returns c =
    let J = test-passes (test-passes (on-close c.requires c.in_ok-s.ensures.0) c.in_ok-s.ensures.1) (lt-ltb _ _ c.if-procedure-next.false) in
    let o = ap (λ (u : State). u.inner) c.outer_of-o.ensures.is in
    (rw o at c.pass_one.ensures) ∙ sym (all-passed (test-passes J (ap not (ne_eqb _ _ c.if-s-eq-NONE_OPEN.false))))
