-- `check_ways::jump`: the tests in their order (`on-jump`), then the state passed to the target.
use mathlib.Core.Path.{sym, ◌∙◌}
use Rattle.std.proofs.lemmas.Result.{err_from_is_err_and}
use Rattle.check_ways.specs.Ways.{stops, stops-unreached, test-passes, all-passed, takes-jump, on-jump}
use Rattle.check_ways.proofs.jump.Goals as goal

pub returns-in_err-s : goal.returns-in_err-s
returns-in_err-s c =
    let J = takes-jump _ _ _ _ c.args.procedure c.requires.here c.requires.bounds _ c.requires.shape_is in
    let p = err_from_is_err_and c.from_residual.result c.from_residual.ensures.1 in
    rw (p.1, p.2) (stops-unreached _ (test-passes J (sym c.own.ensures ∙ c.if-not-own.false)) c.in_err-s.ensures)

pub returns : goal.returns
returns c =
    let J = test-passes (on-jump c.requires c.in_ok-s.ensures.0) (sym c.own.ensures ∙ c.if-not-own.false) in
    c.pass_one.ensures ∙ sym (all-passed (test-passes J c.in_ok-s.ensures.1))

pub returns-then-not-own : goal.returns-then-not-own
returns-then-not-own c =
    stops (takes-jump _ _ _ _ c.args.procedure c.requires.here c.requires.bounds _ c.requires.shape_is) (sym c.own.ensures ∙ c.if-not-own.true)
