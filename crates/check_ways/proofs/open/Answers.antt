-- `check_ways::open`: the tests in their order (`on-open`), then the states behind the 160 and at its handler.
use Prim.Native.Nat.{suc}
use mathlib.Core.Path.{sym, ◌∙◌}
use native.Mathlib.Omega.{arith}
use borrow.Author.Tests.{lt-ltb, le-ltb, lt-leb, le-leb}
use Rattle.std.proofs.lemmas.Result.{err_from_is_err_and}
use Rattle.check_ways.specs.Ways.{stops, stops-unreached, test-passes, all-passed, takes-open, on-open}
use Rattle.check_ways.proofs.open.Goals as goal

pub returns-then-target-p : goal.returns-then-target-p
returns-then-target-p c =
    let J = takes-open _ _ _ _ c.args.procedure c.requires.here c.requires.bounds _ c.requires.shape_is in
    stops (test-passes J (sym c.own.ensures ∙ c.if-not-own.false)) (lt-leb (suc c.args.p) c.args.target (omega (arith, c.if-target-p.true)))

pub returns-in_err-s : goal.returns-in_err-s
returns-in_err-s c =
    let J = takes-open _ _ _ _ c.args.procedure c.requires.here c.requires.bounds _ c.requires.shape_is in
    let K = test-passes (test-passes J (sym c.own.ensures ∙ c.if-not-own.false)) (le-leb (suc c.args.p) c.args.target (omega (arith, c.if-target-p.false))) in
    let p = err_from_is_err_and c.from_residual.result c.from_residual.ensures.1 in
    rw (p.1, p.2) (stops-unreached _ K c.in_err-s.ensures)

pub returns-then-procedure-next : goal.returns-then-procedure-next
returns-then-procedure-next c =
    let J = test-passes (on-open c.requires c.in_ok-s.ensures.0) (sym c.own.ensures ∙ c.if-not-own.false) in
    let K = test-passes J (le-leb (suc c.args.p) c.args.target (omega (arith, c.if-target-p.false))) in
    stops (test-passes K c.in_ok-s.ensures.1) (le-ltb _ _ c.if-procedure-next.true)

pub returns-then-procedure-s : goal.returns-then-procedure-s
returns-then-procedure-s c =
    let J = test-passes (on-open c.requires c.in_ok-s.ensures.0) (sym c.own.ensures ∙ c.if-not-own.false) in
    let K = test-passes (test-passes (test-passes J (le-leb (suc c.args.p) c.args.target (omega (arith, c.if-target-p.false))))
    c.in_ok-s.ensures.1) (lt-ltb _ _ c.if-procedure-next.false) in
    stops K (lt-leb (suc c.in_ok-s.s.main) c.args.procedure.x (omega (arith, c.if-procedure-s.true)))

pub returns : goal.returns
returns c =
    let J = test-passes (on-open c.requires c.in_ok-s.ensures.0) (sym c.own.ensures ∙ c.if-not-own.false) in
    let K = test-passes J (le-leb (suc c.args.p) c.args.target (omega (arith, c.if-target-p.false))) in
    let L = test-passes (test-passes K c.in_ok-s.ensures.1) (lt-ltb _ _ c.if-procedure-next.false) in
    c.pass_both.ensures ∙ sym (all-passed (test-passes L (le-leb (suc c.in_ok-s.s.main) c.args.procedure.x (omega (arith, c.if-procedure-s.false)))))

pub returns-then-not-own : goal.returns-then-not-own
returns-then-not-own c =
    stops (takes-open _ _ _ _ c.args.procedure c.requires.here c.requires.bounds _ c.requires.shape_is) (sym c.own.ensures ∙ c.if-not-own.true)
