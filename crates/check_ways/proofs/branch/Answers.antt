-- `check_ways::branch`: the tests in their order (`on_branch`), then the states passed on.
use Prim.Native.Nat.{◌+◌, ◌-◌}
use mathlib.Core.Path.{sym, ◌∙◌}
use borrow.Author.Tests.{lt-ltb, le-ltb}
use mathlib.Core.List.{[], ◌∷◌}
use Rattle.std.proofs.lemmas.Result.{err_from_is_err_and}
use Rattle.model.specs.Choice.{when◌then◌else◌}
use Rattle.model.specs.Checker.{state}
use Rattle.check_rows.specs.Tests.{as_state, stacks-fit}
use Rattle.check_ways.specs.Takes.{pass_all_in, take_in}
use Rattle.check_ways.specs.Faults.{second-as}
use Rattle.check_ways.specs.Ways.{Judged, stops, stops-unreached, test-passes, all-passed, takes-branch, on_branch}
use Rattle.check_ways.proofs.branch.Goals as goal
use Rattle.check_ways.proofs.branch.Goals.{After-depths_ok}

pub returns-in_err-s : goal.returns-in_err-s
returns-in_err-s c =
    let J = takes-branch _ _ _ _ c.args.procedure c.requires.here c.requires.bounds c.args.keep _ c.requires.shape_is in
    let p = err_from_is_err_and c.from_residual.result c.from_residual.ensures.1 in
    rw (p.1, p.2) (stops-unreached _ (test-passes J (sym c.own.ensures ∙ c.if-not-own.false)) c.in_err-s.ensures)

pub returns-then-procedure-next : goal.returns-then-procedure-next
returns-then-procedure-next c =
    let J = test-passes (on_branch c.args.keep _ c.requires c.in_ok-s.ensures.0) (sym c.own.ensures ∙ c.if-not-own.false) in
    stops (test-passes J c.in_ok-s.ensures.1) (le-ltb _ _ c.if-procedure-next.true)

-- behind the test of the depths: what is left of the tests, and what passes on
left_at : (c : After-depths_ok) →
    let a = c.args in
    let s = c.in_ok-s.s in
    let popped = state (s.main - 1) s.ptr s.inner in
    Judged (take_in a.file.now a.p a.m.now) ((c.depths_ok.result, 7) ∷ [])
    (pass_all_in ((a.p + 3, popped) ∷ (a.target, (when a.keep then as_state s else popped)) ∷ []) a.m.now)
left_at c =
    let J = test-passes (on_branch c.args.keep _ c.requires c.in_ok-s.ensures.0) (sym c.own.ensures ∙ c.if-not-own.false) in
    let K = test-passes (test-passes J c.in_ok-s.ensures.1) (lt-ltb _ _ c.if-procedure-next.false) in
    rw (c.depths_ok.ensures, c.effect.ensures, c.outer_of-o.ensures.is) K

pub overflow_sub-then : goal.overflow_sub-then
overflow_sub-then c =
    let w = (stacks-fit _ _ _ _ _ (sym c.depths_ok.ensures ∙ c.if-not-depths_ok.false)).main in
    rw c.effect.ensures at w

pub returns : goal.returns
returns c =
    let a = c.args in
    let s = c.in_ok-s.s in
    c.pass_both.ensures
    ∙ second-as a.m.now (a.p + 3) a.target (state (s.main - 1) s.ptr s.inner) c.at_target.ensures
    ∙ sym (all-passed (test-passes (left_at (goal.at.returns c).After-depths_ok) c.if-not-depths_ok.false))

pub returns-then-not-depths_ok : goal.returns-then-not-depths_ok
returns-then-not-depths_ok c = stops (left_at (goal.at.returns-then-not-depths_ok c).After-depths_ok) c.if-not-depths_ok.true

pub returns-then-not-own : goal.returns-then-not-own
returns-then-not-own c =
    stops (takes-branch _ _ _ _ c.args.procedure c.requires.here c.requires.bounds c.args.keep _ c.requires.shape_is) (sym c.own.ensures ∙ c.if-not-own.true)
