-- `check_ways::plain`: what the instruction comes to (`takes-plain`), then its state passed to the next one.
use native.Mathlib.Omega.{arith}
use Rattle.std.proofs.lemmas.Result.{err_from_is_err_and}
use Rattle.check_ways.specs.Faults.{fitting}
use Rattle.check_ways.specs.Ways.{here_place, next_place, bounded-here, onwards-taken, onwards-on, onwards-stopped, onwards-passing, onwards-passed, took_not}
use Rattle.check_ways.proofs.plain.Goals as goal

pub state_in-s-requires : goal.state_in-s-requires
state_in-s-requires c =
    here_place c.requires.1.here

pub invariant_of-at : goal.invariant_of-at
invariant_of-at c =
    let A = c.requires.1 in
    record { low = (here_place A.here).1; bounded = bounded-here c.state_in-s.ensures A.here A.bounds c.outer_of-o.ensures }

pub pass_one-requires : goal.pass_one-requires
pass_one-requires c =
    let A = c.requires.1 in
    let S = c.state_in-s.ensures in
    let W = onwards-taken A c.requires.2 c.requires.3 S c.outer_of-o.ensures c.in_ok-to.ensures in
    let w = onwards-passing W c.if-to.true in
    let x = bounded-here S {l = c.args.procedure} A.here A.bounds c.outer_of-o.ensures in
    fitting (next_place A.here _ w.1) (omega (arith, w.2, x.x_byte)) (omega (arith, w.3, x.y_byte)) S.inner_small

pub returns-in_err-to : goal.returns-in_err-to
returns-in_err-to c =
    let W = onwards-taken c.requires.1 c.requires.2 c.requires.3 c.state_in-s.ensures c.outer_of-o.ensures c.in_err-to.ensures in
    let p = err_from_is_err_and c.from_residual.result c.from_residual.ensures.1 in
    rw (p.1, p.2) (took_not W.comes)

pub returns-in_err-pass_one : goal.returns-in_err-pass_one
returns-in_err-pass_one c =
    let S = c.state_in-s.ensures in
    let W = onwards-taken c.requires.1 c.requires.2 c.requires.3 S c.outer_of-o.ensures c.in_ok-to.ensures in
    let r = c.from_residual-in_err-pass_one in
    let p = err_from_is_err_and r.result r.ensures.1 in
    rw (p.1, p.2) (took_not (onwards-passed W c.if-to.true S _ _ c.in_err-pass_one.ensures))

pub returns-in_ok-pass_one : goal.returns-in_ok-pass_one
returns-in_ok-pass_one c =
    let S = c.state_in-s.ensures in
    let W = onwards-taken c.requires.1 c.requires.2 c.requires.3 S c.outer_of-o.ensures c.in_ok-to.ensures in
    record { is = onwards-passed W c.if-to.true S 0 _ c.in_ok-pass_one.ensures; on = onwards-on W }

pub returns-else-to : goal.returns-else-to
returns-else-to c =
    let W = onwards-taken c.requires.1 c.requires.2 c.requires.3 c.state_in-s.ensures c.outer_of-o.ensures c.in_ok-to.ensures in
    record { is = onwards-stopped W c.if-to.false; on = onwards-on W }
