-- `check_scan::heads_of` meets its contract: what heads are still to come decides what all of them come to.
use mathlib.Core.Path.{refl}
use native.Mathlib.Omega.{arith}
use Rattle.check_scan.specs.Heading.{heading-start, heading-whole, heading-many, heading-alone, heading-wrong, heading-fits, heading-right, heading-end}
use Rattle.check_scan.proofs.heads_of.Goals as goal
use Rattle.check_scan.proofs.heads_of.Goals.{At-loop-k}

pub loop-k-init : goal.loop-k-init
loop-k-init c = (refl, heading-start c.requires)

pub returns-then-k-eq-PROCS_MOST : goal.returns-then-k-eq-PROCS_MOST
returns-then-k-eq-PROCS_MOST c =
    rw c.at.ensures (heading-many c.requires c.loop-k.invariant.1 (omega arith) (omega arith))

pub overflow_add-p : goal.overflow_add-p
overflow_add-p c =
    let M = c.requires in
    omega (arith, heading-whole M c.loop-k.invariant.1 (omega arith) refl (omega arith), M.few)

pub head_at-head-requires : goal.head_at-head-requires
head_at-head-requires c =
    heading-whole c.requires c.loop-k.invariant.1 (omega arith) refl (omega arith)

pub place_head-requires : goal.place_head-requires
place_head-requires c =
    let w = heading-fits c.requires c.loop-k.invariant.1 (omega arith) refl (omega arith) c.follows.ensures c.if-not-follows.false in
    let g = c.requires.few in
    (w.1, omega arith, c.head_at-head.ensures.a_small, c.head_at-head.ensures.b_small)

pub loop-k-preserved : goal.loop-k-preserved
loop-k-preserved c = (
  refl,
  heading-right c.requires c.loop-k.invariant.1 (omega arith) refl (omega arith) c.follows.ensures
      c.if-not-follows.false c.head_at-head.ensures c.head_right.ensures
      c.if-not-head_right.false c.place_head.ensures,
)

pub returns-then-not-head_right : goal.returns-then-not-head_right
returns-then-not-head_right c =
    rw c.at-then-not-head_right.ensures
    (heading-wrong c.requires c.loop-k.invariant.1 (omega arith) refl (omega arith) c.follows.ensures c.if-not-follows.false
    c.head_at-head.ensures c.head_right.ensures c.if-not-head_right.true)

pub returns-then-not-follows : goal.returns-then-not-follows
returns-then-not-follows c =
    rw c.at-then-not-follows.ensures
    (heading-alone c.requires c.loop-k.invariant.1 (omega arith) refl (omega arith) c.follows.ensures c.if-not-follows.true)

pub returns : goal.returns
returns c =
    heading-end c.requires c.loop-k.invariant.1 (omega arith)
