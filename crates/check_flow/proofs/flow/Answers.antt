-- `check_flow::flow` meets its contract: the instructions still to come decide what the flow comes to.
use mathlib.Core.Path.{refl, sym}
use native.Mathlib.Omega.{arith}
use Rattle.laws_file.specs.Walk.{after-above, after-head}
use Rattle.check_flow.specs.Flowing.{begun-whole, begun-table, flowing-start, flowing-inside, flowing-head, flowing-here, flowing-fault, flowing-take, flowing-end}
use Rattle.check_flow.proofs.flow.Goals as goal

pub procedure_of-procedure-requires : goal.procedure_of-procedure-requires
procedure_of-procedure-requires c = begun-whole c.requires

pub loop-p-init : goal.loop-p-init
loop-p-init c =
    let L = c.procedure_of-procedure.ensures in
    (refl, rw (L.0, L.1) (flowing-start c.requires), rw L.0 L.2)

pub procedure_of-procedure-requires-then-kind : goal.procedure_of-procedure-requires-then-kind
procedure_of-procedure-requires-then-kind c =
    let o = c.loop-p in
    omega (arith, flowing-inside c.requires o.invariant.1 (omega arith), after-head c.args.file.now o.p c.if-kind.true)

pub loop-p-preserved-then-kind : goal.loop-p-preserved-then-kind
loop-p-preserved-then-kind c =
    let o = c.loop-p in
    let L = c.procedure_of-procedure-then-kind.ensures in (
      o.invariant.0,
      rw (L.0, L.1, sym (after-head c.args.file.now o.p c.if-kind.true))
          (flowing-head c.requires o.invariant.1 (omega arith) c.if-kind.true c.end_of.ensures),
      rw L.0 L.2,
    )

pub take-requires : goal.take-requires
take-requires c =
    let I = c.loop-p.invariant in (
      begun-table c.requires,
      record { here = flowing-here c.requires I.1 (omega arith) c.if-kind.false; bounds = I.2; kind_is = refl },
      c.if-kind.false,
    )

pub returns-in-Err : goal.returns-in-Err
returns-in-Err c =
    rw c.at.ensures (flowing-fault c.requires c.loop-p.invariant.1 (omega arith) c.if-kind.false c.in-Err.refusal c.take.new.m c.in-Err.ensures.is)

pub loop-p-smaller : goal.loop-p-smaller
loop-p-smaller c = omega (arith, c.in-Ok.ensures.on, after-above c.args.file.now c.loop-p.p)

pub loop-p-preserved : goal.loop-p-preserved
loop-p-preserved c =
    let I = c.loop-p.invariant in
    (I.0, rw c.in-Ok.ensures.on (flowing-take c.requires I.1 (omega arith) c.if-kind.false c.in-Ok.ensures.is), I.2)

pub returns : goal.returns
returns c =
    flowing-end c.requires c.loop-p.invariant.1 (omega arith)
