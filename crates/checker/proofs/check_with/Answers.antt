-- `checker::check_with` meets its contract: refusals 1 and 2 write nothing, the others the file's part alone.
use mathlib.Core.Path.{refl}
use native.Mathlib.Omega.{arith}
use Rattle.checker.specs.Parts.{check-length, check-map, check-rest}
use Rattle.checker.proofs.check_with.Goals as goal

pub returns-then-not-contains : goal.returns-then-not-contains
returns-then-not-contains c =
    rw c.at.ensures (check-length c.args.file.now c.args.map.now c.args.table.now (grind arith))

pub returns-then-map-size : goal.returns-then-map-size
returns-then-map-size c =
    rw c.at-then-map-size.ensures
    (check-map c.args.file.now c.args.map.now c.args.table.now (grind arith) (grind arith) c.if-map-size.true)

pub returns : goal.returns
returns c =
    check-rest c.args.file.now c.args.map.now c.check_part.new.table (grind arith) (grind arith) c.check_part.new.m _
    c.check_part.result (omega arith) c.check_part.ensures refl
