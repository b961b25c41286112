-- `call_tests::test_for_run` meets its contract: its marks are fresh, and enough for the heap or for any that is not too long.
use mathlib.Core.Path.{refl}
use Rattle.model.specs.Calls.{heap_most}
use Rattle.call_tests.specs.Admit.{tables-fresh, short-belongs}
use Rattle.call_tests.proofs.test_for_run.Goals as goal

pub test_with-requires : goal.test_with-requires
test_with-requires c =
    let A = c.args in
    let its = short-belongs _ A.file.now A.bytes.now c.belongs-its.ensures in
    (tables-fresh 2048 _ _ _ c.requires refl (λ n. c.if-heap-le-FEW.true), its)

pub test_with-requires-2 : goal.test_with-requires-2
test_with-requires-2 c =
    let A = c.args in
    let its = short-belongs _ A.file.now A.bytes.now c.belongs-its.ensures in
    (tables-fresh heap_most _ _ _ c.requires refl (λ n. n), its)
