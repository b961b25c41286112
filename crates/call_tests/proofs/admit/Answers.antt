-- `call_tests::admit` meets its contract: its marks are fresh, and enough for the heap or for any that is not too long.
use mathlib.Core.Path.{refl}
use Rattle.model.specs.Calls.{Lent, heap_most, register_tests}
use Rattle.laws.specs.Choices.{if-self}
use Rattle.call_tests.specs.Admit.{tables-fresh}
use Rattle.call_tests.proofs.admit.Goals as goal
use Rattle.call_tests.proofs.admit.Goals.{Start}

abbrev lent : Start → Lent
lent S =
    let A = S.args in
    record { file = A.file.now; map = A.map.now; main = A.main.now; ptr = A.ptr.now; ctl = A.ctl.now; heap = A.heap.now; bytes = A.bytes.now }

pub admit_with-requires : goal.admit_with-requires
admit_with-requires c =
    tables-fresh 2048 _ _ _ c.requires refl (λ n. c.if-heap-le-FEW.true)

pub returns-then-heap-le-FEW : goal.returns-then-heap-le-FEW
returns-then-heap-le-FEW c =
    let l = lent (goal.at.returns-then-heap-le-FEW c).Start in
    (c.admit_with.ensures (register_tests l) l.bytes (λ few. if-self _)).found

pub admit_with-requires-2 : goal.admit_with-requires-2
admit_with-requires-2 c =
    tables-fresh heap_most _ _ _ c.requires refl (λ n. n)

pub returns : goal.returns
returns c =
    let l = lent (goal.at.returns c).Start in
    (c.admit_with-2.ensures (register_tests l) l.bytes (λ few. if-self _)).found
