-- Each return is one branch of `heap_of`: the mark, the walk, the root, the pointer words, the free words, in this order.
use mathlib.Core.Logic.{inl, inr}
use native.Mathlib.Omega.{arith}
use Rattle.std.proofs.lemmas.Result.{err_from_is_err_and}
use Rattle.audit_heap.specs.Found.{Range}
use Rattle.audit_heap.specs.Answers.{audited-mark, audited-walk, walked-right}
use Rattle.audit_heap.proofs.Tested.{audited-root, audited-pointer, audited-free}
use Rattle.audit_heap.proofs.audit_heap.Goals as goal
use Rattle.audit_heap.proofs.audit_heap.Goals.{Else-heap-mark}

pub returns-then-mark-lt2 : goal.returns-then-mark-lt2
returns-then-mark-lt2 c = audited-mark _ _ (inl c.if-mark-lt2.true)

pub returns-then-heap-mark : goal.returns-then-heap-mark
returns-then-heap-mark c = audited-mark _ _ (inr c.if-heap-mark.true)

in-range : (c : Else-heap-mark) → Range c.args.heap.now
in-range c = omega arith

pub returns-in_err-links : goal.returns-in_err-links
returns-in_err-links c =
    let p = err_from_is_err_and c.from_residual.result c.from_residual.ensures.1 in
    rw (p.1, p.2) (audited-walk _ _ _ _ _ (in-range (goal.at.returns-in_err-links c).Else-heap-mark) c.mark_objects.ensures c.in_err-links.was)

pub returns-then-not-is_pointer : goal.returns-then-not-is_pointer
returns-then-not-is_pointer c =
    audited-root _ _ _ _ (in-range (goal.at.returns-then-not-is_pointer c).Else-heap-mark) c.mark_objects.ensures c.in_ok-links.was _
    c.is_pointer.ensures (cc)

pub pointers_right-requires : goal.pointers_right-requires
pointers_right-requires c =
    let R = in-range (goal.at.pointers_right-requires c).Else-heap-mark in
    let W = c.mark_objects.ensures in
    (R, walked-right _ _ _ _ R W c.in_ok-links.was, W.linked _ c.in_ok-links.was)

pub returns-in_err-pointers_right : goal.returns-in_err-pointers_right
returns-in_err-pointers_right c =
    let p = err_from_is_err_and c.from_residual-in_err-pointers_right.result c.from_residual-in_err-pointers_right.ensures.1 in
    rw (p.1, p.2)
    (audited-pointer _ _ _ _ (in-range (goal.at.returns-in_err-pointers_right c).Else-heap-mark) c.mark_objects.ensures c.in_ok-links.was _ _ _
    c.is_pointer.ensures (cc) c.pointers_right.ensures c.in_err-pointers_right.was)

pub returns : goal.returns
returns c =
    audited-free _ _ _ _ (in-range (goal.at.returns c).Else-heap-mark) c.mark_objects.ensures c.in_ok-links.was _ _ _
    c.is_pointer.ensures (cc) c.pointers_right.ensures c.in_ok-pointers_right.was c.free_zero.ensures
