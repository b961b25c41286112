-- The object is begun, and pointers and plain words are copied behind its size.
use Rattle.std.proofs.Common.{sym, ap, ◌∙◌, arith}
use Rattle.std.proofs.lemmas.List.Edits.{sets, length-between}
use Rattle.std.proofs.lemmas.Slice.{between_is}
use lib.Seq.{length-slice}
use Rattle.apply_objects.specs.Laws.{both-copied}
use Rattle.apply_objects.proofs.form.Goals as goal

pub copy-requires : goal.copy-requires
copy-requires c =
    let B = c.begin-first in
    let P = c.requires in
    omega (arith, P.free, B.ensures.first, B.auto.heap, length-between c.args.ptr.now c.args.put.at c.args.regs.ptop P.ptr_fits)

pub copy-requires-2 : goal.copy-requires-2
copy-requires-2 c =
    let B = c.begin-first in
    let P = c.requires in
    omega (arith, P.free, B.ensures.first, B.auto.heap, c.copy.auto.heap, length-between c.args.main.now c.args.put.mtop c.args.regs.mtop P.main_fits)

pub returns : goal.returns
returns c =
    let B = c.begin-first in
    let P = c.requires in
    let A = c.args in
    both-copied _ _ _ _ B.ensures.first B.ensures.begun _ _ (sym (length-slice A.put.at A.regs.ptop A.ptr.now P.ptr_fits))
    (sym (length-slice A.put.mtop A.regs.mtop A.main.now P.main_fits))
    (c.copy.ensures ∙ ap (sets _ _) (between_is A.ptr.now A.put.at A.regs.ptop))
    (c.copy-2.ensures ∙ ap (sets _ _) (between_is A.main.now A.put.mtop A.regs.mtop))
