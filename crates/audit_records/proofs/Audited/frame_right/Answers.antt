-- The procedure is the one that the record names.
use Rattle.std.proofs.Common.{sym, ◌∙◌, arith, length}
use Rattle.std.proofs.lemmas.Bool.Decides.{nat_tests}
use Rattle.audit_places.specs.Places.{in-proc-true, in-proc-below}
use Rattle.audit_records.specs.Records.{the_look, not_within}
use Rattle.audit_records.proofs.Audited.frame_right.Goals as goal

pub returns-then-not-within : goal.returns-then-not-within
returns-then-not-within c =
    let a = c.args in
    λ rs e. not_within _ a.self.now.passed.map.now (length a.self.now.main.now) (length a.self.now.ptr.now) a.frame rs (the_look a.look)
    (sym c.within.ensures ∙ c.if-not-within.true)

pub head_of-head-requires : goal.head_of-head-requires
head_of-head-requires c =
    in-proc-below _ _ _ c.args.self.now.passed.ready.heads _ _ (sym c.within.ensures ∙ c.if-not-within.false)

pub returns-then-look-head : goal.returns-then-look-head
returns-then-look-head c =
    let i = in-proc-true _ _ _ (sym c.within.ensures ∙ c.if-not-within.false) in
    let h = c.head_of-head.ensures in
    λ rs e. grind (arith, nat_tests, i.0, i.1, h.x_is, h.y_is)
