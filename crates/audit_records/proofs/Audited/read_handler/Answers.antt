-- A handler that passes its tests leads to the one outside it.
use Rattle.std.proofs.Common.{sym, ◌∙◌}
use Rattle.model.specs.Control.{down}
use Rattle.laws.specs.Records.{down-length}
use Rattle.audit_records.specs.Records.{told-handler, told-outside}
use Rattle.audit_records.proofs.Audited.read_handler.Goals as goal

pub returns-then-not-handler_right : goal.returns-then-not-handler_right
returns-then-not-handler_right c =
    let w = c.handler_at-handler in
    let a = c.args in
    λ f lm lp h. told-handler _ _ _ _ _ _ _ w.result w.ensures h
    (sym c.if-not-handler_right.true ∙ c.handler_right.ensures f lm lp (down a.self.now.ctl.now a.left) (down-length a.self.now.ctl.now a.left))

pub returns : goal.returns
returns c =
    let w = c.handler_at-handler in
    let a = c.args in
    λ f lm lp h. told-outside _ _ _ _ _ _ _ w.result w.ensures h _
    (sym c.if-not-handler_right.false ∙ c.handler_right.ensures f lm lp (down a.self.now.ctl.now a.left) (down-length a.self.now.ctl.now a.left))
    (c.outside_of.ensures f lm lp)
