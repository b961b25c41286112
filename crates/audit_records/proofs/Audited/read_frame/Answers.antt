-- A frame that passes its tests is the first one, or leads to its caller.
use Rattle.std.proofs.Common.{◌≡◌, true, length, sym, ◌∙◌, arith}
use Rattle.model.specs.File.{ins_at}
use Rattle.model.specs.Choice.{all}
use Rattle.model.specs.Checker.{effect_of}
use Rattle.model.specs.Control.{down}
use Rattle.model.specs.Sound.{frame_tests, call_before}
use Rattle.control_stack.specs.Layout.{the_frame}
use Rattle.audit_places.specs.Places.{in-proc-below}
use Rattle.laws.specs.Records.{down-length}
use Rattle.audit_records.specs.Records.{the_look, BasesFit, frame-proc, frame_fits, popped-params, told-frame, told-first, told-call, told-caller}
use Rattle.audit_records.proofs.Audited.read_frame.Goals as goal
use Rattle.audit_records.proofs.Audited.read_frame.Goals.{Else-not-frame_right}

pub returns-then-not-frame_right : goal.returns-then-not-frame_right
returns-then-not-frame_right c =
    let w = c.frame_at-frame in
    let a = c.args in
    told-frame _ _ _ _ _ _ _ w.result w.ensures.is c.requires.1
    (sym c.if-not-frame_right.true ∙ c.frame_right.ensures (down a.self.now.ctl.now a.left) (down-length _ _))

-- where the frame's record has passed its tests
own_at : (c : Else-not-frame_right) →
    let s = c.args.self.now in
    true ≡ all (frame_tests s.passed.file.now s.passed.map.now (length s.main.now) (length s.ptr.now) (the_frame c.frame_at-frame.result) (down s.ctl.now c.args.left)
    (the_look c.args.look))
own_at c =
    let a = c.args in
    sym c.if-not-frame_right.false ∙ c.frame_right.ensures (down a.self.now.ctl.now a.left) (down-length a.self.now.ctl.now a.left)

fits-at : (c : Else-not-frame_right) → BasesFit c.frame_at-frame.result
fits-at c =
    let a = c.args in
    let s = a.self.now in
    frame_fits s.passed.file.now s.passed.map.now (length s.main.now) (length s.ptr.now) _ (down s.ctl.now a.left) (the_look a.look) (own_at c) s.main_fits s.ptr_fits

pub returns-then-look-eq1 : goal.returns-then-look-eq1
returns-then-look-eq1 c =
    let w = c.frame_at-frame in
    let s = c.args.self.now in
    told-first _ _ _ _ _ _ _ w.result w.ensures.is c.requires.1 (own_at (goal.at.returns-then-look-eq1 c).Else-not-frame_right) _ c.if-look-eq1.true
    (c.first_right.ensures s.passed.file.now s.passed.map.now (length s.main.now) (length s.ptr.now))

pub head_of-head-requires : goal.head_of-head-requires
head_of-head-requires c =
    let a = c.args in
    let s = a.self.now in
    in-proc-below _ _ _ s.passed.ready.heads _ _
    (frame-proc s.passed.file.now s.passed.map.now (length s.main.now) (length s.ptr.now) c.frame_at-frame.result (down s.ctl.now a.left) (the_look a.look)
    (own_at (goal.at.head_of-head-requires c).Else-not-frame_right))

pub caller_right-requires : goal.caller_right-requires
caller_right-requires c =
    let w = c.frame_at-frame in
    let small = w.ensures.words.returns in
    let call = c.saturating_sub-call.ensures in
    (c.head_of-head.ensures, fits-at (goal.at.caller_right-requires c).Else-not-frame_right, omega arith)

pub returns-then-not-caller_right : goal.returns-then-not-caller_right
unfolding call_before
returns-then-not-caller_right c =
    let w = c.frame_at-frame in
    let s = c.args.self.now in
    told-call _ _ _ _ _ _ _ w.result w.ensures.is c.requires.1 (own_at (goal.at.returns-then-not-caller_right c).Else-not-frame_right) c.if-look-eq1.false _
    c.saturating_sub-call.ensures (sym c.if-not-caller_right.true ∙ c.caller_right.ensures (length s.main.now) (length s.ptr.now))

pub caller_of-requires : goal.caller_of-requires
caller_of-requires c =
    let w = c.frame_at-frame in
    let head = c.head_of-head.ensures in
    let small = w.ensures.words.returns in
    let call = c.saturating_sub-call.ensures in
    (fits-at (goal.at.caller_of-requires c).Else-not-frame_right, head.a_small, head.b_small, omega arith)

pub returns : goal.returns
unfolding call_before
returns c =
    let w = c.frame_at-frame in
    let s = c.args.self.now in
    let f = s.passed.file.now in
    let lm = length s.main.now in
    let lp = length s.ptr.now in
    let yes = sym c.if-not-caller_right.false ∙ c.caller_right.ensures lm lp in
    let call = c.saturating_sub-call.result in
    let pops = popped-params f s.passed.map.now lm lp w.result call c.head_of-head.result c.head_of-head.ensures yes in
    told-caller _ _ _ _ _ _ _ w.result w.ensures.is c.requires.1 (own_at (goal.at.returns c).Else-not-frame_right) c.if-look-eq1.false _ c.saturating_sub-call.ensures _ yes
    (c.caller_of.ensures f lm lp (effect_of f (ins_at f call)) pops)
