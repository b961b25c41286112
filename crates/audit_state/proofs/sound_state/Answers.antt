-- The parts of the audit, in the order of `sound?`: finished, or the tops, the records and the words.
use Rattle.std.proofs.Common.{ℕ, List, sym, ap, ◌∙◌, arith, length}
use Rattle.std.proofs.lemmas.Bool.Decides.{nat_tests}
use Rattle.model.specs.Control.{Machine, down, records}
use Rattle.model.specs.Sound.{stack?}
use Rattle.audit_places.specs.Places.{some-proc}
use Rattle.audit_state.specs.Audit.{sound-is}
use Rattle.audit_state.proofs.sound_state.Goals as goal
use Rattle.audit_state.proofs.sound_state.Goals.{Start}

-- the state, with a heap
abbrev state : Start → List ℕ → Machine
state S heap = let s = S.args.audited.now in record { regs = S.args.regs; main = s.main.now; ptr = s.ptr.now; ctl = s.ctl.now; heap = heap }

pub head_of-head-requires : goal.head_of-head-requires
head_of-head-requires c = some-proc _ _ _ c.args.audited.now.passed.ready.heads

pub returns-then-done_right : goal.returns-then-done_right
returns-then-done_right c =
    let p = c.args.audited.now.passed in
    let h = c.head_of-head.ensures in
    λ heap K.
    let e = sound-is p.file.now p.map.now (state (goal.at.returns-then-done_right c).Start heap) in
    grind (arith, nat_tests, e, c.words_right.ensures heap K, h.r_is, h.s_is)

pub returns-else-done_right : goal.returns-else-done_right
returns-else-done_right c =
    let p = c.args.audited.now.passed in
    let h = c.head_of-head.ensures in
    λ heap K. grind (arith, nat_tests, sound-is p.file.now p.map.now (state (goal.at.returns-else-done_right c).Start heap), h.r_is, h.s_is)

pub records_right-requires : goal.records_right-requires
records_right-requires c = let t = sym c.tops_right.ensures ∙ c.if-tops_right.true in grind (arith, nat_tests, t)

pub returns-then-records_right : goal.returns-then-records_right
returns-then-records_right c =
    let p = c.args.audited.now.passed in
    λ heap K.
    let m = state (goal.at.returns-then-records_right c).Start heap in
    let look = ap (stack? p.file.now p.map.now (length m.main) (length m.ptr) (down m.ctl (records m))) (c.top_frame-top.ensures m) in
    grind (arith, nat_tests, sound-is p.file.now p.map.now m, c.words_right-then-records_right.ensures heap K, look)

pub returns-else-records_right : goal.returns-else-records_right
returns-else-records_right c =
    let p = c.args.audited.now.passed in
    λ heap K.
    let m = state (goal.at.returns-else-records_right c).Start heap in
    let look = ap (stack? p.file.now p.map.now (length m.main) (length m.ptr) (down m.ctl (records m))) (c.top_frame-top.ensures m) in
    grind (arith, nat_tests, sound-is p.file.now p.map.now m, look)
