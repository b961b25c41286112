-- `check_ways::jumps`: at each code the definition computes; the last arm has the codes 5 and 6.
use Prim.Native.Nat.{suc}
use mathlib.Core.Path.{◌≡◌, ◌∙◌, ap, refl, sym}
use native.Mathlib.Omega.{arith}
use mathlib.Core.Logic.{inr}
use Rattle.model.specs.File.{codes, bodies, body_of, forwards, ins_of}
use Rattle.laws_file.specs.Kinds.{other}
use Rattle.check_rows.specs.Shape.{Jump, Branch, Keep, shape_of}
use Rattle.check_rows.specs.Kinds.{each_from}
use Rattle.check_ways.specs.Ways.{leads_to, led, target_room}
use Rattle.check_ways.proofs.jumps.Goals as goal

pub forwards-requires : goal.forwards-requires
forwards-requires c = target_room c.requires

pub jump-requires : goal.jump-requires
unfolding ins_of shape_of body_of bodies codes
jump-requires c =
    led c.requires.0 1 3 (leads_to Jump 0 _) c.in-1.is refl (ap (leads_to Jump 0) (sym c.forwards.ensures.is))

pub backwards-requires : goal.backwards-requires
backwards-requires c = target_room c.requires

pub jump-requires-in-3 : goal.jump-requires-in-3
unfolding ins_of shape_of body_of bodies codes
jump-requires-in-3 c =
    led c.requires.0 3 3 (leads_to Jump 0 _) c.in-3.is refl (ap (leads_to Jump 0) (sym c.backwards.ensures.is))

pub forwards-requires-in-2 : goal.forwards-requires-in-2
forwards-requires-in-2 c = target_room c.requires

pub branch-file-requires : goal.branch-file-requires
unfolding ins_of shape_of body_of bodies codes
branch-file-requires c =
    led c.requires.0 2 3 (leads_to Branch 1 _) c.in-2.is refl (ap (leads_to Branch 1) (sym c.forwards-in-2.ensures.is))

pub backwards-requires-in-0 : goal.backwards-requires-in-0
backwards-requires-in-0 c = target_room c.requires

pub branch-file-requires-in-0 : goal.branch-file-requires-in-0
unfolding ins_of shape_of body_of bodies codes
branch-file-requires-in-0 c =
    let is-four = other c.in-0.is (λ e. absurd (omega (arith, c.requires.1, e))) in
    led c.requires.0 4 3 (leads_to Branch 1 _) is-four refl (ap (leads_to Branch 1) (sym c.backwards-in-0.ensures.is))

pub forwards-requires-in_default : goal.forwards-requires-in_default
forwards-requires-in_default c = target_room c.requires

pub branch-file-requires-in_default : goal.branch-file-requires-in_default
unfolding ins_of shape_of body_of bodies codes
branch-file-requires-in_default c =
    let f = c.args.file.now in
    let p = c.args.p in
    let not-four : c.args.kind ≡ 4 → ⊥ = λ e. c.in_default.in_default-own.rest.1 (inr e) in
    led c.requires.0 c.args.kind 3 (leads_to Keep 1 _) refl
    (each_from (λ n. suc (body_of n) ≡ 3) 2 5 (refl, (refl, tt)) c.args.kind (omega (arith, not-four)) (omega arith))
    (each_from (λ n. shape_of f p (ins_of f p n) ≡ leads_to Keep 1 (forwards f p)) 2 5 (refl, (refl, tt)) c.args.kind (omega (arith, not-four)) (omega arith)
    ∙ ap (leads_to Keep 1) (sym c.forwards-in_default.ensures.is))
