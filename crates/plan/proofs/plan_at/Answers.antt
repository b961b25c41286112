-- `plan::plan_at`: each arm by its function's contract, which asks for what `Arms` draws from `StepReady`; of the codes only those of the instructions on reals are in no arm before the last.
use mathlib.Core.List.{[], ◌∷◌}
use mathlib.Core.Logic.{inl, inr}
use mathlib.Core.Path.{◌≡◌, refl}
use native.Mathlib.Omega.{arith}
use Rattle.model.specs.Checker.{basic_effect, effect_of}
use Rattle.model.specs.File.{codes, bodies, body_of, maker_pops, ins_of}
use Rattle.laws_file.specs.Kinds.{at_each}
use Rattle.plan_meaning.specs.Planned.{plan_of, planned}
use Rattle.plan.specs.Arms.{place_in, place-small, main_within, ptr_within, record-in, body-here, body, pops-main, pops-ptr, on-words, jump-on}
use Rattle.plan.specs.Arms.{main-word, ptr-word, taken-main, taken-ptr, points, callee, subject, plan-of, plan-here}
use Rattle.plan.specs.Kinds.{last_arm, last-planned, not-zero}
use Rattle.plan.specs.Ready.{StepReady}
use Rattle.plan.proofs.plan_at.Goals as goal
use Rattle.plan.proofs.plan_at.Goals.{After-shared_slice_known-6-1}

-- what is given, where the code is known
ready : (c : After-shared_slice_known-6-1) →
    let a = c.args in
    StepReady a.file.now a.table.now (record { regs = a.regs; main = a.main.now; ptr = a.ptr.now; ctl = a.ctl.now; heap = a.heap.now })
ready c = c.requires

pub bounds-file-place : goal.bounds-file-place
bounds-file-place c =
    let a = c.args in
    let R : StepReady a.file.now a.table.now (record { regs = a.regs; main = a.main.now; ptr = a.ptr.now; ctl = a.ctl.now; heap = a.heap.now }) = c.requires in
    place_in R

pub jumps-requires : goal.jumps-requires
unfolding body_of bodies codes
jumps-requires c = (body (ready (goal.at.jumps-requires c).After-shared_slice_known-6-1) c.in-1.is, inl refl)

pub jumps-requires-in-3 : goal.jumps-requires-in-3
unfolding body_of bodies codes
jumps-requires-in-3 c = (body (ready (goal.at.jumps-requires-in-3 c).After-shared_slice_known-6-1) c.in-3.is, inr refl)

pub on_false-requires : goal.on_false-requires
unfolding body_of bodies codes ins_of effect_of basic_effect
on_false-requires c = jump-on (ready (goal.at.on_false-requires c).After-shared_slice_known-6-1) c.in-2.is (inl refl)

pub on_false-requires-in-5 : goal.on_false-requires-in-5
unfolding body_of bodies codes ins_of effect_of basic_effect
on_false-requires-in-5 c = jump-on (ready (goal.at.on_false-requires-in-5 c).After-shared_slice_known-6-1) c.in-5.is (inr refl)

pub on_true-requires : goal.on_true-requires
unfolding body_of bodies codes ins_of effect_of basic_effect
on_true-requires c = jump-on (ready (goal.at.on_true-requires c).After-shared_slice_known-6-1) c.in-4.is (inl refl)

pub on_true-requires-in-6 : goal.on_true-requires-in-6
unfolding body_of bodies codes ins_of effect_of basic_effect
on_true-requires-in-6 c = jump-on (ready (goal.at.on_true-requires-in-6 c).After-shared_slice_known-6-1) c.in-6.is (inr refl)

pub opens-requires : goal.opens-requires
unfolding body_of bodies codes
opens-requires c =
    let R = ready (goal.at.opens-requires c).After-shared_slice_known-6-1 in
    let e = c.in-72.is in
    let b = at_each (λ k. body_of k ≡ 2) (72 ∷ 160 ∷ []) _ (refl, (refl, tt)) e in
    (rw b at (body-here R), main_within R, ptr_within R, omega (arith, R.ctl_top, R.ctl_at_most), callee R, e)

pub closes-requires : goal.closes-requires
closes-requires c = let R = ready (goal.at.closes-requires c).After-shared_slice_known-6-1 in (place-small R, record-in R, c.in-73.is)

pub main_words-requires : goal.main_words-requires
main_words-requires c = let R = ready (goal.at.main_words-requires c).After-shared_slice_known-6-1 in (body-here R, main_within R, record-in R, main-word R, c.in-20.is)

pub ptr_locals-requires : goal.ptr_locals-requires
unfolding body_of bodies codes
ptr_locals-requires c =
    let R = ready (goal.at.ptr_locals-requires c).After-shared_slice_known-6-1 in
    let e = c.in-21.is in
    (body R e, ptr_within R, record-in R, ptr-word R (inl e), inl refl)

pub ptr_locals-requires-in-23 : goal.ptr_locals-requires-in-23
unfolding body_of bodies codes
ptr_locals-requires-in-23 c =
    let R = ready (goal.at.ptr_locals-requires-in-23 c).After-shared_slice_known-6-1 in
    let e = c.in-23.is in
    (body R e, ptr_within R, record-in R, ptr-word R (inr e), inr refl)

pub compares-requires : goal.compares-requires
unfolding ins_of effect_of basic_effect
compares-requires c = on-words (ready (goal.at.compares-requires c).After-shared_slice_known-6-1) c.in-130.is (inl refl)

pub compares-requires-in-195 : goal.compares-requires-in-195
unfolding ins_of effect_of basic_effect
compares-requires-in-195 c = on-words (ready (goal.at.compares-requires-in-195 c).After-shared_slice_known-6-1) c.in-195.is (inr (inl refl))

pub compares-requires-in-198 : goal.compares-requires-in-198
unfolding ins_of effect_of basic_effect
compares-requires-in-198 c = on-words (ready (goal.at.compares-requires-in-198 c).After-shared_slice_known-6-1) c.in-198.is (inr (inr (inl refl)))

pub compares-requires-in-201 : goal.compares-requires-in-201
unfolding ins_of effect_of basic_effect
compares-requires-in-201 c = on-words (ready (goal.at.compares-requires-in-201 c).After-shared_slice_known-6-1) c.in-201.is (inr (inr (inr (inl refl))))

pub compares-requires-in-204 : goal.compares-requires-in-204
unfolding ins_of effect_of basic_effect
compares-requires-in-204 c = on-words (ready (goal.at.compares-requires-in-204 c).After-shared_slice_known-6-1) c.in-204.is (inr (inr (inr (inr refl))))

pub operations-requires : goal.operations-requires
unfolding ins_of effect_of basic_effect
operations-requires c = on-words (ready (goal.at.operations-requires c).After-shared_slice_known-6-1) c.in-140.is (inl refl)

pub operations-requires-in-141 : goal.operations-requires-in-141
unfolding ins_of effect_of basic_effect
operations-requires-in-141 c = on-words (ready (goal.at.operations-requires-in-141 c).After-shared_slice_known-6-1) c.in-141.is (inr (inl refl))

pub operations-requires-in-142 : goal.operations-requires-in-142
unfolding ins_of effect_of basic_effect
operations-requires-in-142 c = on-words (ready (goal.at.operations-requires-in-142 c).After-shared_slice_known-6-1) c.in-142.is (inr (inr (inl refl)))

pub operations-requires-in-143 : goal.operations-requires-in-143
unfolding ins_of effect_of basic_effect
operations-requires-in-143 c = on-words (ready (goal.at.operations-requires-in-143 c).After-shared_slice_known-6-1) c.in-143.is (inr (inr (inr (inl refl))))

pub operations-requires-in-145 : goal.operations-requires-in-145
unfolding ins_of effect_of basic_effect
operations-requires-in-145 c = on-words (ready (goal.at.operations-requires-in-145 c).After-shared_slice_known-6-1) c.in-145.is (inr (inr (inr (inr refl))))

pub unaries-requires : goal.unaries-requires
unfolding ins_of effect_of basic_effect
unaries-requires c = on-words (ready (goal.at.unaries-requires c).After-shared_slice_known-6-1) c.in-144.is (inl refl)

pub unaries-requires-in-146 : goal.unaries-requires-in-146
unfolding ins_of effect_of basic_effect
unaries-requires-in-146 c = on-words (ready (goal.at.unaries-requires-in-146 c).After-shared_slice_known-6-1) c.in-146.is (inr refl)

pub plain_fields-requires : goal.plain_fields-requires
unfolding body_of bodies codes ins_of effect_of basic_effect
plain_fields-requires c =
    let R = ready (goal.at.plain_fields-requires c).After-shared_slice_known-6-1 in
    let e = c.in-30.is in
    (body R e, main_within R, ptr_within R, pops-ptr R e, points R _, λ z. omega (arith, z), inl refl)

pub plain_fields-requires-in-32 : goal.plain_fields-requires-in-32
unfolding body_of bodies codes ins_of effect_of basic_effect
plain_fields-requires-in-32 c =
    let R = ready (goal.at.plain_fields-requires-in-32 c).After-shared_slice_known-6-1 in
    let e = c.in-32.is in
    (body R e, main_within R, ptr_within R, pops-ptr R e, points R _, λ z. pops-main R e, inr refl)

pub ptr_fields-requires : goal.ptr_fields-requires
unfolding body_of bodies codes ins_of effect_of basic_effect
ptr_fields-requires c =
    let R = ready (goal.at.ptr_fields-requires c).After-shared_slice_known-6-1 in
    let e = c.in-31.is in
    (body R e, ptr_within R, pops-ptr R e, points R _, λ z. omega (arith, z), inl refl)

pub ptr_fields-requires-in-33 : goal.ptr_fields-requires-in-33
unfolding body_of bodies codes ins_of effect_of basic_effect
ptr_fields-requires-in-33 c =
    let R = ready (goal.at.ptr_fields-requires-in-33 c).After-shared_slice_known-6-1 in
    let e = c.in-33.is in
    let k = pops-ptr R e in
    (body R e, ptr_within R, omega (arith, k), points R _, λ z. k, inr refl)

pub takes-requires : goal.takes-requires
unfolding body_of bodies codes ins_of effect_of basic_effect
takes-requires c =
    let R = ready (goal.at.takes-requires c).After-shared_slice_known-6-1 in
    let e = c.in-36.is in
    let b = at_each (λ k. body_of k ≡ 4) (36 ∷ 60 ∷ 62 ∷ 64 ∷ []) _ (refl, (refl, (refl, (refl, tt)))) e in (
      rw b at (body-here R),
      main_within R,
      ptr_within R,
      R.heap_least,
      taken-main R e,
      taken-ptr R e,
      λ z. omega (arith, pops-main R z),
      λ z. omega (arith, pops-ptr R z),
      e,
    )

pub push_nil-requires : goal.push_nil-requires
push_nil-requires c = let R = ready (goal.at.push_nil-requires c).After-shared_slice_known-6-1 in (place-small R, omega (arith, R.ptr_top, R.ptr_at_most))

pub push_root-requires : goal.push_root-requires
push_root-requires c = let R = ready (goal.at.push_root-requires c).After-shared_slice_known-6-1 in (place-small R, omega (arith, R.ptr_top, R.ptr_at_most), R.heap_least)

pub set_root-requires : goal.set_root-requires
unfolding ins_of effect_of basic_effect
set_root-requires c = let R = ready (goal.at.set_root-requires c).After-shared_slice_known-6-1 in (place-small R, ptr_within R, pops-ptr R c.in-59.is)

pub same_ptr-requires : goal.same_ptr-requires
unfolding ins_of effect_of basic_effect
same_ptr-requires c = let R = ready (goal.at.same_ptr-requires c).After-shared_slice_known-6-1 in (place-small R, omega (arith, R.main_top, R.main_at_most), ptr_within R, pops-ptr R c.in-131.is)

pub make_words-requires : goal.make_words-requires
unfolding ins_of effect_of basic_effect maker_pops
make_words-requires c =
    let R = ready (goal.at.make_words-requires c).After-shared_slice_known-6-1 in
    (place-small R, main_within R, pops-main R c.in-80.is, omega (arith, R.ptr_top, R.ptr_at_most), omega (arith, R.heap_least))

pub make_pointers-requires : goal.make_pointers-requires
unfolding ins_of effect_of basic_effect maker_pops
make_pointers-requires c =
    let R = ready (goal.at.make_pointers-requires c).After-shared_slice_known-6-1 in
    let e = c.in-81.is in
    (place-small R, main_within R, pops-main R e, pops-ptr R e, omega (arith, R.ptr_top, R.ptr_at_most), omega (arith, R.heap_least))

pub word_elements-requires : goal.word_elements-requires
unfolding ins_of effect_of basic_effect
word_elements-requires c =
    let R = ready (goal.at.word_elements-requires c).After-shared_slice_known-6-1 in
    let e = c.in-82.is in
    (place-small R, main_within R, ptr_within R, omega (arith, pops-main R e), omega (arith, pops-ptr R e), points R _, λ z. omega (arith, z), inl refl)

pub word_elements-requires-in-84 : goal.word_elements-requires-in-84
unfolding ins_of effect_of basic_effect
word_elements-requires-in-84 c =
    let R = ready (goal.at.word_elements-requires-in-84 c).After-shared_slice_known-6-1 in
    let e = c.in-84.is in
    (place-small R, main_within R, ptr_within R, omega (arith, pops-main R e), omega (arith, pops-ptr R e), points R _, λ z. pops-main R e, inr refl)

pub ptr_elements-requires : goal.ptr_elements-requires
unfolding ins_of effect_of basic_effect
ptr_elements-requires c =
    let R = ready (goal.at.ptr_elements-requires c).After-shared_slice_known-6-1 in
    let e = not-zero _ _ R.code c.in-0.is in
    (place-small R, main_within R, ptr_within R, omega (arith, pops-main R e), omega (arith, pops-ptr R e), points R _, λ z. omega (arith, z), inl refl)

pub ptr_elements-requires-in-85 : goal.ptr_elements-requires-in-85
unfolding ins_of effect_of basic_effect
ptr_elements-requires-in-85 c =
    let R = ready (goal.at.ptr_elements-requires-in-85 c).After-shared_slice_known-6-1 in
    let e = c.in-85.is in
    (place-small R, main_within R, ptr_within R, omega (arith, pops-main R e), omega (arith, pops-ptr R e), points R _, λ z. pops-ptr R e, inr refl)

pub overflow_add-result : goal.overflow_add-result
overflow_add-result c = omega (arith, place-small (ready (goal.at.overflow_add-result c).After-shared_slice_known-6-1))

pub returns-in-1 : goal.returns-in-1
unfolding body_of bodies codes
returns-in-1 c = let R = ready (goal.at.returns-in-1 c).After-shared_slice_known-6-1 in plan-here R c.in-1.is (c.jumps.ensures (subject R))

pub returns-in-3 : goal.returns-in-3
unfolding body_of bodies codes
returns-in-3 c = let R = ready (goal.at.returns-in-3 c).After-shared_slice_known-6-1 in plan-here R c.in-3.is (c.jumps-in-3.ensures (subject R))

pub returns-in-2 : goal.returns-in-2
unfolding body_of bodies codes
returns-in-2 c = let R = ready (goal.at.returns-in-2 c).After-shared_slice_known-6-1 in plan-here R c.in-2.is (c.on_false.ensures (subject R))

pub returns-in-5 : goal.returns-in-5
unfolding body_of bodies codes
returns-in-5 c = let R = ready (goal.at.returns-in-5 c).After-shared_slice_known-6-1 in plan-here R c.in-5.is (c.on_false-in-5.ensures (subject R))

pub returns-in-4 : goal.returns-in-4
unfolding body_of bodies codes
returns-in-4 c = let R = ready (goal.at.returns-in-4 c).After-shared_slice_known-6-1 in plan-here R c.in-4.is (c.on_true.ensures (subject R))

pub returns-in-6 : goal.returns-in-6
unfolding body_of bodies codes
returns-in-6 c = let R = ready (goal.at.returns-in-6 c).After-shared_slice_known-6-1 in plan-here R c.in-6.is (c.on_true-in-6.ensures (subject R))

pub returns-in-72 : goal.returns-in-72
unfolding body_of bodies codes
returns-in-72 c =
    let R = ready (goal.at.returns-in-72 c).After-shared_slice_known-6-1 in
    let b = at_each (λ k. body_of k ≡ 2) (72 ∷ 160 ∷ []) _ (refl, (refl, tt)) c.in-72.is in
    plan-of R 2 b (c.opens.ensures (subject R))

pub returns-in-73 : goal.returns-in-73
unfolding body_of bodies codes
returns-in-73 c =
    let R = ready (goal.at.returns-in-73 c).After-shared_slice_known-6-1 in
    let b = at_each (λ k. body_of k ≡ 0) (73 ∷ 161 ∷ []) _ (refl, (refl, tt)) c.in-73.is in
    plan-of R 0 b (c.closes.ensures _ (subject R))

pub returns-in-20 : goal.returns-in-20
returns-in-20 c = let R = ready (goal.at.returns-in-20 c).After-shared_slice_known-6-1 in plan-of R _ refl (c.main_words.ensures (subject R))

pub returns-in-21 : goal.returns-in-21
unfolding body_of bodies codes
returns-in-21 c = let R = ready (goal.at.returns-in-21 c).After-shared_slice_known-6-1 in plan-here R c.in-21.is (c.ptr_locals.ensures (subject R))

pub returns-in-23 : goal.returns-in-23
unfolding body_of bodies codes
returns-in-23 c = let R = ready (goal.at.returns-in-23 c).After-shared_slice_known-6-1 in plan-here R c.in-23.is (c.ptr_locals-in-23.ensures (subject R))

pub returns-in-130 : goal.returns-in-130
unfolding body_of bodies codes
returns-in-130 c = let R = ready (goal.at.returns-in-130 c).After-shared_slice_known-6-1 in plan-here R c.in-130.is (c.compares.ensures _ (subject R))

pub returns-in-195 : goal.returns-in-195
unfolding body_of bodies codes
returns-in-195 c = let R = ready (goal.at.returns-in-195 c).After-shared_slice_known-6-1 in plan-here R c.in-195.is (c.compares-in-195.ensures _ (subject R))

pub returns-in-198 : goal.returns-in-198
unfolding body_of bodies codes
returns-in-198 c = let R = ready (goal.at.returns-in-198 c).After-shared_slice_known-6-1 in plan-here R c.in-198.is (c.compares-in-198.ensures _ (subject R))

pub returns-in-201 : goal.returns-in-201
unfolding body_of bodies codes
returns-in-201 c = let R = ready (goal.at.returns-in-201 c).After-shared_slice_known-6-1 in plan-here R c.in-201.is (c.compares-in-201.ensures _ (subject R))

pub returns-in-204 : goal.returns-in-204
unfolding body_of bodies codes
returns-in-204 c = let R = ready (goal.at.returns-in-204 c).After-shared_slice_known-6-1 in plan-here R c.in-204.is (c.compares-in-204.ensures _ (subject R))

pub returns-in-140 : goal.returns-in-140
unfolding body_of bodies codes
returns-in-140 c = let R = ready (goal.at.returns-in-140 c).After-shared_slice_known-6-1 in plan-here R c.in-140.is (c.operations.ensures _ (subject R))

pub returns-in-141 : goal.returns-in-141
unfolding body_of bodies codes
returns-in-141 c = let R = ready (goal.at.returns-in-141 c).After-shared_slice_known-6-1 in plan-here R c.in-141.is (c.operations-in-141.ensures _ (subject R))

pub returns-in-142 : goal.returns-in-142
unfolding body_of bodies codes
returns-in-142 c = let R = ready (goal.at.returns-in-142 c).After-shared_slice_known-6-1 in plan-here R c.in-142.is (c.operations-in-142.ensures _ (subject R))

pub returns-in-143 : goal.returns-in-143
unfolding body_of bodies codes
returns-in-143 c = let R = ready (goal.at.returns-in-143 c).After-shared_slice_known-6-1 in plan-here R c.in-143.is (c.operations-in-143.ensures _ (subject R))

pub returns-in-145 : goal.returns-in-145
unfolding body_of bodies codes
returns-in-145 c = let R = ready (goal.at.returns-in-145 c).After-shared_slice_known-6-1 in plan-here R c.in-145.is (c.operations-in-145.ensures _ (subject R))

pub returns-in-144 : goal.returns-in-144
unfolding body_of bodies codes
returns-in-144 c = let R = ready (goal.at.returns-in-144 c).After-shared_slice_known-6-1 in plan-here R c.in-144.is (c.unaries.ensures _ (subject R))

pub returns-in-146 : goal.returns-in-146
unfolding body_of bodies codes
returns-in-146 c = let R = ready (goal.at.returns-in-146 c).After-shared_slice_known-6-1 in plan-here R c.in-146.is (c.unaries-in-146.ensures _ (subject R))

pub returns-in-30 : goal.returns-in-30
unfolding body_of bodies codes
returns-in-30 c = let R = ready (goal.at.returns-in-30 c).After-shared_slice_known-6-1 in plan-here R c.in-30.is (c.plain_fields.ensures (subject R))

pub returns-in-32 : goal.returns-in-32
unfolding body_of bodies codes
returns-in-32 c = let R = ready (goal.at.returns-in-32 c).After-shared_slice_known-6-1 in plan-here R c.in-32.is (c.plain_fields-in-32.ensures (subject R))

pub returns-in-31 : goal.returns-in-31
unfolding body_of bodies codes
returns-in-31 c = let R = ready (goal.at.returns-in-31 c).After-shared_slice_known-6-1 in plan-here R c.in-31.is (c.ptr_fields.ensures (subject R))

pub returns-in-33 : goal.returns-in-33
unfolding body_of bodies codes
returns-in-33 c = let R = ready (goal.at.returns-in-33 c).After-shared_slice_known-6-1 in plan-here R c.in-33.is (c.ptr_fields-in-33.ensures (subject R))

pub returns-in-36 : goal.returns-in-36
unfolding body_of bodies codes
returns-in-36 c =
    let R = ready (goal.at.returns-in-36 c).After-shared_slice_known-6-1 in
    let b = at_each (λ k. body_of k ≡ 4) (36 ∷ 60 ∷ 62 ∷ 64 ∷ []) _ (refl, (refl, (refl, (refl, tt)))) c.in-36.is in
    plan-of R 4 b (c.takes.ensures (subject R))

pub returns-in-57 : goal.returns-in-57
unfolding body_of bodies codes
returns-in-57 c = let R = ready (goal.at.returns-in-57 c).After-shared_slice_known-6-1 in plan-here R c.in-57.is (c.push_nil.ensures _ (subject R))

pub returns-in-58 : goal.returns-in-58
unfolding body_of bodies codes
returns-in-58 c = let R = ready (goal.at.returns-in-58 c).After-shared_slice_known-6-1 in plan-here R c.in-58.is (c.push_root.ensures _ (subject R))

pub returns-in-59 : goal.returns-in-59
unfolding body_of bodies codes
returns-in-59 c = let R = ready (goal.at.returns-in-59 c).After-shared_slice_known-6-1 in plan-here R c.in-59.is (c.set_root.ensures _ (subject R))

pub returns-in-131 : goal.returns-in-131
unfolding body_of bodies codes
returns-in-131 c = let R = ready (goal.at.returns-in-131 c).After-shared_slice_known-6-1 in plan-here R c.in-131.is (c.same_ptr.ensures _ (subject R))

pub returns-in-80 : goal.returns-in-80
unfolding body_of bodies codes
returns-in-80 c = let R = ready (goal.at.returns-in-80 c).After-shared_slice_known-6-1 in plan-here R c.in-80.is (c.make_words.ensures _ (subject R))

pub returns-in-81 : goal.returns-in-81
unfolding body_of bodies codes
returns-in-81 c = let R = ready (goal.at.returns-in-81 c).After-shared_slice_known-6-1 in plan-here R c.in-81.is (c.make_pointers.ensures _ (subject R))

pub returns-in-82 : goal.returns-in-82
unfolding body_of bodies codes
returns-in-82 c = let R = ready (goal.at.returns-in-82 c).After-shared_slice_known-6-1 in plan-here R c.in-82.is (c.word_elements.ensures _ (subject R))

pub returns-in-84 : goal.returns-in-84
unfolding body_of bodies codes
returns-in-84 c = let R = ready (goal.at.returns-in-84 c).After-shared_slice_known-6-1 in plan-here R c.in-84.is (c.word_elements-in-84.ensures _ (subject R))

pub returns-in-0 : goal.returns-in-0
unfolding body_of bodies codes
returns-in-0 c = let R = ready (goal.at.returns-in-0 c).After-shared_slice_known-6-1 in plan-here R (not-zero _ _ R.code c.in-0.is) (c.ptr_elements.ensures _ (subject R))

pub returns-in-85 : goal.returns-in-85
unfolding body_of bodies codes
returns-in-85 c = let R = ready (goal.at.returns-in-85 c).After-shared_slice_known-6-1 in plan-here R c.in-85.is (c.ptr_elements-in-85.ensures _ (subject R))

pub returns-in-162 : goal.returns-in-162
unfolding planned plan_of ins_of body_of bodies codes
returns-in-162 c = plan-here (ready (goal.at.returns-in-162 c).After-shared_slice_known-6-1) c.in-162.is refl

pub returns-in_default : goal.returns-in_default
returns-in_default c =
    let R = ready (goal.at.returns-in_default c).After-shared_slice_known-6-1 in
    plan-of R _ refl (last-planned _ (subject R) _ (last_arm _ _ R.code c.in_default.in_default-own.rest))
