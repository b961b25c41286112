-- The audit in parts: the tests of the registers, the records, and the words of the three stacks are `sound?`.
use Rattle.std.specs.Prelude.{ℕ, ◌*◌, ◌/◌, ◌≤◌, Bool, List, [], ◌∷◌, ◌≡◌, leb, eqb, length, drop}
use Rattle.std.proofs.Math.Bool.{true, false}
use Rattle.std.proofs.Common.{ap, sym, ◌∙◌, eq-eqb, ne_eqb}
use native.Mathlib.Omega.{arith}
use Rattle.model.specs.Choice.{when◌then◌else◌, Test, same, at_most, yes?, all, All, all_true}
use Rattle.model.specs.File.{results_main, results_ptr}
use Rattle.model.specs.Heap.{objects_of}
use Rattle.model.specs.Control.{Machine, set_regs, record_words, down, records, root_words}
use Rattle.model.specs.Sound.{Look, main_at, ptr_at, zeros, pointers, stack?, stack_tests, topmost, running_tests, finished_tests, sound?}
use Rattle.model.specs.declared.Regs.{Regs}
use Rattle.code_file.specs.declared.Head.{Head}
use Rattle.audit_places.specs.Places.{HeadFor}
use Rattle.laws.specs.Tests.{Fails, test, fails-all, decided, all_both}

module _ (map : List ℕ) (r : Regs) (n : ℕ) where
  -- running: state and tops; n is the length of the control stack
  abbrev pub tops_tests : List Test
  tops_tests =
      same r.state 0
      ∷ same r.ctop (record_words * (r.ctop / record_words))
      ∷ at_most r.ctop n
      ∷ at_most (main_at map r.place) r.mtop
      ∷ at_most (ptr_at map r.place) r.ptop
      ∷ []

  abbrev pub tops_ok : Bool
  tops_ok = all tops_tests

  -- one test fails, or the last decides
  pub tops-fails : (k : ℕ) → Fails (test k tops_tests) → false ≡ tops_ok
  tops-fails k h = fails-all k tops_tests h

  pub tops-last : (t : Bool) → t ≡ leb (ptr_at map r.place) r.ptop → (t ≡ true → All tops_tests) → t ≡ tops_ok
  tops-last t e h = decided 4 tops_tests t e h

  -- the control stack has room for the records
  pub tops-room : tops_ok ≡ true → record_words * (r.ctop / record_words) ≤ n
  tops-room e = let a = all_true tops_tests e in let b = a.1.0 in let c = a.1.1.0 in omega arith

-- finished, with main and pointer results as many as m and p
module _ (m p : ℕ) (r : Regs) where
  abbrev pub done_tests : List Test
  done_tests =
      same r.place 0
      ∷ same r.frame 0
      ∷ same r.handler 0
      ∷ same r.ctop 0
      ∷ same r.mtop m
      ∷ same r.ptop p
      ∷ []

  abbrev pub done_ok : Bool
  done_ok = all done_tests

  -- one test fails, or the last decides
  pub done-fails : (k : ℕ) → Fails (test k done_tests) → false ≡ done_ok
  done-fails k h = fails-all k done_tests h

  pub done-last : (t : Bool) → t ≡ eqb r.ptop p → (t ≡ true → All done_tests) → t ≡ done_ok
  done-last t e h = decided 5 done_tests t e h

-- the words of the stacks; the pointers outside the heap are those of the pointer stack
pub rest-last : (m : Machine) {r : Bool} → zeros (drop m.regs.mtop m.main) ≡ true →
    zeros (drop m.regs.ptop m.ptr) ≡ true → zeros (drop m.regs.ctop m.ctl) ≡ true →
    r ≡ pointers (objects_of m.heap) m.ptr → r ≡ all (stack_tests m)
unfolding root_words
rest-last m {r} a b c e = decided 3 (stack_tests m) r e (λ t. (a, (b, (c, (sym e ∙ t, tt)))))

abbrev records_ok : List ℕ → List ℕ → Machine → Bool
records_ok f map m =
    stack? f map (length m.main) (length m.ptr) (down m.ctl (records m)) (topmost map m)

module _ (f map : List ℕ) (m : Machine) where
  pub sound-is :
      sound? f map m
      ≡ (when eqb m.regs.state 1
      then (when done_ok (results_main f 0) (results_ptr f 0) m.regs then all (stack_tests m) else false)
      else (when tops_ok map m.regs (length m.ctl) then (when records_ok f map m then all (stack_tests m) else false) else false))
  unfolding sound? running_tests finished_tests
  sound-is = go (eqb m.regs.state 1)
    where
      go : (t : Bool) →
          (when t then all (finished_tests f m) else all (running_tests f map m))
          ≡ (when t
          then (when done_ok (results_main f 0) (results_ptr f 0) m.regs then all (stack_tests m) else false)
          else (when tops_ok map m.regs (length m.ctl) then (when records_ok f map m then all (stack_tests m) else false) else false))
      go true = all_both (done_tests (results_main f 0) (results_ptr f 0) m.regs) (stack_tests m)
      go false = all_both (tops_tests map m.regs (length m.ctl)) (yes? (records_ok f map m) ∷ stack_tests m)

  -- finished: the registers decide, then the words
  module _ (done : m.regs.state ≡ 1) {h : Head} (H : HeadFor f 0 h) where
    done-is : (t : Bool) → done_ok h.r h.s m.regs ≡ t → sound? f map m ≡ (when t then all (stack_tests m) else false)
    done-is t e = sound-is ∙ rw (eq-eqb m.regs.state 1 done, ← H.r_is, ← H.s_is, e)

    pub sound-done : {r : Bool} → done_ok h.r h.s m.regs ≡ true → r ≡ all (stack_tests m) → r ≡ sound? f map m
    sound-done e d = d ∙ sym (done-is true e)

    pub sound-undone : done_ok h.r h.s m.regs ≡ false → false ≡ sound? f map m
    sound-undone e = sym (done-is false e)

  -- running: the tops decide, then the records, then the words
  module _ (on : m.regs.state ≡ 1 → ⊥) where
    on-is : (t : Bool) → tops_ok map m.regs (length m.ctl) ≡ t →
        sound? f map m ≡ (when t then (when records_ok f map m then all (stack_tests m) else false) else false)
    on-is t e = sound-is ∙ rw (ne_eqb m.regs.state 1 on, e)

    pub sound-tops : tops_ok map m.regs (length m.ctl) ≡ false → false ≡ sound? f map m
    sound-tops e = sym (on-is false e)

    module _ (t : tops_ok map m.regs (length m.ctl) ≡ true) (top : Look) (top-is : (m' : Machine) → top ≡ topmost map (set_regs m.regs m')) {b : Bool}
        (b_is : b ≡ stack? f map (length m.main) (length m.ptr) (down m.ctl (records m)) top) where
      records-are : (u : Bool) → b ≡ u → sound? f map m ≡ (when u then all (stack_tests m) else false)
      records-are u e =
          let same-look = ap (stack? f map (length m.main) (length m.ptr) (down m.ctl (records m))) (top-is m) in
          on-is true t ∙ ap (λ (v : Bool). when v then all (stack_tests m) else false) (sym (b_is ∙ same-look) ∙ e)

      pub sound-records : b ≡ false → false ≡ sound? f map m
      sound-records e = sym (records-are false e)

      pub sound-rest : {r : Bool} → b ≡ true → r ≡ all (stack_tests m) → r ≡ sound? f map m
      sound-rest e h = h ∙ sym (records-are true e)
