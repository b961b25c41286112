-- Sound states as a statement, `Sound`, which model's `sound?` computes exactly (`sound?-true`, `true-sound?`), each test saying one field;
-- and the depth claim: in a running state each top is the running frame's base plus the map's depth, the base being in its record.
use Rattle.std.specs.Prelude.{ℕ, ◌+◌, ◌-◌, ◌*◌, ◌≤◌, ◌≡◌, true, List, ◌⊎◌, length, eqb}
use Rattle.std.proofs.Math.Logic.{inl, inr}
use native.Mathlib.Omega.{arith}
use borrow.Author.Tests.{eq-eqb, ne_eqb, eqb-true}
use Rattle.model.specs.Choice.{All, all_true, true-all}
use Rattle.model.specs.File.{results_main, results_ptr}
use Rattle.model.specs.Heap.{is_pointer, objects_of}
use Rattle.model.specs.Control.{Machine, down, record_words, records, root_words}
use Rattle.model.specs.Sound.{main_at, ptr_at, inner_at, Look, topmost, stack_tests, running_tests, finished_tests, sound?}
use Rattle.model.specs.Claim.{Depths}
use Rattle.laws.specs.Choices.{if-cases}
use Rattle.laws.specs.Cuts.{Zero, Each, zeros-true, true-zeros, pointers-true, true-pointers}
use Rattle.theory_state.specs.Stack.{Stack, stack?-true, true-stack?, stack-frame}

-- what is demanded of the stacks' words; Ptr: what every word of the pointer stack is
pub record StackWords (Ptr : ℕ → Type 0) (m : Machine) : Type 0 where
  pub zero_main : Zero m.regs.mtop m.main
  pub zero_ptr : Zero m.regs.ptop m.ptr
  pub zero_ctl : Zero m.regs.ctop m.ctl
  pub pointers : Each Ptr m.ptr

words-with : (P Q : ℕ → Type 0) (m : Machine) → ((v : ℕ) → P v → Q v) → StackWords P m → StackWords Q m
words-with P Q m k W =
    record { zero_main = W.zero_main; zero_ptr = W.zero_ptr; zero_ctl = W.zero_ctl; pointers = λ i. k _ (W.pointers i) }

-- how the records are looked at from the registers, with these bases
abbrev pub looking : List ℕ → Machine → ℕ → ℕ → Look
looking map m i j =
    record {
      inner = inner_at map m.regs.place;
      place = m.regs.place;
      frame = m.regs.frame;
      handler = m.regs.handler;
      main_base = i;
      ptr_base = j;
    }

-- running, with n records; i, j: the running frame's bases
pub record Running (f map : List ℕ) (Ptr : ℕ → Type 0) (m : Machine) (n i j : ℕ) : Type 0 where
  pub main_top : m.regs.mtop ≡ i + main_at map m.regs.place
  pub ptr_top : m.regs.ptop ≡ j + ptr_at map m.regs.place
  pub ctl_top : m.regs.ctop ≡ record_words * n
  pub state_is : m.regs.state ≡ 0
  pub room : m.regs.ctop ≤ length m.ctl
  pub stack : Stack f map (length m.main) (length m.ptr) (down m.ctl n) (looking map m i j)
  pub words : StackWords Ptr m

pub record Finished (f : List ℕ) (Ptr : ℕ → Type 0) (m : Machine) : Type 0 where
  pub state_is : m.regs.state ≡ 1
  pub place_is : m.regs.place ≡ 0
  pub frame_is : m.regs.frame ≡ 0
  pub handler_is : m.regs.handler ≡ 0
  pub ctl_top : m.regs.ctop ≡ 0
  pub main_top : m.regs.mtop ≡ results_main f 0
  pub ptr_top : m.regs.ptop ≡ results_ptr f 0
  pub words : StackWords Ptr m

abbrev pub Sound : List ℕ → List ℕ → (ℕ → Type 0) → Machine → Type 0
Sound f map Ptr m = ((n : ℕ) × (i : ℕ) × (j : ℕ) × Running f map Ptr m n i j) ⊎ Finished f Ptr m

-- with another statement on pointers
pub sound-with : (f map : List ℕ) (P Q : ℕ → Type 0) (m : Machine) → ((v : ℕ) → P v → Q v) → Sound f map P m → Sound f map Q m
sound-with f map P Q m k (inl S) =
    let R = S.3 in
    inl (
      S.0,
      S.1,
      S.2,
      record {
        main_top = R.main_top;
        ptr_top = R.ptr_top;
        ctl_top = R.ctl_top;
        state_is = R.state_is;
        room = R.room;
        stack = R.stack;
        words = words-with P Q m k R.words;
      },
    )
sound-with f map P Q m k (inr D) =
    inr (record {
      state_is = D.state_is;
      place_is = D.place_is;
      frame_is = D.frame_is;
      handler_is = D.handler_is;
      ctl_top = D.ctl_top;
      main_top = D.main_top;
      ptr_top = D.ptr_top;
      words = words-with P Q m k D.words;
    })

-- a pointer, as the audit tests it
abbrev pub TestedPointer : Machine → ℕ → Type 0
TestedPointer m v = is_pointer (objects_of m.heap) v ≡ true

words-true : (m : Machine) → All (stack_tests m) → StackWords (TestedPointer m) m
unfolding root_words
words-true m T =
    record {
      zero_main = zeros-true m.regs.mtop m.main T.0;
      zero_ptr = zeros-true m.regs.ptop m.ptr T.1.0;
      zero_ctl = zeros-true m.regs.ctop m.ctl T.1.1.0;
      pointers = pointers-true (objects_of m.heap) m.ptr T.1.1.1.0;
    }

true-words : (m : Machine) → StackWords (TestedPointer m) m → All (stack_tests m)
unfolding root_words
true-words m W = (
  true-zeros m.regs.mtop m.main W.zero_main,
  (
    true-zeros m.regs.ptop m.ptr W.zero_ptr,
    (true-zeros m.regs.ctop m.ctl W.zero_ctl, (true-pointers (objects_of m.heap) m.ptr W.pointers, tt)),
  ),
)

module _ (f map : List ℕ) (m : Machine) where
  pub sound?-true : sound? f map m ≡ true → Sound f map (TestedPointer m) m
  unfolding sound? running_tests finished_tests
  sound?-true e =
      if-cases (eqb m.regs.state 1) _ _
      (λ u v. let T = all_true (finished_tests f m) v in
      inr (record {
        state_is = eqb-true m.regs.state 1 u;
        place_is = T.0;
        frame_is = T.1.0;
        handler_is = T.1.1.0;
        ctl_top = T.1.1.1.0;
        main_top = T.1.1.1.1.0;
        ptr_top = T.1.1.1.1.1.0;
        words = words-true m T.1.1.1.1.1.1;
      }))
      (λ u v. let T = all_true (running_tests f map m) v in
      inl (
        records m,
        m.regs.mtop - main_at map m.regs.place,
        m.regs.ptop - ptr_at map m.regs.place,
        record {
          main_top = omega arith;
          ptr_top = omega arith;
          ctl_top = T.1.0;
          state_is = T.0;
          room = T.1.1.0;
          stack = stack?-true f map (length m.main) (length m.ptr) (down m.ctl (records m)) (topmost map m) T.1.1.1.1.1.0;
          words = words-true m T.1.1.1.1.1.1;
        },
      ))
      e

  pub true-sound? : Sound f map (TestedPointer m) m → sound? f map m ≡ true
  unfolding sound? running_tests finished_tests
  true-sound? (inl S) =
      let R = S.3 in
      let e1 = R.main_top in
      let e2 = R.ptr_top in
      let e3 = R.ctl_top in
      let n : records m ≡ S.0 = omega arith in
      let i : m.regs.mtop - main_at map m.regs.place ≡ S.1 = omega arith in
      let j : m.regs.ptop - ptr_at map m.regs.place ≡ S.2 = omega arith in
      rw (ne_eqb m.regs.state 1 (let e = R.state_is in omega arith))
      (true-all (running_tests f map m) (
        R.state_is,
        (
          omega arith,
          (
            R.room,
            (
              omega arith,
              (
                omega arith,
                (rw (n, i, j) (true-stack? f map (length m.main) (length m.ptr) R.stack), true-words m R.words),
              ),
            ),
          ),
        ),
      ))
  true-sound? (inr D) =
      rw (eq-eqb m.regs.state 1 D.state_is)
      (true-all (finished_tests f m)
      (D.place_is, (D.frame_is, (D.handler_is, (D.ctl_top, (D.main_top, (D.ptr_top, true-words m D.words)))))))

-- the depth claim
pub running-depths : (f map : List ℕ) (Ptr : ℕ → Type 0) (m : Machine) (n i j : ℕ) → Running f map Ptr m n i j → Depths map m
running-depths f map Ptr m n i j R =
    let F = stack-frame f map (length m.main) (length m.ptr) m.ctl n R.stack in
    record { main = rw F.1.1.0 R.main_top; ptr = rw F.1.1.1.0 R.ptr_top }
