-- The plan of an alive state that is not finished comes to the model's step and can be settled: `Settles`, which `step_with` asks for. What
-- the bridge asks of a machine (`Apt`) follows from what planning had (`Ready`); a raise finds its handler's record on the control stack.
use Rattle.std.specs.Prelude.{ℕ, zero, suc, ◌-◌, ◌≡◌, refl, List, ◌⊎◌, ◌≢◌, length}
use Rattle.std.proofs.Common.{subst, ◌∙◌, inl, inr, arith}
use Rattle.model.specs.Choice.{Mem}
use Rattle.model.specs.File.{exit}
use Rattle.model.specs.Checker.{none}
use Rattle.model.specs.Rules.{Opens}
use Rattle.model.specs.Heap.{Pointer}
use Rattle.model.specs.Control.{Machine, records, as_handler, rec_at, down}
use Rattle.model.specs.Moves.{main_word, ptr_word}
use Rattle.model.specs.Step.{step}
use Rattle.model.specs.Sound.{inner_at}
use Rattle.plan_meaning.specs.Bridge.{Apt}
use Rattle.plan_meaning.proofs.Bridge.{bridge, suited}
use Rattle.plan_meaning.specs.Planned.{plan_at}
use Rattle.plan_meaning.specs.Settled.{settle}
use Rattle.plan_meaning.specs.Suits.{RealSuits, Suited}
use Rattle.plan_meaning.specs.declared.Plan.TheVariants.{Real}
use Rattle.laws_file.specs.Codes.{enter-after}
use Rattle.laws_file.specs.Procedures.{head_whole}
use Rattle.laws_file.specs.Walk.{instruction-below, instruction-whole, proc-below}
use Rattle.heap.specs.Stores.{read-ptr, read_plain, may-set-ptr}
use Rattle.heap.specs.Vectors.{is_found, element-in}
use Rattle.laws.specs.Records.{down-length}
use Rattle.heap.specs.Pointers.{is-object}
use Rattle.theory_state.specs.Stack.{Stack, first, frame, handler, stack-here, stack-frame, stack-numbers, HandlerFound, find-handler}
use Rattle.theory_state.specs.Laws.{CodeLaws, at_exit, depth-most, inner-opens}
use Rattle.theory_state.specs.Sound.{looking, Running}
use Rattle.plan.specs.Ready.{place_of, here}
use Rattle.apply.specs.Applies.{Stands}
use Rattle.apply.specs.Ended.{Caught, stands-raises, Settles}
use Rattle.theory_step.specs.Alive.{Alive, alive-laws, alive-running}
use Rattle.theory_step.specs.Planning.{instruction-at, at_place, in_file, running-ready}

module _ {f map table : List ℕ} {m : Machine} (A : Alive f map table m) (n i j : ℕ)
    (R : Running f map (Pointer A.objects) m n i j) where
  abbrev lm : ℕ
  lm = length m.main

  abbrev lp : ℕ
  lp = length m.ptr

  L : CodeLaws f map
  L = alive-laws A

  -- at a 161 a handler is open, and its record is the topmost
  handler_top : here f m ≡ exit → m.regs.handler ≡ records m
  handler_top e = go n refl R.stack
    where
      u : inner_at map (place_of m) ≢ none
      u = (at_exit f map L (place_of m) (at_place A n i j R) e).0

      go : (k : ℕ) → n ≡ k → Stack f map lm lp (down m.ctl k) (looking map m i j) → m.regs.handler ≡ records m
      go (suc k) d (first z o F T) = absurd (u z)
      go (suc k) d (frame z o F b T S) = absurd (u z)
      go (suc k) d (handler o T S) = omega (arith, R.ctl_top, d, T.0, down-length m.ctl k)
      go zero d x'' = elim x'' [ ]

  stands : Stands f m
  stands =
      let z = A.sizes in
      let Y = running-ready A n i j R in
      let N = stack-numbers f map lm lp m.ctl n R.stack in
      let e = R.ctl_top in
      record {
        main = record { fits = Y.main_top; zero = R.words.zero_main };
        ptr = record { fits = Y.ptr_top; zero = R.words.zero_ptr };
        ctl = record { fits = R.room; zero = R.words.zero_ctl };
        file_at_most = A.short;
        main_at_most = z.main_at_most;
        ptr_at_most = z.ptr_at_most;
        ctl_at_most = z.ctl_at_most;
        heap_at_most = z.heap_at_most;
        place = instruction-below f L.formed.places L.formed.records (place_of m) (in_file A n i j R);
        whole = omega arith;
        frame_some = Y.frame_some;
        frame = Y.frame_in;
        handler = omega arith;
      }

  -- the handler found: its 160, its frame and the word for the code
  caught : (m.regs.handler ≡ 0 → ⊥) → Caught f table m.regs m.main m.ctl
  caught ne = go (find-handler f map lm lp m.ctl n refl R.stack)
    where
      go : (m.regs.handler ≡ 0) ⊎ HandlerFound f map lm lp m.ctl n m.regs.handler → Caught f table m.regs m.main m.ctl
      go (inl z) = absurd (ne z)
      go (inr F) = found (L.keeps.third F.look.place (instruction-at f F.look.place (stack-here f map lm lp F.stack)))
        where
          o : ℕ
          o = inner_at map F.look.place

          found : (o ≡ none) ⊎ Opens f F.look.place o → Caught f table m.regs m.main m.ctl
          found (inl z) = absurd (F.some (F.opened ∙ z))
          found (inr O) =
              let q = F.look.place in
              let k = F.under in
              let w = as_handler (rec_at m.ctl k) in
              let some : o ≢ none = rw F.opened at F.some in
              let I = inner-opens f map L q (stack-here f map lm lp F.stack) some in
              let T = rw F.opened at F.tests in
              let G = stack-frame f map lm lp m.ctl k F.stack in
              let N = stack-numbers f map lm lp m.ctl k F.stack in
              let top : m.regs.handler - 1 ≡ k = omega (arith, F.number, down-length m.ctl k) in
              let D = I.opens.target in
              let M = rw (D.proc, D.main, I.proc) at (depth-most f map L _ D.here).0 in
              let x = rw G.1.1.1.1.0 at G.1.1.1.1.1.0 in
              let a = enter-after f o O.opens in
              let b = instruction-whole f L.formed.places L.formed.records o O.there in
              let c = proc-below f L.formed.places L.formed.records q in
              let d = A.placed.few in
              let e0 = T.1.0 in
              let e1 = T.1.1.0 in
              let e3 = T.1.1.1.1.0 in
              let e4 = F.below in
              let e5 = R.ctl_top in
              let e6 = R.room in
              let e7 = G.1.1.1.1.0 in
              record {
                main_top = rw top (omega arith);
                targets =
                    rw top
                    (record {
                      heads = A.placed.heads;
                      head_most = λ h. let x = head_whole f L.formed.places L.formed.records h in let y = A.short in omega arith;
                      operand = omega arith;
                      frame_some = omega arith;
                      frame_fits = omega arith;
                      proc = rw e3 (omega arith);
                    });
              }

  object : ptr_word m 1 ≢ 0 → Mem (ptr_word m 1) A.objects
  object = is-object A.objects (ptr_word m 1) (R.words.pointers _)

  apt : Apt f m (here f m)
  apt =
      let Y = running-ready A n i j R in
      let e = R.ctl_top in
      record {
        pop-main = Y.pop-main;
        pop-ptr = Y.pop-ptr;
        push-main = Y.push-main;
        push-ptr = Y.push-ptr;
        main_fits = Y.main_top;
        ptr_fits = Y.ptr_top;
        main_zero = R.words.zero_main;
        ptr_zero = R.words.zero_ptr;
        assign_main = λ s e. let w = Y.assign_main s e in omega arith;
        assign_ptr = λ s e. let w = Y.assign_ptr s e in omega arith;
        may_ptr = λ s u. may-set-ptr A.heap (ptr_word m 1) s (object u);
        plain_in = λ s u v. read_plain A.heap (ptr_word m 1) s (object u) v;
        ptr_in = λ s u v. (read-ptr A.heap (ptr_word m 1) s (object u) v).1;
        element_within = λ d a u.
            let F = is_found d m.heap (ptr_word m 1) (main_word m 1) a u in
            element-in A.heap (ptr_word m 1) a (object F.some) d F;
        root_in = Y.heap_least;
        in_file = Y.whole;
        whole = omega arith;
        handler_top = handler_top;
      }

  pub running-settles : Settles f table m (plan_at f m)
  running-settles =
      record {
        writes = λ put e. record { stands = stands; suits = subst (Suited f m) e (suited f m apt) };
        raises = λ never. stands-raises f table m stands caught;
        thrown = λ e. subst (Suited f m) e (suited f m apt);
      }

  -- an instruction on reals is in the file, its words are there, and what it pushes fits
  pub running-real : (p : ℕ) → plan_at f m ≡ Real p → RealSuits f p m
  running-real p e = subst (Suited f m) e (suited f m apt)

  pub running-plan : settle f m (plan_at f m) ≡ step f m
  running-plan = bridge f m apt

module _ {f map table : List ℕ} {m : Machine} (A : Alive f map table m) (u : m.regs.state ≡ 1 → ⊥) where
  pub alive-settles : Settles f table m (plan_at f m)
  alive-settles = let S = alive-running A u in running-settles A S.0 S.1 S.2 S.3

  pub alive-real : (p : ℕ) → plan_at f m ≡ Real p → RealSuits f p m
  alive-real = let S = alive-running A u in running-real A S.0 S.1 S.2 S.3

  -- the plan comes to the step
  pub alive-plan : settle f m (plan_at f m) ≡ step f m
  alive-plan = let S = alive-running A u in running-plan A S.0 S.1 S.2 S.3
