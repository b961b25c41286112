-- What `StepReady` gives to each family of codes: each is a consequence of its fields at the instruction that the code stands for.
use Prim.Native.Nat.{ℕ, suc, ◌+◌, ◌<◌, ◌≤◌}
use Rattle.std.specs.Prelude.{List, [], ◌∷◌, ◌⊎◌, ◌≡◌, refl, length}
use Rattle.std.proofs.Common.{inl, inr, ⊎_elim, ◌∙◌}
use Rattle.std.proofs.Math.Path.{ap}
use native.Mathlib.Omega.{arith}
use Rattle.model.specs.Words.{word_at}
use Rattle.model.specs.File.{byte_at, body_of, after, operand, operand2, maker_pops, ins_of, ins_at, file_most, procs_most}
use Rattle.model.specs.Checker.{basic_effect, effect_of}
use Rattle.model.specs.Control.{Machine, running}
use Rattle.model.specs.Moves.{mtop, ptop}
use Rattle.heap.specs.Stores.{Lies, object-lies}
use Rattle.laws_file.specs.Walk.{after-above}
use Rattle.laws_file.specs.Kinds.{OneOf}
use Rattle.plan_meaning.specs.Planned.{plan_at, planned}
use Rattle.plan_meaning.specs.Asked.{Body, TopWithin}
use Rattle.plan_meaning.specs.declared.Plan.{Plan}
use Rattle.control_stack.specs.Layout.{Numbered}
use Rattle.plan_flow.specs.Given.{Callee}
use Rattle.plan.specs.Ready.{StepReady, place_of, here}

-- the code at the place
abbrev pub code_at : List ℕ → Machine → ℕ
code_at f m = byte_at f (place_of m)

module _ {f table : List ℕ} {m : Machine} (R : StepReady f table m) where
  pub place_in : place_of m < length f
  place_in = omega (arith, R.whole, after-above f (place_of m))

  pub place-small : place_of m < file_most
  place-small = omega (arith, R.short, place_in)

  pub main_within : TopWithin m.main (mtop m)
  main_within = record { below = R.main_top; few = R.main_at_most }

  pub ptr_within : TopWithin m.ptr (ptop m)
  ptr_within = record { below = R.ptr_top; few = R.ptr_at_most }

  pub record-in : Numbered m.ctl m.regs.frame
  record-in = record { some = R.frame_some; inside = omega (arith, R.frame_in, R.ctl_top) }

  pub body-here : Body f (place_of m) (body_of (code_at f m))
  unfolding after
  body-here = record { inside = omega (arith, R.whole); short = R.short }

  pub body : {k : ℕ} → code_at f m ≡ k → Body f (place_of m) (body_of k)
  body e = rw e at body-here

  pub pops-main : {k : ℕ} → code_at f m ≡ k → (effect_of f (ins_of f (place_of m) k)).pop_main ≤ mtop m
  unfolding ins_at
  pops-main e = rw e at R.pop-main

  pub pops-ptr : {k : ℕ} → code_at f m ≡ k → (effect_of f (ins_of f (place_of m) k)).pop_ptr ≤ ptop m
  unfolding ins_at
  pops-ptr e = rw e at R.pop-ptr

  -- what an operation on plain words and a jump on one ask for, with what their families ask besides
  pub on-words : {A : Type 0} {k : ℕ} → code_at f m ≡ k → A →
      (place_of m < file_most) × TopWithin m.main (mtop m) × ((effect_of f (ins_of f (place_of m) k)).pop_main ≤ mtop m) × A
  on-words e a = (place-small, main_within, pops-main e, a)

  pub jump-on : {A : Type 0} {k : ℕ} → code_at f m ≡ k → A →
      Body f (place_of m) (body_of k) × TopWithin m.main (mtop m) × ((effect_of f (ins_of f (place_of m) k)).pop_main ≤ mtop m) × A
  jump-on e a = (body e, main_within, pops-main e, a)

  is_at : (k : ℕ) → code_at f m ≡ k → here f m ≡ ins_of f (place_of m) k
  unfolding ins_at
  is_at k e = ap (ins_of f (place_of m)) e

  pub main-word : (code_at f m ≡ 20) ⊎ (code_at f m ≡ 22) → (running m).main_base + operand f (place_of m) < mtop m
  unfolding ins_of
  main-word (inl e) = R.local_main (operand f (place_of m)) (is_at 20 e)
  main-word (inr e) = omega (arith, R.assign_main (operand f (place_of m)) (is_at 22 e))

  pub ptr-word : (code_at f m ≡ 21) ⊎ (code_at f m ≡ 23) → (running m).ptr_base + operand f (place_of m) < ptop m
  unfolding ins_of
  ptr-word (inl e) = R.local_ptr (operand f (place_of m)) (is_at 21 e)
  ptr-word (inr e) = omega (arith, R.assign_ptr (operand f (place_of m)) (is_at 23 e))

  pub taken-main : OneOf (36 ∷ 60 ∷ 62 ∷ 64 ∷ []) (code_at f m) → operand f (place_of m) ≤ mtop m
  unfolding ins_of effect_of basic_effect maker_pops
  taken-main (inl e) = pops-main e
  taken-main (inr (inl e)) = omega (arith, pops-main e)
  taken-main (inr (inr (inl e))) = pops-main e
  taken-main (inr (inr (inr e))) = pops-main e

  pub taken-ptr : OneOf (36 ∷ 60 ∷ 62 ∷ 64 ∷ []) (code_at f m) → operand2 f (place_of m) ≤ ptop m
  unfolding ins_of effect_of basic_effect maker_pops
  taken-ptr (inl e) = pops-ptr e
  taken-ptr (inr (inl e)) = pops-ptr e
  taken-ptr (inr (inr (inl e))) = omega (arith, pops-ptr e)
  taken-ptr (inr (inr (inr e))) = pops-ptr e

  pub points : (i : ℕ) → (word_at m.ptr i ≡ 0) ⊎ Lies m.heap (word_at m.ptr i)
  points i = ⊎_elim (λ e. inl e) (λ o. inr (object-lies R.heap _ o)) (R.pointers i)

  pub callee : code_at f m ≡ 72 → Callee f table m.regs
  unfolding ins_of effect_of
  callee e =
      let n = operand f (place_of m) in
      let k = R.callee n (is_at 72 e) in
      let l : n < procs_most = omega (arith, R.few) in
      record {
        listed = l;
        head = R.heads n l;
        whole = R.bytes n k;
        main = pops-main e;
        ptr = pops-ptr e;
      }

  -- the machine that is ready
  abbrev pub subject : Machine
  subject = m

  -- what is planned at the code k is the plan at the place
  pub plan-of : {r : Plan} (n : ℕ) → body_of (code_at f m) ≡ n → r ≡ planned f m (suc n) (code_at f m) → r ≡ plan_at f m
  unfolding planned plan_at after ins_at
  plan-of n b p = let s : place_of m + suc n ≡ place_of m + 1 + body_of (code_at f m) = omega arith in p ∙ rw s

  pub plan-here : {r : Plan} {k : ℕ} → code_at f m ≡ k → r ≡ planned f m (suc (body_of k)) k → r ≡ plan_at f m
  plan-here e p = plan-of _ refl (rw e p)
