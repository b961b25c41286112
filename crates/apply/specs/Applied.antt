-- A plan that may be applied gives what the functions for its lists ask for, and what they leave is what the model applies.
use Rattle.std.specs.Prelude.{ℕ, ◌+◌, ◌*◌, ◌<◌, ◌≤◌, ◌≡◌, Bool, true, false, Option, Some, None, unwrap_or, is_some, IfSome, IfNone, List, length, set}
use Rattle.std.proofs.Math.Path.{refl}
use Rattle.std.proofs.Common.{ap, subst, ◌∙◌, inl, inr, arith}
use Rattle.std.proofs.Math.Logic.{⊎_elim}
use borrow.Author.Tests.{eq-eqb, ne_eqb}
use Rattle.model.specs.Words.{cut}
use Rattle.model.specs.File.{after}
use Rattle.model.specs.Control.{Machine, record_words, records}
use Rattle.model.specs.Heap.{mark_of}
use Rattle.model.specs.Moves.{main_word, finished}
use Rattle.plan_meaning.specs.Settled.{called_by, returned, opened, closed, apply_into, applied}
use Rattle.model.specs.declared.Regs.{Regs}
use Rattle.plan_meaning.specs.declared.Into.{Into}
use Rattle.plan_meaning.specs.declared.Into.TheVariants as into
use Rattle.plan_meaning.specs.declared.Put.{Put}
use Rattle.laws.specs.Cuts.{Topped}
use Rattle.apply_records.specs.Asks.{PushesRecord}
use Rattle.apply_objects.specs.Asks.{VectorRoom, MakesNew, Making}
use Rattle.apply_words.specs.Asks.{Plain, Retract, Dropping, onwards, plain_write, tried_on, tried_write}
use Rattle.plan_meaning.specs.Suits.{FitsIn, Forms, VectorFits, CallSuits, Suits}
use Rattle.apply.specs.Applies.{Applies, Late, PutsNew, Lately, applied_if}
use Rattle.model.specs.Calls.{main_most, ptr_most}

-- the registers and what is left of the lists
abbrev left : List ℕ → List ℕ → List ℕ → List ℕ → Regs → Machine
left main ptr ctl heap r = record { regs = r; main = main; ptr = ptr; ctl = ctl; heap = heap }

-- by where it writes
module _ {f : List ℕ} {put : Put} {m : Machine} (A : Applies f put m) where
  suits : {i : Into} → put.into ≡ i → Suits f i put m
  suits e = subst (λ (i : Into). Suits f i put m) e A.suits

  -- what a call, a return, a handler opened and one closed ask of the control stack
  pushes : m.regs.ctop + record_words ≤ length m.ctl → PushesRecord m.regs m.ctl
  pushes room =
      let S = A.stands in
      record {
        place = omega (arith, S.place, S.file_at_most);
        frame = omega (arith, S.frame, S.ctl.fits, S.ctl_at_most);
        handler = omega (arith, S.handler, S.ctl.fits, S.ctl_at_most);
        top = omega (arith, S.ctl.fits, S.ctl_at_most);
        onto = record { whole = S.whole; room = room };
      }

  pub to-call : put.into ≡ into.Frame →
      PushesRecord m.regs m.ctl × (m.regs.place + 2 < length f) × (after f m.regs.place ≡ m.regs.place + 3) × (put.at ≤ main_most)
  to-call e =
      let C : CallSuits f put m = suits e in
      (pushes C.room, C.operand, C.behind, omega (arith, C.base, A.stands.main.fits, A.stands.main_at_most))

  pub to-open : put.into ≡ into.Handler → PushesRecord m.regs m.ctl × (m.regs.mtop ≤ main_most) × (m.regs.ptop ≤ ptr_most)
  to-open e =
      let room : m.regs.ctop + record_words ≤ length m.ctl = suits e in (
        pushes room,
        omega (arith, A.stands.main.fits, A.stands.main_at_most),
        omega (arith, A.stands.ptr.fits, A.stands.ptr_at_most),
      )

  pub to-close : put.into ≡ into.Close →
      Topped m.regs.ctop m.ctl × (1 ≤ m.regs.handler) × (record_words * m.regs.handler ≡ m.regs.ctop)
  to-close e =
      let S = A.stands in
      let top : m.regs.handler ≡ records m = suits e in
      (S.ctl, omega (arith, top, S.whole, S.frame, S.frame_some), omega (arith, top, S.whole))

  heap-room : {n : ℕ} → mark_of m.heap + (3 + n) ≤ length m.heap → VectorRoom m.heap n
  heap-room r = record { free = r; heap_at_most = A.stands.heap_at_most }

  making : MakesNew put.into → Making m.main m.ptr m.heap m.regs put
  making N =
      let S = A.stands in
      record {
        new = N;
        view = λ e. let F : Forms put m = suits e in record {
          words = F.words;
          main_fits = S.main.fits;
          pointers = F.pointers;
          ptr_fits = S.ptr.fits;
          few = omega (arith, S.ptr.fits, S.ptr_at_most);
          free = F.room;
          heap_at_most = S.heap_at_most;
        };
        words = λ e. let F : VectorFits 3 0 (main_word m 2) put m = suits e in (F.words, S.main.fits, heap-room F.room);
        pointers = λ e.
            let F : VectorFits 2 1 (main_word m 1) put m = suits e in
            (F.words, S.main.fits, F.pointers, S.ptr.fits, heap-room F.room);
      }

  to-new : MakesNew put.into → PutsNew m.main m.ptr m.heap m.regs put
  to-new N = record { making = making N; main_top = A.stands.main; ptr_top = A.stands.ptr; below = at N }
    where
      at : MakesNew put.into → put.at < length m.ptr
      at (inl e) = let F : Forms put m = suits e in F.below
      at (inr (inl e)) = let F : VectorFits 3 0 (main_word m 2) put m = suits e in F.below
      at (inr (inr e)) = let F : VectorFits 2 1 (main_word m 1) put m = suits e in F.below

  -- what a plain write asks
  pub to-plain : FitsIn put.into put m → Plain (length m.heap) m.main m.ptr m.regs put
  to-plain F = record { main_top = A.stands.main; ptr_top = A.stands.ptr; fits = F }

  -- a retract's word lies in its stack, and no more words go than there are
  to_drop : Retract put.into → Dropping m.main m.ptr m.regs put
  to_drop R =
      record {
        retract = R;
        main_top = A.stands.main;
        ptr_top = A.stands.ptr;
        drops =
            ⊎_elim (λ e. suits {i = into.Drop} e)
            (⊎_elim (λ e. (suits {i = into.DropMain} e).1) (λ e. (suits {i = into.DropPointer} e).1)) R;
        in_main = λ e. (suits {i = into.DropMain} e).0;
        in_ptr = λ e. (suits {i = into.DropPointer} e).0;
      }

  pub to-late : Late put.into m.regs → Lately put m
  to-late L =
      record {
        late = L;
        ctl = A.stands.ctl;
        new = to-new;
        retract = to_drop;
      }

  -- what `apply` tells of the state that it leaves: it is done, or left for later and all is as before
  abbrev Told : List ℕ → List ℕ → List ℕ → List ℕ → Option Regs → Type 0
  Told main ptr ctl heap t =
      (left main ptr ctl heap (unwrap_or t m.regs) ≡ applied_if (is_some t) f put m)
      × (IfSome t (λ r. r.state ≡ m.regs.state)
      × IfNone t (Late put.into m.regs))

  module _ {main ptr ctl heap : List ℕ} {t : Option Regs} where
    pub told-undone : t ≡ None → left main ptr ctl heap m.regs ≡ m → Late put.into m.regs → Told main ptr ctl heap t
    told-undone e d L = rw e (d, (tt, L))

    module _ {r : Regs} (e : t ≡ Some r) where
      told : {m' : Machine} → left main ptr ctl heap r ≡ m' → m'.regs.state ≡ m.regs.state → m' ≡ applied f put m → Told main ptr ctl heap t
      told d k a = rw e (d ∙ a, (ap (λ (x : Machine). x.regs.state) d ∙ k, tt))

      pub told-called : left main ptr ctl heap r ≡ called_by f put m → put.into ≡ into.Frame → Told main ptr ctl heap t
      unfolding applied apply_into
      told-called d i = told d refl (rw i)

      pub told-returned : left main ptr ctl heap r ≡ returned put m → put.into ≡ into.Return → (m.regs.frame ≡ 1 → ⊥) → Told main ptr ctl heap t
      unfolding applied apply_into
      told-returned d i u = told d refl (rw (i, ne_eqb m.regs.frame 1 u))

      pub told-opened : left main ptr ctl heap r ≡ opened put m → put.into ≡ into.Handler → Told main ptr ctl heap t
      unfolding applied apply_into
      told-opened d i = told d refl (rw i)

      pub told-closed : left main ptr ctl heap r ≡ closed put m → put.into ≡ into.Close → Told main ptr ctl heap t
      unfolding applied apply_into
      told-closed d i = told d refl (rw i)

  -- a plain write that is done, or left
  module _ {main ptr heap : List ℕ} {b : Bool} (w : left main ptr m.ctl heap (tried_on b put m.regs) ≡ tried_write b put.into put m) {t : Option Regs} where
    pub told-plain : {r : Regs} → t ≡ Some r → r ≡ onwards put m.regs → b ≡ true → plain_write put.into put m ≡ applied f put m →
        Told main ptr m.ctl heap t
    told-plain e q y a = rw (e, q) (rw y at w ∙ a, (refl, tt))

    pub told-left : t ≡ None → b ≡ false → Late put.into m.regs → Told main ptr m.ctl heap t
    told-left e n L = told-undone e (rw n at w) L

-- what the late ones leave
module _ {put : Put} {m : Machine} (L : Lately put m) (f : List ℕ) where
  pub finish-applied : put.into ≡ into.Return → m.regs.frame ≡ 1 → finished m ≡ applied f put m
  unfolding applied apply_into
  finish-applied e u = rw (e, eq-eqb m.regs.frame 1 u)

  pub drop-applied : Retract put.into → plain_write put.into put m ≡ applied f put m
  unfolding applied apply_into
  drop-applied R = ⊎_elim (λ e. rw e) (⊎_elim (λ e. rw e) (λ e. rw e)) R

-- a new object: the heap is the model's, both stacks are cut, and its index is stored
pub new_applied : (f : List ℕ) (put : Put) (m : Machine) {main ptr heap : List ℕ} → MakesNew put.into → heap ≡ (applied f put m).heap →
    main ≡ cut put.mtop m.main → ptr ≡ cut put.ptop m.ptr →
    record { regs = onwards put m.regs; main = main; ptr = set ptr put.at put.word; ctl = m.ctl; heap = heap } ≡ applied f put m
unfolding applied apply_into
new_applied f put m (inl e) eh em ep = rw (eh, e, em, ep)
new_applied f put m (inr (inl e)) eh em ep = rw (eh, e, em, ep)
new_applied f put m (inr (inr e)) eh em ep = rw (eh, e, em, ep)
