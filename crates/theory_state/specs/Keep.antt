-- What each kind of write leaves is sound: the plain writes, 72, 73, 160, 161, a raise, and the start. The control records change by one
-- on top, or are cut to those below the handler; the laws of the code say that the map has the new depths at the new place.
use Prim.Native.Nat.{ℕ, zero, suc, ◌+◌, ◌-◌, ◌*◌, ◌≤◌}
use Rattle.std.specs.Prelude.{◌≡◌, true, List, [], ◌⊎◌, ◌≢◌, eqb}
use Rattle.std.proofs.Math.Path.{refl, ap}
use Rattle.std.proofs.Common.{sym, ◌∙◌, inl, inr}
use native.Mathlib.Omega.{arith}
use Rattle.std.proofs.Math.ListN.{length, length-set}
use borrow.Author.Tests.{eq-eqb, ne_eqb, eqb-true}
use Rattle.model.specs.Choice.{when◌then◌else◌, All}
use Rattle.model.specs.Words.{cut}
use Rattle.model.specs.File.{Ins, call, return, enter, exit, operand, after, head_of, byte_at, ins_at, proc_at, params_main, params_ptr, results_main}
use Rattle.model.specs.File.{results_ptr, greatest_main, greatest_ptr}
use Rattle.model.specs.Checker.{State, state, none, effect_of, handler_at}
use Rattle.model.specs.Control.{Machine, Handler, as_frame, as_handler, frame_rec, handler_rec, rec_at, frame_of, handler_of, down, record_words, records, running}
use Rattle.model.specs.Moves.{mtop, ptop, go_to, open_handler, close_frame, close_handler, finished}
use Rattle.model.specs.Instructions.{callee_tests, called}
use Rattle.model.specs.Step.{caught}
use Rattle.model.specs.Sound.{main_at, ptr_at, inner_at, is_ins, is_code, call_before, Look}
use Rattle.model.specs.Calls.{Lent, first_frame, started}
use Rattle.laws_file.specs.Codes.{call-byte, byte-call, callee-is, call-after}
use Rattle.laws.specs.Choices.{both_true}
use Rattle.laws.specs.Cuts.{Zero, Each, length_cut, cut-zero, cut-each, set-zero}
use Rattle.laws.specs.Records.{length-put, put-zero, down-put, down-cut, down-length}
use Rattle.theory_state.specs.Stack.{taking, Stack, first, frame, handler, stack-here, stack-move, stack_some, stack-frame, HandlerFound, find-handler}
use Rattle.theory_state.specs.Laws.{Is, CodeLaws, some, small, at_entry, no-params, at_call, at_return, at-enter, at_exit, inner-opens, depth-most}
use Rattle.theory_state.specs.Sound.{StackWords, looking, Running, Sound}

-- the control stack and what the registers say of it are as they were
pub record Controlled (m m' : Machine) : Type 0 where
  pub frame : m'.regs.frame ≡ m.regs.frame
  pub handler : m'.regs.handler ≡ m.regs.handler
  pub ctop : m'.regs.ctop ≡ m.regs.ctop
  pub state : m'.regs.state ≡ m.regs.state
  pub ctl : m'.ctl ≡ m.ctl

module _ (f map : List ℕ) where
  pub running-here : (Ptr : ℕ → Type 0) (m : Machine) (n i j : ℕ) → Running f map Ptr m n i j → is_ins f m.regs.place ≡ true
  running-here Ptr m n i j R = stack-here f map (length m.main) (length m.ptr) R.stack

  -- a plain write: another place of the procedure with the same open handlers, new tops and words. Old: what the pointers were
  pub keep-plain : (Old Ptr : ℕ → Type 0) (m m' : Machine) (n i j : ℕ) (s : State) → Running f map Old m n i j → Controlled m m' →
      Is f map m'.regs.place (proc_at f m.regs.place) s → s.inner ≡ inner_at map m.regs.place →
      mtop m' ≡ i + s.main → ptop m' ≡ j + s.ptr → length m'.main ≡ length m.main → length m'.ptr ≡ length m.ptr →
      Zero (mtop m') m'.main → Zero (ptop m') m'.ptr → Each Ptr m'.ptr → Running f map Ptr m' n i j
  keep-plain Old Ptr m m' n i j s R C I e em ep lm lp zm zp each =
      record {
        main_top = rw I.main em;
        ptr_top = rw I.ptr ep;
        ctl_top = C.ctop ∙ R.ctl_top;
        state_is = C.state ∙ R.state_is;
        room = rw (C.ctop, C.ctl) R.room;
        stack =
            rw (lm, lp, C.ctl, C.frame, C.handler, I.inner, e)
            (stack-move f map (length m.main) (length m.ptr) m'.regs.place I.here I.proc R.stack);
        words = record { zero_main = zm; zero_ptr = zp; zero_ctl = rw (C.ctop, C.ctl) R.words.zero_ctl; pointers = each };
      }

  module _ (L : CodeLaws f map) (Ptr : ℕ → Type 0) (m : Machine) where
    -- another place and control stack, the other stacks as they are
    other-ctl : {p r h c s : ℕ} {ctl : List ℕ} → StackWords Ptr m → Zero c ctl →
        StackWords Ptr
        (record {
          regs = record { place = p; frame = r; handler = h; mtop = mtop m; ptop = ptop m; ctop = c; state = s };
          main = m.main;
          ptr = m.ptr;
          ctl = ctl;
          heap = m.heap;
        })
    other-ctl W z = record { zero_main = W.zero_main; zero_ptr = W.zero_ptr; zero_ctl = z; pointers = W.pointers }

    -- the tops lie within the stacks
    pub running-fits : (n i j : ℕ) → Running f map Ptr m n i j → (mtop m ≤ length m.main) × (ptop m ≤ length m.ptr)
    running-fits n i j R =
        let F = stack-frame f map (length m.main) (length m.ptr) m.ctl n R.stack in
        let D = depth-most f map L m.regs.place F.0 in
        let x = ap (greatest_main f) F.1.1.1.1.0 in
        let y = ap (greatest_ptr f) F.1.1.1.1.0 in
        let e1 = R.main_top in
        let e2 = R.ptr_top in
        (omega arith, omega arith)

    -- 72: the callee's frame on top
    pub keep-call : (n i j k : ℕ) → Running f map Ptr m n i j → ins_at f m.regs.place ≡ call k → All (callee_tests f m k) →
        Running f map Ptr (called f k (after f m.regs.place) m) (suc n) (mtop m - params_main f k) (ptop m - params_ptr f k)
    unfolding is_code call_before effect_of
    keep-call n i j k R e T =
        let p = m.regs.place in
        let h = running-here Ptr m n i j R in
        let K = at_call f map L p k h e in
        let I = K.enters in
        let b = call-byte f p k e in
        let e1 = R.main_top in
        let e2 = R.ptr_top in
        let e3 = R.ctl_top in
        let a1 = K.main_takes in
        let a2 = K.ptr_takes in
        let c : records m ≡ n = omega arith in
        let one = stack_some f map (length m.main) (length m.ptr) R.stack in
        let len = down-length m.ctl n in
        let w =
        frame_rec
        (record {
          main_base = mtop m - params_main f k;
          ptr_base = ptop m - params_ptr f k;
          proc = k;
          returns = after f p;
          caller = m.regs.frame;
        }) in
        let d = down-put m.ctl (records m) n w c (omega arith) in
        let q1 : (taking f p).pop_main ≡ params_main f k = ap (λ (x : Ins). (effect_of f x).pop_main) e in
        let q2 : (taking f p).pop_ptr ≡ params_ptr f k = ap (λ (x : Ins). (effect_of f x).pop_ptr) e in
        let i1 : mtop m - params_main f k + (taking f p).pop_main - main_at map p ≡ i = omega arith in
        let j1 : ptop m - params_ptr f k + (taking f p).pop_ptr - ptr_at map p ≡ j = omega arith in
        let back = call-after f p b in
        record {
          main_top = rw I.main (omega arith);
          ptr_top = rw I.ptr (omega arith);
          ctl_top = omega arith;
          state_is = R.state_is;
          room = rw (length-put m.ctl (records m) w) T.1.1.0;
          stack =
              rw d
              (frame {w = w} {rs = down m.ctl n} {k = looking map (called f k (after f p) m) (mtop m - params_main f k) (ptop m - params_ptr f k)} {c = p}
              I.inner
              (omega arith)
              (I.here, (omega arith, (refl, (refl, (sym I.proc, (T.0, (T.1.0, tt)))))))
              (omega arith)
              (refl, (omega arith, (omega arith, (rw (h, eq-eqb _ 72 b), (callee-is f p k e, tt)))))
              (rw (i1, j1) R.stack));
          words = other-ctl R.words (put-zero m.ctl (records m) m.regs.ctop w (omega arith) R.words.zero_ctl);
        }

    -- 73: the topmost record goes, a frame's, since a return has no handler open
    pub keep-return : (n i j : ℕ) → Running f map Ptr m n i j → ins_at f m.regs.place ≡ return →
        Sound f map Ptr (when eqb m.regs.frame 1 then finished m else go_to (running m).returns (close_frame m))
    unfolding is_code effect_of
    keep-return zero i j R e = absurd (omega (arith, stack_some f map (length m.main) (length m.ptr) R.stack))
    keep-return (suc n) i j R e = go R.stack
      where
        E : Is f map m.regs.place (proc_at f m.regs.place)
            (state (results_main f (proc_at f m.regs.place)) (results_ptr f (proc_at f m.regs.place)) none)
        E = at_return f map L m.regs.place (running-here Ptr m (suc n) i j R) e

        go : Stack f map (length m.main) (length m.ptr) (down m.ctl (suc n)) (looking map m i j) →
            Sound f map Ptr (when eqb m.regs.frame 1 then finished m else go_to (running m).returns (close_frame m))
        go (first z u F T) =
            let proc = sym F.1.1.1.1.0 ∙ T.0 in
            let e1 = R.main_top ∙ ap (λ (d : ℕ). i + d) (E.main ∙ ap (results_main f) proc) in
            let e2 = R.ptr_top ∙ ap (λ (d : ℕ). j + d) (E.ptr ∙ ap (results_ptr f) proc) in
            rw (eq-eqb m.regs.frame 1 u)
            (inr (record {
              state_is = refl;
              place_is = refl;
              frame_is = refl;
              handler_is = refl;
              ctl_top = refl;
              main_top = omega arith;
              ptr_top = omega arith;
              words = other-ctl R.words (cut-zero 0 m.ctl);
            }))
        go (frame {c = c} z u F b T S) =
            let w = as_frame (rec_at m.ctl n) in
            let lm = length m.main in
            let lp = length m.ptr in
            let call_at = byte-call f c (eqb-true (byte_at f c) 72 (both_true (is_ins f c) (eqb (byte_at f c) 72) T.1.1.1.0).1) in
            let of : ins_at f c ≡ call w.proc = rw T.1.1.1.1.0 at call_at in
            let K = at_call f map L c w.proc (stack-here f map lm lp S) of in
            let I = K.gives in
            let top : m.regs.frame - 1 ≡ n = omega (arith, down-length m.ctl n) in
            let q1 : (taking f c).pop_main ≡ params_main f w.proc = ap (λ (x : Ins). (effect_of f x).pop_main) of in
            let q2 : (taking f c).pop_ptr ≡ params_ptr f w.proc = ap (λ (x : Ins). (effect_of f x).pop_ptr) of in
            let e1 = R.main_top in
            let e2 = R.ptr_top in
            let e3 = R.ctl_top in
            let e4 = R.room in
            let proc = F.1.1.1.1.0 in
            let g1 = E.main ∙ ap (results_main f) (sym proc) in
            let g2 = E.ptr ∙ ap (results_ptr f) (sym proc) in
            let a1 = K.main_takes in
            let a2 = K.ptr_takes in
            let less : records m - 1 ≡ n = omega arith in
            rw (ne_eqb m.regs.frame 1 u, less)
            (inl (
              n,
              w.main_base + (taking f c).pop_main - main_at map c,
              w.ptr_base + (taking f c).pop_ptr - ptr_at map c,
              record {
                main_top = rw (top, T.0, I.main) (omega arith);
                ptr_top = rw (top, T.0, I.ptr) (omega arith);
                ctl_top = refl;
                state_is = R.state_is;
                room = rw (length_cut (record_words * n) m.ctl) (omega arith);
                stack =
                    rw (top, T.0, I.inner, down-cut m.ctl n (record_words * n) (omega arith))
                    (stack-move f map lm lp (after f c) I.here I.proc S);
                words = other-ctl R.words (cut-zero (record_words * n) m.ctl);
              },
            ))
        go (handler u T S) = absurd (u E.inner)

    -- 160: a handler's record on top
    abbrev entered : Handler
    entered =
        record {
          opened = m.regs.place;
          main_top = mtop m;
          ptr_top = ptop m;
          frame = m.regs.frame;
          outer = m.regs.handler;
        }

    pub keep-enter : (n i j s : ℕ) → Running f map Ptr m n i j → ins_at f m.regs.place ≡ enter s →
        m.regs.ctop + record_words ≤ length m.ctl → Running f map Ptr (go_to (after f m.regs.place) (open_handler entered m)) (suc n) i j
    keep-enter n i j s R e fits =
        let p = m.regs.place in
        let h = running-here Ptr m n i j R in
        let I = (at-enter f map L p s h e).behind in
        let low = small f map L p h in
        let e3 = R.ctl_top in
        let c : records m ≡ n = omega arith in
        let w = handler_rec entered in
        record {
          main_top = rw I.main R.main_top;
          ptr_top = rw I.ptr R.ptr_top;
          ctl_top = omega arith;
          state_is = R.state_is;
          room = rw (length-put m.ctl (records m) w) fits;
          stack =
              rw (down-put m.ctl (records m) n w c (omega arith), I.inner)
              (handler {w = w} {rs = down m.ctl n}
              {k = record { inner = p; place = after f p; frame = m.regs.frame; handler = suc (records m); main_base = i; ptr_base = j }}
              (omega arith)
              (omega (arith, down-length m.ctl n), (refl, (R.main_top, (R.ptr_top, (refl, tt)))))
              (stack-move f map (length m.main) (length m.ptr) (after f p) I.here I.proc R.stack));
          words = other-ctl R.words (put-zero m.ctl (records m) m.regs.ctop w (omega arith) R.words.zero_ctl);
        }

    -- 161: the topmost record goes, a handler's, since one is open
    pub keep_exit : (n i j : ℕ) → Running f map Ptr m n i j → ins_at f m.regs.place ≡ exit →
        Running f map Ptr (go_to (after f m.regs.place) (close_handler m)) (n - 1) i j
    keep_exit zero i j R e = absurd (omega (arith, stack_some f map (length m.main) (length m.ptr) R.stack))
    keep_exit (suc n) i j R e = go R.stack
      where
        X : (inner_at map m.regs.place ≢ none)
            × Is f map (after f m.regs.place) (proc_at f m.regs.place)
            (state (main_at map m.regs.place) (ptr_at map m.regs.place) (inner_at map (inner_at map m.regs.place)))
        X = at_exit f map L m.regs.place (running-here Ptr m (suc n) i j R) e

        go : Stack f map (length m.main) (length m.ptr) (down m.ctl (suc n)) (looking map m i j) →
            Running f map Ptr (go_to (after f m.regs.place) (close_handler m)) (suc n - 1) i j
        go (first z u F T) = absurd (X.0 z)
        go (frame z u F b T S) = absurd (X.0 z)
        go (handler u T S) =
            let I = X.1 in
            let e3 = R.ctl_top in
            let e4 = R.room in
            let less : records m - 1 ≡ n = omega arith in
            let one : suc n - 1 ≡ n = omega arith in
            let top : m.regs.handler - 1 ≡ n = omega (arith, down-length m.ctl n) in
            rw (one, less)
            (record {
              main_top = rw I.main R.main_top;
              ptr_top = rw I.ptr R.ptr_top;
              ctl_top = refl;
              state_is = R.state_is;
              room = rw (length_cut (record_words * n) m.ctl) (omega arith);
              stack =
                  rw (top, I.inner, down-cut m.ctl n (record_words * n) (omega arith))
                  (stack-move f map (length m.main) (length m.ptr) (after f m.regs.place) I.here I.proc S);
              words = other-ctl R.words (cut-zero (record_words * n) m.ctl);
            })

    -- a raise: the handler found takes the code, and all records from its own on go
    pub keep-raise : (n i j code : ℕ) → Ptr 0 → Running f map Ptr m n i j → m.regs.handler ≢ 0 →
        Sound f map Ptr (caught f m (m.regs.handler - 1) (handler_of m.ctl m.regs.handler) code)
    unfolding caught handler_at
    keep-raise n i j code nil R ne =
        go (find-handler f map (length m.main) (length m.ptr) m.ctl n refl R.stack)
      where
        go : (m.regs.handler ≡ 0) ⊎ HandlerFound f map (length m.main) (length m.ptr) m.ctl n m.regs.handler →
            Sound f map Ptr (caught f m (m.regs.handler - 1) (handler_of m.ctl m.regs.handler) code)
        go (inl z) = absurd (ne z)
        go (inr F) =
            let q = F.look.place in
            let o = inner_at map q in
            let k = F.under in
            let w = as_handler (rec_at m.ctl k) in
            let lm = length m.main in
            let lp = length m.ptr in
            let some : o ≢ none = rw F.opened at F.some in
            let N = inner-opens f map L q (stack-here f map lm lp F.stack) some in
            let I = N.opens.target in
            let T = rw F.opened at F.tests in
            let G = stack-frame f map lm lp m.ctl k F.stack in
            let below : Look =
            record {
              inner = inner_at map o;
              place = q;
              frame = F.look.frame;
              handler = w.outer;
              main_base = F.look.main_base;
              ptr_base = F.look.ptr_base;
            } in
            let S : Stack f map lm lp (down m.ctl k) below = rw (← F.opened) F.stack in
            let top : m.regs.handler - 1 ≡ k = omega (arith, F.number, down-length m.ctl k) in
            let to : head_of f (frame_of m.ctl w.frame).proc + operand f w.opened ≡ handler_at f o (operand f o) =
            rw (T.1.0, T.1.1.1.1.0, G.1.1.1.1.0, N.proc) in
            let e1 : w.main_top ≡ F.look.main_base + main_at map o = T.1.1.0 in
            let e2 : w.ptr_top ≡ F.look.ptr_base + ptr_at map o = T.1.1.1.0 in
            let e3 = R.ctl_top in
            let e4 = R.room in
            let e5 = F.below in
            rw top
            (inl (
              k,
              F.look.main_base,
              F.look.ptr_base,
              record {
                main_top = rw (to, I.main) (omega arith);
                ptr_top = rw (to, I.ptr) e2;
                ctl_top = refl;
                state_is = R.state_is;
                room = rw (length_cut (record_words * k) m.ctl) (omega arith);
                stack =
                    rw (
                      to,
                      length-set,
                      length_cut w.main_top m.main,
                      length_cut w.ptr_top m.ptr,
                      I.inner,
                      down-cut m.ctl k (record_words * k) (omega arith),
                      T.1.1.1.1.0,
                    )
                    (stack-move f map lm lp (handler_at f o (operand f o)) I.here (I.proc ∙ N.proc) S);
                words =
                    record {
                      zero_main =
                          set-zero (w.main_top + 1) (cut w.main_top m.main) w.main_top code (omega arith)
                          (λ u z. cut-zero w.main_top m.main u (omega arith));
                      zero_ptr = cut-zero w.ptr_top m.ptr;
                      zero_ctl = cut-zero (record_words * k) m.ctl;
                      pointers = cut-each Ptr w.ptr_top m.ptr nil R.words.pointers;
                    };
              },
            ))

-- a start: the first frame alone, at procedure 0's first instruction
pub start-sound : (Ptr : ℕ → Type 0) (l : Lent) → CodeLaws l.file l.map → Ptr 0 →
    greatest_main l.file 0 ≤ length l.main → greatest_ptr l.file 0 ≤ length l.ptr → record_words ≤ length l.ctl →
    Running l.file l.map Ptr (started l) 1 0 0
unfolding started
start-sound Ptr l L nil fm fp fc =
    let f = l.file in
    let I = at_entry f l.map L 0 (some f l.map L) in
    let H = no-params f l.map L in
    let w = frame_rec first_frame in
    let c : record_words * 0 + record_words ≤ length (cut 0 l.ctl) = rw (length_cut 0 l.ctl) fc in
    record {
      main_top = rw I.main (omega arith);
      ptr_top = rw I.ptr (omega arith);
      ctl_top = refl;
      state_is = refl;
      room = rw (length-put (cut 0 l.ctl) 0 w) c;
      stack =
          rw (length_cut 0 l.main, length_cut 0 l.ptr, down-put (cut 0 l.ctl) 0 0 w refl c)
          (first {w = w} {rs = []} I.inner refl (I.here, (refl, (refl, (refl, (sym I.proc, (omega arith, (omega arith, tt)))))))
          (refl, (refl, (refl, (refl, (refl, (refl, tt)))))));
      words =
          record {
            zero_main = cut-zero 0 l.main;
            zero_ptr = cut-zero 0 l.ptr;
            zero_ctl = put-zero (cut 0 l.ctl) 0 0 w refl (cut-zero 0 l.ctl);
            pointers = λ i. rw (cut-zero 0 l.ptr i (omega arith)) nil;
          };
    }
