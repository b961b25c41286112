-- The control records as a statement, `Stack`, which model's `stack?` computes: `stack?-true` and `true-stack?`, by induction on the
-- records, since both read the same tests. A record on top is a constructor; the rest says what every such stack has.
use Rattle.std.specs.Prelude.{ℕ, zero, suc, ◌-◌, ◌<◌, ◌≤◌, ◌≡◌, true, ◌⊎◌, ◌≢◌, length, eqb}
use Rattle.std.proofs.Math.Path.{refl}
use Rattle.std.proofs.Common.{sym, true≢false, inl, inr, arith}
use mathlib.Core.List.{List, [], ◌∷◌}
use borrow.Author.Tests.{eq-eqb, ne_eqb, eqb-true, eqb-false}
use Rattle.model.specs.Choice.{All, all_true, true-all}
use Rattle.model.specs.File.{proc_at, ins_at}
use Rattle.model.specs.Checker.{none, Effect, effect_of}
use Rattle.model.specs.Control.{Rec, as_frame, as_handler, rec_at, frame_of, down}
use Rattle.model.specs.Sound.{inner_at, is_ins, call_before, Look, frame_tests, first_tests, caller_tests, caller, handler_tests, outside, stack?}
use Rattle.laws.specs.Choices.{if-cases, if-all}
use Rattle.laws.specs.Records.{down-length}

-- what a call pops
abbrev pub taking : List ℕ → ℕ → Effect
taking f c = effect_of f (ins_at f c)

-- the same frame at another place
abbrev pub moved_to : ℕ → Look → Look
moved_to q k =
    record { inner = k.inner; place = q; frame = k.frame; handler = k.handler; main_base = k.main_base; ptr_base = k.ptr_base }

module _ (f map : List ℕ) (lm lp : ℕ) where
  -- the records, topmost first, as `stack?` reads them. c: the call that the frame below waits for
  pub data Stack : List Rec → Look → Type 0 where
    first : {w : Rec} {rs : List Rec} {k : Look} → k.inner ≡ none → k.frame ≡ 1 →
        All (frame_tests f map lm lp (as_frame w) rs k) → All (first_tests f map lm lp (as_frame w) k) → Stack (w ∷ rs) k
    frame : {w : Rec} {rs : List Rec} {k : Look} {c : ℕ} → k.inner ≡ none → k.frame ≢ 1 →
        All (frame_tests f map lm lp (as_frame w) rs k) → call_before f (as_frame w).returns ≡ c →
        All (caller_tests f map lm lp (as_frame w) c (taking f c)) → Stack rs (caller f map lm lp (as_frame w) k c (taking f c)) →
        Stack (w ∷ rs) k
    handler : {w : Rec} {rs : List Rec} {k : Look} → k.inner ≢ none →
        All (handler_tests f map lm lp (as_handler w) rs k) → Stack rs (outside f map lm lp (as_handler w) k) → Stack (w ∷ rs) k

  pub stack?-true : (rs : List Rec) (k : Look) → stack? f map lm lp rs k ≡ true → Stack rs k
  unfolding stack?
  stack?-true [] k e = absurd (true≢false (sym e))
  stack?-true (w ∷ rs) k e =
      let c = call_before f (as_frame w).returns in
      if-cases (eqb k.inner none) _ _
      (λ z. if-all (frame_tests f map lm lp (as_frame w) rs k) _
      (λ F. if-cases (eqb k.frame 1) _ _
      (λ u v. first (eqb-true k.inner none z) (eqb-true k.frame 1 u) F (all_true (first_tests f map lm lp (as_frame w) k) v))
      (λ u. if-all (caller_tests f map lm lp (as_frame w) c (taking f c)) _
      (λ T v. frame {c = c} (eqb-true k.inner none z) (eqb-false k.frame 1 u) F refl T
      (stack?-true rs (caller f map lm lp (as_frame w) k c (taking f c)) v)))))
      (λ z. if-all (handler_tests f map lm lp (as_handler w) rs k) _
      (λ T v. handler (eqb-false k.inner none z) T (stack?-true rs (outside f map lm lp (as_handler w) k) v)))
      e

  pub true-stack? : {rs : List Rec} {k : Look} → Stack rs k → stack? f map lm lp rs k ≡ true
  unfolding stack?
  true-stack? (first {w} {rs} {k} z u F T) =
      rw (eq-eqb k.inner none z, true-all (frame_tests f map lm lp (as_frame w) rs k) F, eq-eqb k.frame 1 u)
      (true-all (first_tests f map lm lp (as_frame w) k) T)
  true-stack? (frame {w} {rs} {k} {c} z u F b T S) =
      rw (
        eq-eqb k.inner none z,
        true-all (frame_tests f map lm lp (as_frame w) rs k) F,
        ne_eqb k.frame 1 u,
        b,
        true-all (caller_tests f map lm lp (as_frame w) c (taking f c)) T,
      )
      (true-stack? S)
  true-stack? (handler {w} {rs} {k} u T S) =
      rw (ne_eqb k.inner none u, true-all (handler_tests f map lm lp (as_handler w) rs k) T) (true-stack? S)

  -- the place is an instruction's; another of the procedure does as well
  pub stack-here : {rs : List Rec} {k : Look} → Stack rs k → is_ins f k.place ≡ true
  stack-here (first z u F T) = F.0
  stack-here (frame z u F b T S) = F.0
  stack-here (handler u T S) = stack-here S

  pub stack-move : {rs : List Rec} {k : Look} (q : ℕ) → is_ins f q ≡ true → proc_at f q ≡ proc_at f k.place →
      Stack rs k → Stack rs (moved_to q k)
  stack-move q h e (first z u F T) = first z u (h, rw (← e) at F.1) T
  stack-move q h e (frame z u F b T S) = frame z u (h, rw (← e) at F.1) b T S
  stack-move q h e (handler u T S) = handler u T (stack-move q h e S)

  -- there is a record; the frame's record has its bases and its procedure, and the frame fits
  pub stack_some : {rs : List Rec} {k : Look} → Stack rs k → 1 ≤ length rs
  stack_some (first z u F T) = omega arith
  stack_some (frame z u F b T S) = omega arith
  stack_some (handler u T S) = omega arith

  pub stack-frame : (l : List ℕ) (n : ℕ) {k : Look} → Stack (down l n) k →
      All (frame_tests f map lm lp (frame_of l k.frame) (down l (k.frame - 1)) k)
  stack-frame l (suc n) {k = k} (first z u F T) = let e : k.frame - 1 ≡ n = omega (arith, down-length l n) in rw e F
  stack-frame l (suc n) {k = k} (frame z u F b T S) = let e : k.frame - 1 ≡ n = omega (arith, down-length l n) in rw e F
  stack-frame l (suc n) (handler u T S) = stack-frame l n S
  stack-frame l zero {k = k} x' = elim x' [ ]

  -- the records that the look names are among the n
  pub stack-numbers : (l : List ℕ) (n : ℕ) {k : Look} → Stack (down l n) k → (k.frame ≤ n) × (k.handler ≤ n)
  stack-numbers l (suc n) (first z u F T) = (omega arith, omega arith)
  stack-numbers l (suc n) (frame z u F b T S) = let r = stack-numbers l n S in (omega (arith, down-length l n), omega arith)
  stack-numbers l (suc n) (handler u T S) = let r = stack-numbers l n S in (omega arith, omega (arith, down-length l n))
  stack-numbers l zero {k = k} x' = elim x' [ ]

  -- where an exception goes: the topmost of n records that is a handler's, number h, and how it is looked at
  pub record HandlerFound (l : List ℕ) (n h : ℕ) : Type 0 where
    pub look : Look
    pub number : look.handler ≡ h
    pub opened : look.inner ≡ inner_at map look.place
    pub some : look.inner ≢ none
    pub under : ℕ
    pub below : under < n
    pub tests : All (handler_tests f map lm lp (as_handler (rec_at l under)) (down l under) look)
    pub stack : Stack (down l under) (outside f map lm lp (as_handler (rec_at l under)) look)

  pub find-handler : (l : List ℕ) (n : ℕ) {k : Look} → k.inner ≡ inner_at map k.place → Stack (down l n) k →
      (k.handler ≡ 0) ⊎ HandlerFound l n k.handler
  find-handler l (suc n) e (first z u F T) = inl T.1.1.1.1.1.0
  find-handler l (suc n) {k = k} e (frame z u F b T S) = more (find-handler l n refl S)
    where
      more : (k.handler ≡ 0) ⊎ HandlerFound l n k.handler → (k.handler ≡ 0) ⊎ HandlerFound l (suc n) k.handler
      more (inl z) = inl z
      more (inr F) =
          inr
          (record {
            look = F.look;
            number = F.number;
            opened = F.opened;
            some = F.some;
            under = F.under;
            below = omega (arith, F.below);
            tests = F.tests;
            stack = F.stack;
          })
  find-handler l (suc n) {k = k} e (handler u T S) =
      inr (record { look = k; number = refl; opened = e; some = u; under = n; below = omega arith; tests = T; stack = S })
  find-handler l zero {k = k} e x'' = elim x'' [ ]
