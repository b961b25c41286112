-- One control record against a passed file and its map: the tests that the code makes are the model's, though in another order, and what
-- one record leaves of `stack?` to the records below.
use Rattle.std.specs.Prelude.{ℕ, ◌<◌, ◌≤◌, Bool, not, ◌&&◌, List, ◌∷◌, ◌≡◌}
use Rattle.std.proofs.Math.Bool.{true, false}
use Rattle.std.proofs.Common.{true≢false, sym, ◌∙◌, arith, ControlFlow, Continue, Break}
use Rattle.std.proofs.Math.Path.{refl, ap}
use Rattle.std.proofs.Math.Decide.{dec_lt}
use Rattle.std.proofs.Math.Dec.{eqb}
use Rattle.std.proofs.Math.ListN.{length, get_or-eq_default}
use borrow.Author.Tests.{eq-eqb, ne_eqb, eqb-true}
use Rattle.model.specs.Choice.{when◌then◌else◌, Test, all, all_true}
use Rattle.model.specs.File.{byte_at, operand, proc_at, ins_of, ins_at, params_main, params_ptr}
use Rattle.model.specs.Checker.{none, Effect, effect_of}
use Rattle.model.specs.Control.{Rec, Frame, Handler, as_frame, as_handler, frame_rec, handler_rec}
use Rattle.model.specs.Sound.{Look, main_at, is_ins, is_code, call_before, frame_tests, first_tests, caller_tests, caller, handler_tests, outside, stack?}
use Rattle.control_stack.specs.declared.Frame.{Frame as FrameRead}
use Rattle.control_stack.specs.declared.Handler.{Handler as HandlerRead}
use Rattle.control_stack.specs.Layout.{the_frame, the_handler}
use Rattle.audit_records.specs.declared.Look.{Look as LookRead}
use Rattle.laws.specs.Tests.{fails-at}
use Rattle.code_file.specs.declared.Head.{Head}
use Rattle.audit_places.specs.Places.{MapShows, in_proc, HeadFor}
use Rattle.model.specs.Calls.{main_most, ptr_most}

-- the struct of the code as the model's record
abbrev pub the_look : LookRead → Look
the_look s =
    record {
      inner = s.inner;
      place = s.place;
      frame = s.frame;
      handler = s.handler;
      main_base = s.main_base;
      ptr_base = s.ptr_base;
    }

-- the bases of a frame that lies in the lists
pub record BasesFit (w : FrameRead) : Type 0 where
  pub main : w.main_base ≤ main_most
  pub ptr : w.ptr_base ≤ ptr_most

-- a call, by its code: what it pops, which is its procedure's parameters
module _ (f : List ℕ) (c : ℕ) (b : byte_at f c ≡ 72) where
  pub call-pops : (n : ℕ) → operand f c ≡ n →
      ((effect_of f (ins_at f c)).pop_main ≡ params_main f n) × ((effect_of f (ins_at f c)).pop_ptr ≡ params_ptr f n)
  unfolding ins_at ins_of effect_of
  call-pops n e = rw (b, e) (refl, refl)

  -- a place with a depth in the map is an instruction
  pub is_call : (map : List ℕ) → MapShows f map → main_at map c < none → is_code f 72 c ≡ true
  unfolding is_code
  is_call map shows h =
      let e = shows c (inside (dec_lt c (length f))) in
      rw (here (is_ins f c) (sym e ∙ ne_eqb (main_at map c) none (omega arith)), eq-eqb (byte_at f c) 72 b)
    where
      inside : Dec (c < length f) → c < length f
      inside (yes l) = l
      inside (no l) = let z = get_or-eq_default f 0 {n = c} (omega arith) in absurd (omega arith)

      here : (t : Bool) → not t ≡ false → t ≡ true
      here true e = refl
      here false e = absurd (true≢false e)

module _ (f : List ℕ) (c : ℕ) where
  pub not_call : (byte_at f c ≡ 72 → ⊥) → is_code f 72 c ≡ false
  unfolding is_code
  not_call h = rw (ne_eqb (byte_at f c) 72 h) (go (is_ins f c))
    where
      go : (t : Bool) → (t && false) ≡ false
      go true = refl
      go false = refl

  call-byte : is_code f 72 c ≡ true → byte_at f c ≡ 72
  unfolding is_code
  call-byte e = go (is_ins f c) (eqb (byte_at f c) 72) refl e
    where
      go : (t u : Bool) → eqb (byte_at f c) 72 ≡ u → (t && u) ≡ true → byte_at f c ≡ 72
      go true true w e = eqb-true (byte_at f c) 72 w
      go true false w e = absurd (true≢false (sym e))
      go false u w e = absurd (true≢false (sym e))

-- the call before a return lies no later than it
pub call_below : (f : List ℕ) (q : ℕ) → call_before f q ≤ q
unfolding call_before
call_below f q = omega arith

-- the head's parameters are what is popped
abbrev pub PopsParams : Effect → Head → Type 0
PopsParams e h = (e.pop_main ≡ h.a) × (e.pop_ptr ≡ h.b)

-- what the call of a frame that passes its caller's tests popped
pub popped-params : (f map : List ℕ) (lm lp : ℕ) (w : FrameRead) (c : ℕ) (h : Head) → HeadFor f w.proc h →
    true ≡ all (caller_tests f map lm lp (the_frame w) c (effect_of f (ins_at f c))) →
    PopsParams (effect_of f (ins_at f c)) h
popped-params f map lm lp w c h H e =
    let t = (all_true (caller_tests f map lm lp (the_frame w) c (effect_of f (ins_at f c))) (sym e)).1.1.1 in
    let p = call-pops f c (call-byte f c t.0) w.proc t.1.0 in
    (p.0 ∙ sym H.a_is, p.1 ∙ sym H.b_is)

-- the tests of a frame's record with the procedure that it names
module _ (f map : List ℕ) (lm lp : ℕ) (w : FrameRead) (rs : List Rec) (k : Look) where
  abbrev tests : List Test
  tests = frame_tests f map lm lp (the_frame w) rs k

  pub not_within : in_proc f w.proc k.place ≡ false → false ≡ all tests
  unfolding in_proc
  not_within e = go (is_ins f k.place) refl e
    where
      go : (t : Bool) → is_ins f k.place ≡ t → (t && eqb w.proc (proc_at f k.place)) ≡ false → false ≡ all tests
      go true i e = fails-at 4 tests e
      go false i e = fails-at 0 tests i

  -- the bases of a frame that passes are those read above it, and it lies in the lists
  pub frame_fits : true ≡ all tests → lm ≤ main_most → lp ≤ ptr_most → BasesFit w
  frame_fits e m p = let h = all_true tests (sym e) in record { main = omega arith; ptr = omega arith }

  pub frame-proc : true ≡ all tests → in_proc f w.proc k.place ≡ true
  unfolding in_proc
  frame-proc e = let h = all_true tests (sym e) in rw h.0 (eq-eqb w.proc (proc_at f k.place) h.1.1.1.1.0)

-- the verdict, or what the records below come to
abbrev pub tells : ControlFlow Bool LookRead → (LookRead → Bool) → Bool
tells (Break t) k = t
tells (Continue s) k = k s

-- what a record tells, on top of rs
pub record RecordTells (f map : List ℕ) (lm lp : ℕ) (w : Rec) (rs : List Rec) (k : Look) (r : ControlFlow Bool LookRead) : Type 0 where
  pub is : stack? f map lm lp (w ∷ rs) k ≡ tells r (λ (t : LookRead). stack? f map lm lp rs (the_look t))

module _ (f map : List ℕ) (lm lp : ℕ) (rs : List Rec) (k : Look) where
  module _ (v : Rec) (w : FrameRead) (v-is : the_frame w ≡ as_frame v) (bare : k.inner ≡ none) where
    abbrev pops : ℕ → Effect
    pops c = effect_of f (ins_at f c)

    -- what follows a frame's own tests, where c is the call
    abbrev rest : ℕ → Bool
    rest c =
        when eqb k.frame 1
        then all (first_tests f map lm lp (the_frame w) k)
        else
        (when all (caller_tests f map lm lp (the_frame w) c (pops c))
        then stack? f map lm lp rs (caller f map lm lp (the_frame w) k c (pops c))
        else false)

    stack-frame : (t : Bool) → t ≡ all (frame_tests f map lm lp (the_frame w) rs k) →
        stack? f map lm lp (v ∷ rs) k ≡ (when t then rest (call_before f w.returns) else false)
    unfolding stack?
    stack-frame t e =
        ap (λ (x : Frame). stack? f map lm lp (frame_rec x ∷ rs) k) (sym v-is)
        ∙ rw (eq-eqb k.inner none bare) (ap (λ (b : Bool). when b then rest (call_before f w.returns) else false) (sym e))

    pub told-frame : false ≡ all (frame_tests f map lm lp (the_frame w) rs k) →
        RecordTells f map lm lp v rs k (Break false)
    told-frame e = record { is = stack-frame false e }

    module _ (e : true ≡ all (frame_tests f map lm lp (the_frame w) rs k)) where
      pub told-first : (r : Bool) → k.frame ≡ 1 → r ≡ all (first_tests f map lm lp (the_frame w) k) →
          RecordTells f map lm lp v rs k (Break r)
      told-first r h d = record { is = stack-frame true e ∙ rw (eq-eqb k.frame 1 h) (sym d) }

      module _ (later : k.frame ≡ 1 → ⊥) (c : ℕ) (c-is : c ≡ call_before f w.returns) where
        later-frame : (t : Bool) → t ≡ all (caller_tests f map lm lp (the_frame w) c (pops c)) →
            stack? f map lm lp (v ∷ rs) k
            ≡ (when t then stack? f map lm lp rs (caller f map lm lp (the_frame w) k c (pops c)) else false)
        later-frame t d =
            stack-frame true e
            ∙ ap rest (sym c-is)
            ∙ rw (ne_eqb k.frame 1 later)
            (ap (λ (b : Bool). when b then stack? f map lm lp rs (caller f map lm lp (the_frame w) k c (pops c)) else false) (sym d))

        pub told-call : false ≡ all (caller_tests f map lm lp (the_frame w) c (pops c)) →
            RecordTells f map lm lp v rs k (Break false)
        told-call d = record { is = later-frame false d }

        pub told-caller : (t : LookRead) → true ≡ all (caller_tests f map lm lp (the_frame w) c (pops c)) →
            the_look t ≡ caller f map lm lp (the_frame w) k c (pops c) →
            RecordTells f map lm lp v rs k (Continue t)
        told-caller t d t-is = record { is = later-frame true d ∙ ap (stack? f map lm lp rs) (sym t-is) }

  module _ (v : Rec) (w : HandlerRead) (v-is : the_handler w ≡ as_handler v) (held : k.inner ≡ none → ⊥) where
    stack-handler : (t : Bool) → t ≡ all (handler_tests f map lm lp (the_handler w) rs k) →
        stack? f map lm lp (v ∷ rs) k
        ≡ (when t then stack? f map lm lp rs (outside f map lm lp (the_handler w) k) else false)
    unfolding stack?
    stack-handler t e =
        ap (λ (x : Handler). stack? f map lm lp (handler_rec x ∷ rs) k) (sym v-is)
        ∙ rw (ne_eqb k.inner none held)
        (ap (λ (b : Bool). when b then stack? f map lm lp rs (outside f map lm lp (the_handler w) k) else false) (sym e))

    pub told-handler : false ≡ all (handler_tests f map lm lp (the_handler w) rs k) →
        RecordTells f map lm lp v rs k (Break false)
    told-handler e = record { is = stack-handler false e }

    pub told-outside : (t : LookRead) → true ≡ all (handler_tests f map lm lp (the_handler w) rs k) →
        the_look t ≡ outside f map lm lp (the_handler w) k →
        RecordTells f map lm lp v rs k (Continue t)
    told-outside t e t-is = record { is = stack-handler true e ∙ ap (stack? f map lm lp rs) (sym t-is) }
