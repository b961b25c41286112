-- What a step leads to, with every list then, as one value; the exceptions' codes; and what is asked of a machine before a raise.
use Rattle.std.specs.Prelude.{ℕ, ◌+◌, ◌-◌, ◌*◌, ◌<◌, ◌≤◌, ◌≡◌, refl, Bool, true, false, List, length, get_or, set}
use Rattle.std.proofs.Math.Path.{ap}
use Rattle.std.proofs.Common.{sym, ◌∙◌, true≢false}
use borrow.Author.Tests.{eq-eqb, ne_eqb}
use Rattle.model.specs.Words.{word_at, cut}
use Rattle.model.specs.Calls.{main_most, ctl_most}
use Rattle.model.specs.File.{file_most, procs_most, head_of, operand}
use Rattle.model.specs.Control.{Machine, frame_of, handler_of, record_words}
use Rattle.model.specs.Moves.{mtop}
use Rattle.model.specs.Instructions.{code_of, out_of_range, nil_object, no_such_word, heap_full, no_room, vector_fault}
use Rattle.model.specs.Step.{Stepped, next, uncaught, caught, raised}
use Rattle.plan_meaning.specs.Settled.{settle}
use Rattle.model.specs.declared.Regs.{Regs}
use Rattle.plan_meaning.specs.declared.Put.{Put}
use Rattle.plan_meaning.specs.declared.Plan.{Plan}
use Rattle.plan_meaning.specs.declared.Plan.TheVariants.{Write, OutOfRange, NilObject, NoSuchWord, HeapFull, NoRoom, VectorFault, Thrown, Real}
use Rattle.apply.specs.declared.Outcome.{Outcome}
use Rattle.control_stack.specs.declared.Handler.{Handler}
use Rattle.control_stack.specs.Layout.{the_handler}
use Rattle.laws.specs.Cuts.{Topped}
use Rattle.apply.specs.Applies.{Stands, Applies}

-- the step leads on to a state, or to an uncaught exception, with the state that stays
pub record Ended : Type 0 where
  pub on : Bool
  pub code : ℕ
  pub state : Machine

unfoldable pub ended_of : Stepped → Ended
ended_of (next m) = record { on = true; code = 0; state = m }
ended_of (uncaught code m) = record { on = false; code = code; state = m }

-- what a caller reads off it: the step went on, or nothing caught the exception and the state stays
module _ (o : Outcome) (m : Machine) where
  abbrev ended : Ended
  ended = record { on = o.on; code = o.code; state = m }

  pub went_on : (s : Stepped) → ended ≡ ended_of s → o.on ≡ true → s ≡ next m
  unfolding ended_of
  went_on (next m') e t = ap (λ x. next x.state) (sym e)
  went_on (uncaught code m') e t = absurd (true≢false (sym t ∙ ap (λ x. x.on) e))

  pub went-off : (s : Stepped) → ended ≡ ended_of s → o.on ≡ false → s ≡ uncaught o.code m
  unfolding ended_of
  went-off (next m') e t = absurd (true≢false (sym (ap (λ x. x.on) e) ∙ t))
  went-off (uncaught code m') e t = ap (λ x. uncaught x.code x.state) (sym e)

-- the code of the exception that a plan raises; main and its top
unfoldable pub raised_by : List ℕ → ℕ → Plan → ℕ
raised_by main t (Write put) = 0
raised_by main t OutOfRange = code_of out_of_range
raised_by main t NilObject = code_of nil_object
raised_by main t NoSuchWord = code_of no_such_word
raised_by main t HeapFull = code_of heap_full
raised_by main t NoRoom = code_of no_room
raised_by main t VectorFault = code_of vector_fault
raised_by main t Thrown = word_at main (t - 1)
raised_by main t (Real p) = code_of out_of_range

-- an instruction on reals, if it is one, raises 1: its result is not finite
abbrev pub RealRaises : List ℕ → Machine → Plan → Type 0
RealRaises f m plan = (p : ℕ) → plan ≡ Real p → settle f m plan ≡ raised f m (code_of out_of_range)

pub settle-raised : (f : List ℕ) (m : Machine) (plan : Plan) → ((put : Put) → plan ≡ Write put → ⊥) → RealRaises f m plan →
    settle f m plan ≡ raised f m (raised_by m.main (mtop m) plan)
unfolding settle raised_by
settle-raised f m (Write put) never n = absurd (never put refl)
settle-raised f m OutOfRange never n = refl
settle-raised f m NilObject never n = refl
settle-raised f m NoSuchWord never n = refl
settle-raised f m HeapFull never n = refl
settle-raised f m NoRoom never n = refl
settle-raised f m VectorFault never n = refl
settle-raised f m Thrown never n = refl
settle-raised f m (Real p) never n = n p refl

-- the registers in the handler
abbrev pub resumed : Handler → ℕ → ℕ → ℕ → Regs
resumed g place handler state =
    record {
      place = place;
      frame = g.frame;
      handler = g.outer;
      mtop = g.main_top + 1;
      ptop = g.ptr_top;
      ctop = record_words * (handler - 1);
      state = state;
    }

-- the table of the heads, and a handler's 160 and frame: what its target is counted from
pub record Targets (f table ctl : List ℕ) (at frame : ℕ) : Type 0 where
  pub heads : (n : ℕ) → n < procs_most → get_or table n 0 ≡ head_of f n
  -- heads lie in the file
  pub head_most : (n : ℕ) → head_of f n ≤ file_most
  -- a 160 stands there, and is not cut short
  pub operand : at + 2 < length f
  -- the frame that opened it lies under it, and has its procedure's number
  pub frame_some : 1 ≤ frame
  pub frame_fits : record_words * frame ≤ length ctl
  pub proc : (frame_of ctl frame).proc < procs_most

-- what a raise asks for, and what of that only where a handler is open
pub record Caught (f table : List ℕ) (r : Regs) (main ctl : List ℕ) : Type 0 where
  -- the checker counts the code that is pushed on the handler's main top
  pub main_top : (handler_of ctl r.handler).main_top < length main
  pub targets : Targets f table ctl (handler_of ctl r.handler).opened (handler_of ctl r.handler).frame

pub record Raises (f table : List ℕ) (r : Regs) (main ptr ctl : List ℕ) : Type 0 where
  pub main_top : Topped r.mtop main
  pub ptr_top : Topped r.ptop ptr
  pub ctl_top : Topped r.ctop ctl
  pub main_at_most : length main ≤ main_most
  pub ctl_at_most : length ctl ≤ ctl_most
  pub handler : record_words * r.handler ≤ r.ctop
  pub caught : (r.handler ≡ 0 → ⊥) → Caught f table r main ctl

pub stands-raises : (f table : List ℕ) (m : Machine) → Stands f m → ((m.regs.handler ≡ 0 → ⊥) → Caught f table m.regs m.main m.ctl) →
    Raises f table m.regs m.main m.ptr m.ctl
stands-raises f table m S C =
    record {
      main_top = S.main;
      ptr_top = S.ptr;
      ctl_top = S.ctl;
      main_at_most = S.main_at_most;
      ctl_at_most = S.ctl_at_most;
      handler = S.handler;
      caught = C;
    }

-- an exception that nothing catches, and one that the handler whose record is g catches
module _ (f : List ℕ) (m : Machine) (code : ℕ) where
  pub uncaught-ends : m.regs.handler ≡ 0 →
      record { on = false; code = code; state = m } ≡ ended_of (raised f m code)
  unfolding ended_of raised
  uncaught-ends h = rw (eq-eqb m.regs.handler 0 h)

  pub caught-ends : {g : Handler} {place : ℕ} {r : Regs} {main ptr ctl : List ℕ} → (m.regs.handler ≡ 0 → ⊥) → the_handler g ≡ handler_of m.ctl m.regs.handler →
      place ≡ head_of f (frame_of m.ctl g.frame).proc + operand f g.opened →
      r ≡ resumed g place m.regs.handler m.regs.state →
      main ≡ cut g.main_top m.main →
      ptr ≡ cut g.ptr_top m.ptr →
      ctl ≡ cut (record_words * (m.regs.handler - 1)) m.ctl →
      record {
        on = true;
        code = 0;
        state = record { regs = r; main = set main g.main_top code; ptr = ptr; ctl = ctl; heap = m.heap };
      }
      ≡ ended_of (raised f m code)
  unfolding ended_of raised caught
  caught-ends h eg e er em ep ec =
      rw (
        ne_eqb m.regs.handler 0 h,
        er,
        e,
        em,
        ep,
        ec,
        ap (λ x. x.opened) eg,
        ap (λ x. x.main_top) eg,
        ap (λ x. x.ptr_top) eg,
        ap (λ x. x.frame) eg,
        ap (λ x. x.outer) eg,
      )

-- its main top has a word, and its 160 leads to a place
module _ {f table : List ℕ} {r : Regs} {main ptr ctl : List ℕ} {g : Handler} (R : Raises f table r main ptr ctl)
    (h : r.handler ≡ 0 → ⊥) (e : the_handler g ≡ handler_of ctl r.handler) where
  pub guard-top : g.main_top < length main
  guard-top = rw (ap (λ x. x.main_top) e) (R.caught h).main_top

  pub guard-targets : Targets f table ctl g.opened g.frame
  guard-targets = rw (ap (λ x. x.opened) e, ap (λ x. x.frame) e) (R.caught h).targets

-- what is asked of a plan at a machine
pub record Settles (f table : List ℕ) (m : Machine) (plan : Plan) : Type 0 where
  pub writes : (put : Put) → plan ≡ Write put → Applies f put m
  pub raises : ((put : Put) → plan ≡ Write put → ⊥) → Raises f table m.regs m.main m.ptr m.ctl
  -- 162 pops a word
  pub thrown : plan ≡ Thrown → 1 ≤ mtop m
