-- What the calls do with lists that are lent together, and which words the bench's line shows.
use Rattle.std.specs.Prelude.{◌≡◌, ℕ, ◌*◌, List, length, take, replicate, slice_set, min, ◌==◌, if◌then◌else◌}
use Rattle.model.specs.Calls.{Lent, After, answers, start_of, run_of}
use Rattle.model.specs.File.{file_most}
use Rattle.model.specs.Control.{regs_from, register_bytes}
use Rattle.model.specs.declared.Answer.{Answer}
use Rattle.model.specs.declared.Answer.TheVariants.{Passed, Ready, Finished, Spent, Uncaught, Refused}
use Rattle.show.specs.declared.Lists.{Lists}

abbrev pub lent : List ℕ → Lists → Lent
lent file l =
    record {
      file = file;
      map = l.map.now;
      main = l.main.now;
      ptr = l.ptr.now;
      ctl = l.ctl.now;
      heap = l.heap.now;
      bytes = l.registers.now;
    }

-- a run behind a start that was ready
abbrev pub run_if_ready : ℕ → Answer → Lent → After
run_if_ready budget Passed l = answers Passed l
run_if_ready budget Ready l = run_of budget l
run_if_ready budget (Finished n) l = answers (Finished n) l
run_if_ready budget (Spent n) l = answers (Spent n) l
run_if_ready budget (Uncaught code p n) l = answers (Uncaught code p n) l
run_if_ready budget (Refused n p) l = answers (Refused n p) l

abbrev pub begin_of : ℕ → Lent → After
begin_of budget l = run_if_ready budget (start_of l).answer (start_of l).lists

-- the main top; 0 where the list has another length than the registers
abbrev pub shown_top : List ℕ → ℕ
shown_top bytes = if length bytes == register_bytes then (regs_from bytes).mtop else 0

abbrev pub shown_words : Lists → List ℕ
shown_words l = take (min (shown_top l.registers.now) (length l.main.now)) l.main.now

-- Manual 7.3: what the bench lends with a file
pub record IsBench (l : Lists) : Type 0 where
  pub map : l.map.now ≡ replicate (3 * file_most) 0
  pub main : l.main.now ≡ replicate 256 0
  pub ptr : l.ptr.now ≡ replicate 256 0
  pub ctl : l.ctl.now ≡ replicate 250 0
  pub heap : l.heap.now ≡ slice_set (replicate 1024 0) 0 2
  pub registers : l.registers.now ≡ replicate register_bytes 0
