-- Order 3 in rows: calls on lists that belong to their file or do not, with the answer and every list then, worked out by hand. Assumes nothing.
use Rattle.std.specs.Prelude.{ℕ, ◌*◌, List, [], ◌∷◌, ◌++◌, map, ◌≡◌, length, take, replicate}
use Rattle.std.proofs.Math.Path.{refl}
use Rattle.model.specs.Words.{signed, to_word, in_range, value_of, operate, cut}
use Rattle.model.specs.File.{codes, bodies, body_of, after, whole?, records_from, records_of, is_head, is_instruction, heads, instructions, procs}
use Rattle.model.specs.File.{head_of, entry, proc_at, params_main, params_ptr, results_main, results_ptr, greatest_main, greatest_ptr, head_tests}
use Rattle.model.specs.File.{heads_from, heads_of, operand, signed_byte, forwards, backwards, ins_of, ins_at}
use Rattle.model.specs.Checker.{none, basic_effect, effect_of, goes_on, passes, own, target_tests, next_tests, depth_tests, leave_tests, firsts}
use Rattle.model.specs.Checker.{take_with, take_all, flow, map_from}
use Rattle.model.specs.Checker as Checker
use Rattle.model.specs.Heap.{walk, is_pointer, pointer_words, pointers_first, zeros_first, judge, heap_of, objects_of}
use Rattle.model.specs.Sums.{total, totals, sums_of}
use Rattle.model.specs.Control.{rec_at, put_rec, regs_by, word_from, regs_from, sums_from, reg_bytes, root_words}
use Rattle.model.specs.Instructions.{basic_rule, rule}
use Rattle.model.specs.Step.{caught, raised, instruct, step, run_on}
use Rattle.model.specs.Sound.{main_at, ptr_at, inner_at, is_ins, stack?, running_tests, finished_tests, sound?}
use Rattle.model.specs.Calls.{over_map, wiped, verdict_of, check_of, Lent, with_map, length_tests, answers, started, start_of, run_of}
use Rattle.model.specs.Claim.{Call, start, run, call_of}
use Rattle.model.specs.declared.Sums.{Sums}
use Rattle.model.specs.declared.Answer.{Answer}
use Rattle.model.specs.declared.Answer.TheVariants.{Ready, Finished, Spent, Uncaught, Refused}

abbrev sums : ℕ → ℕ → Sums
sums b s = record { first = b; second = s }

-- A, with its two literals to be filled in: a, b
abbrev A : ℕ → ℕ → List ℕ
A a b = 240 ∷ 0 ∷ 0 ∷ 1 ∷ 0 ∷ 2 ∷ 0 ∷ 54 ∷ a ∷ 54 ∷ b ∷ 142 ∷ 73 ∷ []

-- A with a division by 0
abbrev div_a : List ℕ
div_a = 240 ∷ 0 ∷ 0 ∷ 1 ∷ 0 ∷ 2 ∷ 0 ∷ 54 ∷ 5 ∷ 54 ∷ 0 ∷ 143 ∷ 73 ∷ []

-- three literals and the return
abbrev T : ℕ → ℕ → ℕ → List ℕ
T a b c = 240 ∷ 0 ∷ 0 ∷ 3 ∷ 0 ∷ 3 ∷ 0 ∷ 54 ∷ a ∷ 54 ∷ b ∷ 54 ∷ c ∷ 73 ∷ []

-- Manual 2.16, the sum after each byte:
--     A 5 3    240 240 240 241 241 243 243 297 302 356 359 501 574        adds up to 4077
--     A 3 5    240 240 240 241 241 243 243 297 300 354 359 501 574        4073
--     T 1 2 1  240 240 240 243 243 246 246 300 301 355 357 411 412 485    4319
--     T 2 0 2  240 240 240 243 243 246 246 300 302 356 356 410 412 485    4319
pub sums-of-none : sums_of [] ≡ sums 0 0
unfolding total totals sums_of
sums-of-none = refl

pub sums-of-one : sums_of (255 ∷ []) ≡ sums 255 255
unfolding total totals sums_of
sums-of-one = refl

pub sums-of-three : sums_of (1 ∷ 2 ∷ 3 ∷ []) ≡ sums 6 10
unfolding total totals sums_of
sums-of-three = refl

pub sums-of-A : sums_of (A 5 3) ≡ sums 574 4077
unfolding total totals sums_of
sums-of-A = refl

pub sums-of-swapped : sums_of (A 3 5) ≡ sums 574 4073
unfolding total totals sums_of
sums-of-swapped = refl

-- two files of equal sums
pub sums-of-121 : sums_of (T 1 2 1) ≡ sums 485 4319
unfolding total totals sums_of
sums-of-121 = refl

pub sums-of-202 : sums_of (T 2 0 2) ≡ sums 485 4319
unfolding total totals sums_of
sums-of-202 = refl

-- the greatest sums that a file may have (4096 bytes of 255, which is no file that passes): 255 * 4096 and 255 * 4096 * 4097 / 2
pub greatest-sums : sums_of (replicate 4096 255) ≡ sums 1044480 2139617280
unfolding total totals sums_of
greatest-sums = refl

-- a word below 256, and the sums, as four bytes: 574 = 2 * 256 + 62, 4077 = 15 * 256 + 237, 4073 = 15 * 256 + 233, 485 = 256 + 229,
-- 4319 = 16 * 256 + 223
abbrev small : ℕ → List ℕ
small n = 0 ∷ 0 ∷ 0 ∷ n ∷ []

abbrev word : ℕ → ℕ → List ℕ
word high low = 0 ∷ 0 ∷ high ∷ low ∷ []

abbrev sums_a : List ℕ
sums_a = word 2 62 ++ word 15 237

abbrev sums_t : List ℕ
sums_t = word 1 229 ++ word 16 223

-- registers: place, frame, handler, main top, pointer top, control top, state; then the sums
abbrev registers_of : ℕ → ℕ → ℕ → ℕ → ℕ → List ℕ → List ℕ
registers_of place frame mtop ctop state s =
    small place ++ small frame ++ small 0 ++ small mtop ++ small 0 ++ small ctop ++ small state ++ s

abbrev first : List ℕ → List ℕ
first s = registers_of 7 1 0 5 0 s

-- finished, with so many main results
abbrev done : ℕ → List ℕ → List ℕ
done results s = registers_of 0 0 results 0 1 s

-- words with four bytes that are not 0: 16909060 = 1 * 16777216 + 2 * 65536 + 3 * 256 + 4, 84281096 = 5 * 16777216 + 6 * 65536 + 7 * 256 + 8
pub sums-as-bytes : reg_bytes (sums 16909060 84281096) (regs_by (λ x. 0)) ≡ replicate 28 0 ++ (1 ∷ 2 ∷ 3 ∷ 4 ∷ 5 ∷ 6 ∷ 7 ∷ 8 ∷ [])
unfolding reg_bytes
sums-as-bytes = refl

pub sums-from-bytes : sums_from (replicate 28 9 ++ (1 ∷ 2 ∷ 3 ∷ 4 ∷ 5 ∷ 6 ∷ 7 ∷ 8 ∷ [])) ≡ sums 16909060 84281096
unfolding sums_from word_from
sums-from-bytes = refl

-- what is lent: a file, main words, registers; a map of just the file's size with something in it, the other lists as short as may be
abbrev lent : List ℕ → List ℕ → List ℕ → Lent
lent f main bytes =
    record { file = f; map = replicate (3 * length f) 9; main = main; ptr = 0 ∷ []; ctl = replicate 5 0; heap = 2 ∷ 0 ∷ []; bytes = bytes }

-- the same with another heap
abbrev on_heap : List ℕ → Lent → Lent
on_heap h l =
    record { file = l.file; map = l.map; main = l.main; ptr = l.ptr; ctl = l.ctl; heap = h; bytes = l.bytes }

-- the finished maps (Manual 5.13): a place without instruction, and one with this main depth, no pointer and no handler
abbrev no : List ℕ
no = none ∷ none ∷ none ∷ []

abbrev at : ℕ → List ℕ
at d = d ∷ 0 ∷ none ∷ []

abbrev map_a : List ℕ
map_a = no ++ no ++ no ++ no ++ no ++ no ++ no ++ at 0 ++ no ++ at 1 ++ no ++ at 2 ++ at 1

abbrev map_t : List ℕ
map_t = no ++ no ++ no ++ no ++ no ++ no ++ no ++ at 0 ++ no ++ at 1 ++ no ++ at 2 ++ no ++ at 3

-- a row: a call, what it is lent, its answer and the lists then
pub record Row : Type 0 where
  pub call : Call
  pub lists : Lent
  pub answer : Answer
  pub left : Lent

abbrev row : Call → Lent → Answer → Lent → Row
row c l a l' = record { call = c; lists = l; answer = a; left = l' }

-- refused 13: only the map is written; it is the same for all files of A's form
abbrev foreign : Call → Lent → Row
foreign c l = row c l (Refused 13 0) (with_map map_a l)

-- A, started: with these registers
abbrev started_a : List ℕ → Lent
started_a bytes = lent (A 5 3) (0 ∷ 0 ∷ []) bytes

-- A, finished, 2 being its result
abbrev done_a : List ℕ → Lent
done_a bytes = lent (A 5 3) (2 ∷ 0 ∷ []) bytes

pub rows : List Row
rows =
    -- start writes the sums, whatever the registers held; a run keeps them: cut, to the end, and finished before
    row start (lent (A 5 3) (8 ∷ 8 ∷ []) (replicate 36 9)) Ready (with_map map_a (started_a (first sums_a)))
    ∷ row (run 2) (started_a (first sums_a)) (Spent 2) (with_map map_a (lent (A 5 3) (5 ∷ 3 ∷ []) (registers_of 11 1 2 5 0 sums_a)))
    ∷ row (run 0) (started_a (first sums_a)) (Spent 0) (with_map map_a (started_a (first sums_a)))
    ∷ row (run 9) (started_a (first sums_a)) (Finished 4) (with_map map_a (done_a (done 1 sums_a)))
    ∷ row (run 0) (done_a (done 1 sums_a)) (Finished 0) (with_map map_a (done_a (done 1 sums_a)))
    -- an uncaught instruction: 5 div 0; the sums are 572 = 2 * 256 + 60 and 4070 = 15 * 256 + 230
    ∷ row (run 9) (lent div_a (0 ∷ 0 ∷ []) (first (word 2 60 ++ word 15 230))) (Uncaught 1 11 2)
    (with_map map_a (lent div_a (5 ∷ 0 ∷ []) (registers_of 11 1 2 5 0 (word 2 60 ++ word 15 230))))
    -- the register list's length: 35, 37, 28, 32, 40 and no bytes, in start and in run
    ∷ foreign start (started_a (take 35 (first sums_a)))
    ∷ foreign start (started_a (first sums_a ++ (0 ∷ [])))
    ∷ foreign start (started_a (take 28 (first sums_a)))
    ∷ foreign start (started_a (take 32 (first sums_a)))
    ∷ foreign start (started_a (first sums_a ++ small 0))
    ∷ foreign start (started_a [])
    ∷ foreign (run 9) (started_a (take 35 (first sums_a)))
    ∷ foreign (run 9) (started_a (first sums_a ++ (0 ∷ [])))
    ∷ foreign (run 9) (started_a (take 28 (first sums_a)))
    ∷ foreign (run 9) (started_a (take 32 (first sums_a)))
    ∷ foreign (run 9) (started_a (first sums_a ++ small 0))
    ∷ foreign (run 9) (started_a [])
    -- 579 = 2 * 256 + 67 and 4096 = 16 * 256: a missing last byte would be read as the 0 that it is
    ∷ row (run 9) (lent (A 7 6) (0 ∷ 0 ∷ []) (first (word 2 67 ++ word 16 0))) (Finished 4)
    (with_map map_a (lent (A 7 6) (1 ∷ 0 ∷ []) (done 1 (word 2 67 ++ word 16 0))))
    ∷ foreign (run 9) (lent (A 7 6) (0 ∷ 0 ∷ []) (take 35 (first (word 2 67 ++ word 16 0))))
    -- what lies behind the file's part of a map is kept
    ∷ row (run 9) (with_map (replicate 41 9) (started_a [])) (Refused 13 0) (with_map (map_a ++ (9 ∷ 9 ∷ [])) (started_a []))
    -- no start was made
    ∷ foreign (run 9) (started_a (replicate 36 0))
    -- either sum damaged, in each of its bytes, upwards and downwards; the sums exchanged; amid a run; with budget 0; finished
    ∷ foreign (run 9) (started_a (first (word 2 61 ++ word 15 237)))
    ∷ foreign (run 9) (lent (A 5 3) (5 ∷ 3 ∷ []) (registers_of 11 1 2 5 0 (word 2 62 ++ word 15 238)))
    ∷ foreign (run 9) (started_a (first (word 2 63 ++ word 15 237)))
    ∷ foreign (run 9) (started_a (first (word 3 62 ++ word 15 237)))
    ∷ foreign (run 9) (started_a (first ((0 ∷ 1 ∷ 2 ∷ 62 ∷ []) ++ word 15 237)))
    ∷ foreign (run 9) (started_a (first ((1 ∷ 0 ∷ 2 ∷ 62 ∷ []) ++ word 15 237)))
    ∷ foreign (run 9) (started_a (first (word 2 62 ++ word 15 236)))
    ∷ foreign (run 9) (started_a (first (word 2 62 ++ word 14 237)))
    ∷ foreign (run 9) (started_a (first (word 2 62 ++ (0 ∷ 255 ∷ 15 ∷ 237 ∷ []))))
    ∷ foreign (run 9) (started_a (first (word 2 62 ++ (128 ∷ 0 ∷ 15 ∷ 237 ∷ []))))
    ∷ foreign (run 9) (started_a (first (word 15 237 ++ word 2 62)))
    ∷ foreign (run 0) (started_a (first (word 2 63 ++ word 15 237)))
    ∷ foreign (run 9) (done_a (done 1 (word 2 63 ++ word 15 237)))
    ∷ foreign (run 0) (done_a (done 1 (word 2 62 ++ word 15 238)))
    ∷ foreign (run 9) (done_a (take 35 (done 1 sums_a)))
    -- start does not look at the sums
    ∷ row start (started_a (first (word 2 63 ++ word 15 237))) Ready (with_map map_a (started_a (first sums_a)))
    -- the state of A for the file with two bytes swapped: the first sum is the same, the second is not
    ∷ foreign (run 9) (lent (A 3 5) (0 ∷ 0 ∷ []) (first sums_a))
    ∷ row start (lent (A 3 5) (0 ∷ 0 ∷ []) (first sums_a)) Ready
    (with_map map_a (lent (A 3 5) (0 ∷ 0 ∷ []) (first (word 2 62 ++ word 15 233))))
    -- two files of equal sums: the state of the one goes on in the other
    ∷ row (run 9) (lent (T 2 0 2) (0 ∷ 0 ∷ 0 ∷ []) (first sums_t)) (Finished 4) (with_map map_t (lent (T 2 0 2) (2 ∷ 0 ∷ 2 ∷ []) (done 3 sums_t)))
    -- 13 beside 10 (no main stack), beside 11 (a mark of 1), beside 12 (state register 2): 13
    ∷ foreign start (lent (A 5 3) [] (take 28 (first sums_a)))
    ∷ foreign start (on_heap (1 ∷ 0 ∷ []) (started_a (take 28 (first sums_a))))
    ∷ foreign (run 9) (lent (A 5 3) [] (first (word 2 63 ++ word 15 237)))
    ∷ foreign (run 9) (on_heap (1 ∷ 0 ∷ []) (started_a (first (word 2 62 ++ word 15 236))))
    ∷ foreign (run 9) (started_a (registers_of 7 1 0 5 2 (word 2 62 ++ word 15 236)))
    -- with the sums and the length right each of these is told, 10 before 11
    ∷ row (run 9) (on_heap (1 ∷ 0 ∷ []) (lent (A 5 3) [] (first sums_a))) (Refused 10 0)
    (with_map map_a (on_heap (1 ∷ 0 ∷ []) (lent (A 5 3) [] (first sums_a))))
    ∷ row start (lent (A 5 3) [] (first sums_a)) (Refused 10 0) (with_map map_a (lent (A 5 3) [] (first sums_a)))
    ∷ row (run 9) (lent (A 5 3) [] (first sums_a)) (Refused 10 0) (with_map map_a (lent (A 5 3) [] (first sums_a)))
    ∷ row (run 9) (on_heap (1 ∷ 0 ∷ []) (started_a (first sums_a))) (Refused 11 0) (with_map map_a (on_heap (1 ∷ 0 ∷ []) (started_a (first sums_a))))
    ∷ row (run 9) (started_a (registers_of 7 1 0 5 2 sums_a)) (Refused 12 0) (with_map map_a (started_a (registers_of 7 1 0 5 2 sums_a)))
    -- 13 beside 9 (Manual 5.24), beside 2 and beside 1: those, with the map as they leave it
    ∷ row (run 9) (lent (240 ∷ 0 ∷ 0 ∷ 0 ∷ 0 ∷ 1 ∷ 0 ∷ 54 ∷ 1 ∷ 3 ∷ 0 ∷ 5 ∷ []) (0 ∷ []) (replicate 28 0)) (Refused 9 9)
    (with_map (replicate 36 none) (lent (240 ∷ 0 ∷ 0 ∷ 0 ∷ 0 ∷ 1 ∷ 0 ∷ 54 ∷ 1 ∷ 3 ∷ 0 ∷ 5 ∷ []) (0 ∷ []) (replicate 28 0)))
    ∷ row start (lent (240 ∷ 0 ∷ 0 ∷ 0 ∷ 0 ∷ 1 ∷ 0 ∷ 54 ∷ 1 ∷ 3 ∷ 0 ∷ 5 ∷ []) (0 ∷ []) []) (Refused 9 9)
    (with_map (replicate 36 none) (lent (240 ∷ 0 ∷ 0 ∷ 0 ∷ 0 ∷ 1 ∷ 0 ∷ 54 ∷ 1 ∷ 3 ∷ 0 ∷ 5 ∷ []) (0 ∷ []) []))
    ∷ row (run 9) (with_map (replicate 38 9) (started_a [])) (Refused 2 0) (with_map (replicate 38 9) (started_a []))
    ∷ row (run 9) (lent [] (0 ∷ []) []) (Refused 1 0) (lent [] (0 ∷ []) [])
    ∷ []

-- the table
pub sum-rows-hold : map (λ r. call_of r.call r.lists) rows ≡ map (λ r. answers r.answer r.left) rows
sum-rows-hold =
    unfold rows signed to_word in_range value_of operate cut codes bodies body_of after whole? records_from records_of is_head is_instruction heads in
    unfold instructions procs head_of entry proc_at params_main params_ptr results_main results_ptr greatest_main greatest_ptr head_tests heads_from in
    unfold heads_of operand signed_byte forwards backwards ins_of ins_at basic_effect effect_of goes_on passes own target_tests next_tests depth_tests in
    unfold leave_tests firsts take_with Checker.take_one take_all flow map_from walk is_pointer pointer_words pointers_first zeros_first judge heap_of in
    unfold objects_of total totals sums_of rec_at put_rec word_from regs_from sums_from reg_bytes root_words basic_rule rule caught raised instruct step run_on main_at in
    unfold ptr_at inner_at is_ins stack? running_tests finished_tests sound? over_map wiped verdict_of check_of length_tests started start_of run_of call_of in
    refl
