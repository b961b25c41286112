-- The procedures of a file whose records are whole: each head is whole, the first stands at place 0, and an instruction lies between its
-- procedure's head and end. Heads rise, so that the heads around a place tell its procedure.
use Prim.Native.Nat.{ℕ, suc, ◌+◌, ◌-◌, ◌<◌, ◌≤◌}
use mathlib.Core.List.{List, [], ◌∷◌}
use Rattle.std.specs.Prelude.{◌≡◌}
use Rattle.std.proofs.Math.Path.{refl}
use Rattle.std.proofs.Math.Decide.{ℕ_discrete, dec_lt}
use Rattle.std.proofs.Common.{arith}
use Rattle.std.proofs.Math.Dec.{ltb}
use Rattle.std.proofs.Math.ListN.{length, get_or, get_or-eq_default}
use borrow.Author.Tests.{lt-ltb, le-ltb, eq-eqb}
use Rattle.model.specs.Choice.{when◌then◌else◌, Mem}
use Rattle.model.specs.File.{byte_at, head_kind, is_head, select, instructions, heads, procs, head_of, proc_at, up_to, records_of, starts, greatest_main, greatest_ptr}
use Rattle.model.specs.Checker.{State}
use Rattle.laws.specs.Members.{get_or-in}
use Rattle.laws_file.specs.Walk.{Walk, file-walk, walk-above, after-head, first_head, head_in, heads-rise, ins-in, instruction-below, up_to-most}
use Rattle.laws_file.specs.Walk.{up_to-least, up_to-less, procs-some, proc-below}

-- where the procedure behind n heads ends: at the next head, or with the file
unfoldable pub end_of : List ℕ → ℕ → ℕ
end_of f n = when ltb n (procs f) then head_of f n else length f

-- depths within the greatest of the procedure that p lies in
abbrev pub DepthsWithin : List ℕ → ℕ → State → Type 0
DepthsWithin f p u = (u.main ≤ greatest_main f (proc_at f p)) × (u.ptr ≤ greatest_ptr f (proc_at f p))

module _ (f ps : List ℕ) (e : records_of f ≡ starts ps) where
  pub head-zero : head_of f 0 ≡ 0
  unfolding head_of heads is_head
  head-zero = rw e (go ps (file-walk f ps e))
    where
      go : (qs : List ℕ) → Walk f 0 qs → get_or (select (is_head f) qs) 0 0 ≡ 0
      go [] w = refl
      go (q ∷ qs) w = rw (w.0, eq-eqb (byte_at f 0) head_kind (first_head f ps e))

  -- no procedure, no head: 0
  pub head-none : (n : ℕ) → procs f ≤ n → head_of f n ≡ 0
  unfolding head_of procs
  head-none n h = get_or-eq_default (heads f) 0 h

  head-kind : (n : ℕ) → n < procs f → Mem (head_of f n) ps × (byte_at f (head_of f n) ≡ head_kind)
  unfolding procs head_of
  head-kind n h = head_in f ps e (get_or (heads f) n 0) (get_or-in (heads f) n 0 h)

  -- a head is whole, and so is the first, which 0 stands for
  pub head_whole : (n : ℕ) → head_of f n + 6 < length f
  head_whole n = go (dec_lt n (procs f))
    where
      room : (k : ℕ) → k < procs f → head_of f k + 6 < length f
      room k h =
          let a = head-kind k h in
          let b = (walk-above f 0 ps (file-walk f ps e) (head_of f k) a.0).1 in
          let d = after-head f (head_of f k) a.1 in
          omega arith

      go : Dec (n < procs f) → head_of f n + 6 < length f
      go (yes h) = room n h
      go (no h) = let a = head-none n (omega arith) in let b = head-zero in let d = room 0 (procs-some f ps e) in omega arith

  pub end_low : (n : ℕ) → end_of f n ≤ length f
  unfolding end_of
  end_low n = go (dec_lt n (procs f))
    where
      go : Dec (n < procs f) → (when ltb n (procs f) then head_of f n else length f) ≤ length f
      go (yes h) = let a = head_whole n in rw (lt-ltb n (procs f) h) (omega arith)
      go (no h) = rw (le-ltb n (procs f) (omega arith)) (omega arith)

  -- an instruction has its procedure's head before it and its end behind it
  pub own-head : (p : ℕ) → Mem p (instructions f) → head_of f (proc_at f p) < p
  unfolding proc_at procs head_of
  own-head p m = go (dec_lt p (get_or (heads f) (up_to p (heads f) - 1) 0)) (ℕ_discrete p (get_or (heads f) (up_to p (heads f) - 1) 0))
    where
      some : 0 < up_to p (heads f)
      some = up_to-least p (heads f) 0 (heads-rise f ps e) (procs-some f ps e) (let z = head-zero in omega arith)

      go : Dec (p < get_or (heads f) (up_to p (heads f) - 1) 0) → Dec (p ≡ get_or (heads f) (up_to p (heads f) - 1) 0) →
          get_or (heads f) (up_to p (heads f) - 1) 0 < p
      go (yes h) d =
          let a = some in
          let b = up_to-most p (heads f) in
          let w = up_to-less p (heads f) (up_to p (heads f) - 1) (heads-rise f ps e) (omega arith) h in
          absurd (omega arith)
      go (no h) (yes z) = absurd ((ins-in f ps e p m).1 (rw z (head-kind (proc_at f p) (proc-below f ps e p)).1))
      go (no h) (no z) = omega arith

  pub own-end : (p : ℕ) → Mem p (instructions f) → p < end_of f (proc_at f p + 1)
  unfolding proc_at procs head_of end_of
  own-end p m = go (dec_lt (up_to p (heads f) - 1 + 1) (length (heads f))) (dec_lt p (get_or (heads f) (up_to p (heads f) - 1 + 1) 0))
    where
      go : Dec (up_to p (heads f) - 1 + 1 < length (heads f)) → Dec (p < get_or (heads f) (up_to p (heads f) - 1 + 1) 0) →
          p < (when ltb (up_to p (heads f) - 1 + 1) (length (heads f)) then get_or (heads f) (up_to p (heads f) - 1 + 1) 0 else length f)
      go (yes h) (yes l) = rw (lt-ltb (up_to p (heads f) - 1 + 1) (length (heads f)) h) l
      go (yes h) (no l) =
          let w = up_to-least p (heads f) (up_to p (heads f) - 1 + 1) (heads-rise f ps e) h (omega arith) in
          absurd (omega arith)
      go (no h) d = rw (le-ltb (up_to p (heads f) - 1 + 1) (length (heads f)) (omega arith)) (instruction-below f ps e p m)

  -- a place between them is the procedure's
  pub between : (n p : ℕ) → n < procs f → head_of f n ≤ p → p < end_of f (n + 1) → proc_at f p ≡ n
  unfolding proc_at procs head_of end_of
  between n p l a b = go (dec_lt (n + 1) (length (heads f)))
    where
      low : suc n ≤ up_to p (heads f)
      low = up_to-least p (heads f) n (heads-rise f ps e) l a

      go : Dec (n + 1 < length (heads f)) → up_to p (heads f) - 1 ≡ n
      go (yes h) =
          let d : p < get_or (heads f) (n + 1) 0 = rw (lt-ltb (n + 1) (length (heads f)) h) at b in
          let w = up_to-less p (heads f) (n + 1) (heads-rise f ps e) h d in
          omega (arith, low)
      go (no h) = let w = up_to-most p (heads f) in omega (arith, low)
