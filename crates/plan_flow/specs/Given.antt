-- What a call asks for, and the definition in the values that the code computes.
use Rattle.std.specs.Prelude.{ℕ, ◌+◌, ◌-◌, ◌<◌, ◌≤◌, true, false, List, [], ◌∷◌, ◌≡◌, length, get_or}
use Rattle.std.proofs.Common.{◌∙◌, ap, eq-eqb, ne_eqb, le-leb}
use Rattle.std.proofs.lemmas.Bool.{lt-leb}
use Rattle.model.specs.Choice.{when◌then◌else◌, at_most, all}
use Rattle.model.specs.Words.{truth}
use Rattle.model.specs.File.{call, operand, head_of, entry, params_main, params_ptr, greatest_main, greatest_ptr}
use Rattle.model.specs.Control.{Machine, record_words}
use Rattle.model.specs.Moves.{mtop, ptop}
use Rattle.plan_meaning.specs.Planned.{write, plan_of}
use Rattle.model.specs.declared.Regs.{Regs}
use Rattle.plan_meaning.specs.declared.Into.TheVariants.{Frame}
use Rattle.plan_meaning.specs.declared.Plan.TheVariants.{NoRoom}
use Rattle.code_file.specs.declared.Head.{Head}
use Rattle.code_file.specs.Heads.{proc_head, HeadIs, head-of}

-- the procedure that a call names
pub record Callee (f table : List ℕ) (r : Regs) : Type 0 where
  pub listed : operand f r.place < 64
  pub head : get_or table (operand f r.place) 0 ≡ head_of f (operand f r.place)
  pub whole : head_of f (operand f r.place) + 6 < length f
  pub main : params_main f (operand f r.place) ≤ r.mtop
  pub ptr : params_ptr f (operand f r.place) ≤ r.ptop

-- a word's truth
pub is_true : (w : ℕ) → (w ≡ 0 → ⊥) → truth w ≡ true
unfolding truth
is_true w h = rw (ne_eqb w 0 h)

pub is_false : (w : ℕ) → w ≡ 0 → truth w ≡ false
unfolding truth
is_false w h = rw (eq-eqb w 0 h)

-- the numbers of procedure n, whose head v stands at h
pub record Numbers (f : List ℕ) (n h : ℕ) (v : Head) : Type 0 where
  pub at : h ≡ head_of f n
  pub main : v.a ≡ params_main f n
  pub ptr : v.b ≡ params_ptr f n
  pub most_main : v.x ≡ greatest_main f n
  pub most_ptr : v.y ≡ greatest_ptr f n

pub numbers : {f table : List ℕ} {r : Regs} (s : ℕ) {v : Head} → Callee f table r → s ≡ operand f r.place →
    HeadIs f (get_or table s 0) v → Numbers f (operand f r.place) (get_or table s 0) v
unfolding proc_head
numbers {f} {table} {r} s {v} C e H =
    let n = operand f r.place in
    let t : get_or table s 0 ≡ head_of f n = rw e C.head in
    let k : v ≡ proc_head f n = H.is ∙ head-of f n (get_or table s 0) t in
    record {
      at = t;
      main = ap (λ x. x.a) k;
      ptr = ap (λ x. x.b) k;
      most_main = ap (λ x. x.x) k;
      most_ptr = ap (λ x. x.y) k;
    }

-- a call in the head's numbers: where it finds no room, and where it does
module _ {f : List ℕ} {n h : ℕ} {v : Head} (N : Numbers f n h v) (m : Machine) (q : ℕ) where
  call-is : plan_of f m q (call n)
      ≡ (when all (at_most (mtop m - v.a + v.x) (length m.main) ∷ at_most (ptop m - v.b + v.y) (length m.ptr)
      ∷ at_most (m.regs.ctop + record_words) (length m.ctl) ∷ [])
      then write Frame (h + 7) (mtop m) (ptop m) (mtop m - v.a) (ptop m - v.b)
      else NoRoom)
  unfolding plan_of entry
  call-is = rw (N.at, N.main, N.ptr, N.most_main, N.most_ptr)

  pub no_main : length m.main < mtop m - v.a + v.x → NoRoom ≡ plan_of f m q (call n)
  no_main s = rw (call-is, lt-leb _ _ s)

  pub no-ptr : mtop m - v.a + v.x ≤ length m.main → length m.ptr < ptop m - v.b + v.y → NoRoom ≡ plan_of f m q (call n)
  no-ptr s t = rw (call-is, le-leb _ _ s, lt-leb _ _ t)

  pub no-ctl : mtop m - v.a + v.x ≤ length m.main → ptop m - v.b + v.y ≤ length m.ptr →
      length m.ctl < m.regs.ctop + record_words → NoRoom ≡ plan_of f m q (call n)
  no-ctl s t u = rw (call-is, le-leb _ _ s, le-leb _ _ t, lt-leb _ _ u)

  pub frame-room : mtop m - v.a + v.x ≤ length m.main → ptop m - v.b + v.y ≤ length m.ptr →
      m.regs.ctop + record_words ≤ length m.ctl → write Frame (h + 7) (mtop m) (ptop m) (mtop m - v.a) (ptop m - v.b) ≡ plan_of f m q (call n)
  frame-room s t u = rw (call-is, le-leb _ _ s, le-leb _ _ t, le-leb _ _ u)
