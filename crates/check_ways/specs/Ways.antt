-- Taking an instruction by its shape: the model's tests on it in their order (`by_shape`), and for each way that an instruction can lead what
-- is left of them. Depths that stay as they are need no test (`still`).
use Rattle.std.specs.Prelude.{ℕ, suc, ◌+◌, ◌-◌, ◌*◌, ◌<◌, ◌≤◌, Bool, not, ◌&&◌, List, [], ◌∷◌, ◌++◌, Result, Ok, Err, IfOk, ◌≡◌, ltb, leb, eqb, length}
use Rattle.std.proofs.Math.Bool.{true, false}
use Rattle.std.proofs.Common.{true≢false, ◌∙◌, arith, ltb-true}
use Rattle.std.proofs.Math.Path.{refl, ap, sym}
use Rattle.std.proofs.Math.Nat.{add-zero, sub-zero}
use Rattle.model.specs.Choice.{when◌then◌else◌}
use Rattle.model.specs.File.{Ins, basic, jump, branch, branch_keep, call, return, enter, exit, raise, body_of, byte_at, ins_of, ins_at, after, head_of}
use Rattle.model.specs.File.{proc_at, results_main, results_ptr, greatest_main, greatest_ptr, file_most}
use Rattle.model.specs.Checker.{none, State, state, effect, innermost, own, Taking, bad, good, need}
use Rattle.laws_file.specs.Kinds.{NoneOf}
use Rattle.code_file.specs.declared.Head.{Head}
use Rattle.code_file.specs.Heads.{head_bytes, HeadIs}
use Rattle.check_rows.specs.declared.State.{State as Numbers}
use Rattle.check_rows.specs.declared.Procedure.{Procedure}
use Rattle.check_rows.specs.declared.Depths.{Depths}
use Rattle.check_rows.specs.declared.Onward.{Onward}
use Rattle.model.specs.declared.Refusal.{Refusal}
use Rattle.model.specs.declared.Refusal.TheVariants.{Reach}
use Rattle.model.specs.Refusals.{number_of, fault_of}
use Rattle.check_rows.specs.Shape.{Way, Next, Jump, Branch, Keep, Open, Close, Return, Shape, shape, shape_of}
use Rattle.check_rows.specs.Site as site
use Rattle.check_rows.specs.Site.{Site}
use Rattle.check_rows.specs.Tests.{as_state, goes_by, jumps_by, target_ok, stacks_ok, depth_ok, leave_ok, next_state, target_state, PopsFit}
use Rattle.check_rows.specs.Tests.{stacks-fit, target-tests, next-tests, depth-tests, leave-tests, passes-are}
use Rattle.check_rows.specs.Rows.{row, row_shape, is_set_in, onward_by, onward_to, plainly, Bounded, still}
use Rattle.check_rows.specs.Kinds.{NoJump, elsewhere, straight?, straight, body-jumps}
use Rattle.laws_file.specs.Walk.{after-above}
use Rattle.check_scan.specs.Marks.{unreached, state_in}
use Rattle.check_ways.specs.Takes.{own_in, pass_one_in, pass_all_in, take_in, take_in_with}
use Rattle.check_ways.specs.Faults.{take_ans, StateIs, OuterIs, HandlerIn, held-as, and-end}

-- what is known of the instruction at p of the procedure between h and e
pub record Here (f m : List ℕ) (h e p : ℕ) : Type 0 where
  pub site : Site f p
  pub head : h ≡ head_of f (proc_at f p)
  pub head_whole : h + 6 < length f
  pub long : length m ≡ 3 * length f
  pub owns : (q : ℕ) → own_in m h e q ≡ own f p q
  pub own_next : own_in m h e (after f p) ≡ ltb (after f p) e
  pub end_low : e ≤ length f
  pub own_low : (q : ℕ) → own f p q ≡ true → q < length f
  pub held : HandlerIn m (state_in m p).inner
  pub main_floor : (innermost (state_in m) (state_in m p)).main ≤ (state_in m p).main
  pub ptr_floor : (innermost (state_in m) (state_in m p)).ptr ≤ (state_in m p).ptr
  pub within : (state_in m p).main < unreached → ((state_in m p).main ≤ byte_at f (h + 5)) × ((state_in m p).ptr ≤ byte_at f (h + 6))
  pub bytes : (i : ℕ) → byte_at f i < 256

-- the limits are those of the procedure with head h
abbrev pub Bounds : List ℕ → ℕ → Procedure → Type 0
Bounds f h l = (l.x ≡ byte_at f (h + 5)) × (l.y ≡ byte_at f (h + 6))

-- an instruction that pops n main words and leads to t
abbrev pub leads_to : Way → ℕ → ℕ → Shape
leads_to w n t = shape w (effect n 0 0 0) 0 0 t true

abbrev pub branch_way : Bool → Way
branch_way k = when k then Keep else Branch

-- the instruction at p has n bytes and this shape
pub record Led (f m : List ℕ) (p n : ℕ) (l : Procedure) (sh : Shape) : Type 0 where
  pub here : Here f m l.head l.end p
  pub bounds : Bounds f l.head l
  pub shape_is : shape_of f p (ins_at f p) ≡ sh
  pub size : after f p ≡ p + n

-- the kind of the instruction at p
pub record Among (f m : List ℕ) (p : ℕ) (l : Procedure) (kind : ℕ) : Type 0 where
  pub here : Here f m l.head l.end p
  pub bounds : Bounds f l.head l
  pub kind_is : byte_at f p ≡ kind

-- what taking an instruction leaves: a refusal, or the place behind it
pub record Took (f : List ℕ) (p : ℕ) (m m' : List ℕ) (r : Result ℕ Refusal) : Type 0 where
  pub is : take_ans (fault_of r) m' ≡ take_in f p m
  pub on : IfOk r (λ q. q ≡ after f p)

-- tests with the numbers of their refusals, and what comes where all hold
unfoldable pub judged : List (Bool × ℕ) → Taking (List ℕ) → Taking (List ℕ)
judged [] k = k
judged (t ∷ ts) k = need t.0 t.1 (judged ts k)

pub record Judged (x : Taking (List ℕ)) (ts : List (Bool × ℕ)) (k : Taking (List ℕ)) : Type 0 where
  pub is : x ≡ judged ts k

-- a test that fails stops, one that holds goes on
pub stops : {x k : Taking (List ℕ)} {t : Bool} {n : ℕ} {ts : List (Bool × ℕ)} → Judged x ((t, n) ∷ ts) k → t ≡ false → bad n ≡ x
unfolding judged
stops w e = sym (w.is ∙ rw e)

-- no state has come yet: refusal 6
pub stops-unreached : {x k : Taking (List ℕ)} {t : Bool} {r : Refusal} {ts : List (Bool × ℕ)} (m : List ℕ) →
    Judged x ((t, 6) ∷ ts) k → (r ≡ Reach) × (t ≡ false) → take_ans (number_of r) m ≡ x
stops-unreached m w h = rw h.0 (stops w h.1)

pub test-passes : {x k : Taking (List ℕ)} {t : Bool} {n : ℕ} {ts : List (Bool × ℕ)} → Judged x ((t, n) ∷ ts) k → t ≡ true → Judged x ts k
unfolding judged
test-passes w e = record { is = w.is ∙ rw e }

pub all-passed : {x k : Taking (List ℕ)} → Judged x [] k → x ≡ k
unfolding judged
all-passed w = w.is

-- the depths that pass to the next instruction, if they do
abbrev pub PassesOn : List ℕ → List ℕ → ℕ → Procedure → ℕ → Depths → Bool → Type 0
PassesOn f m p l q d false = good m ≡ take_in f p m
PassesOn f m p l q d true =
    (take_in f p m ≡ pass_one_in m (after f p) (state d.main d.ptr (state_in m p).inner)) × (q < l.end) × (d.main ≤ l.x) × (d.ptr ≤ l.y)

abbrev pub ComesTo : List ℕ → List ℕ → ℕ → Procedure → Result Onward Refusal → Type 0
ComesTo f m p l (Err r) = take_ans (number_of r) m ≡ take_in f p m
ComesTo f m p l (Ok r) = (r.next ≡ after f p) × PassesOn f m p l r.next r.depths r.goes

-- what comes of an instruction that leads to the next one alone, or nowhere
pub record Onwards (f m : List ℕ) (p : ℕ) (l : Procedure) (r : Result Onward Refusal) : Type 0 where
  pub comes : ComesTo f m p l r

branch-needs : (a u n d : Bool) (k : Taking (List ℕ)) →
    need (when a then true else false) 5 (need (u && n) 6 (need (when d then true else false) 7 k)) ≡ need a 5 (need u 6 (need n 6 (need d 7 k)))
branch-needs true true true true k = refl
branch-needs true true true false k = refl
branch-needs true true false d k = refl
branch-needs true false n d k = refl
branch-needs false u n d k = refl

module _ (f m : List ℕ) (h p : ℕ) (l : Procedure) (H : Here f m h l.end p) (B : Bounds f h l) where
  -- the state at the instruction, and the one at the innermost open 160
  abbrev s : State
  s = state_in m p

  abbrev o : State
  o = innermost (state_in m) (state_in m p)

  pub bounded : Bounded s o l
  bounded =
      record {
        main_floor = H.main_floor;
        ptr_floor = H.ptr_floor;
        main_within = λ a. rw B.0 (H.within a).0;
        ptr_within = λ a. rw B.1 (H.within a).1;
        x_byte = rw B.0 (H.bytes (h + 5));
        y_byte = rw B.1 (H.bytes (h + 6));
      }

  head-bytes : (greatest_main f (proc_at f p) ≡ l.x) × (greatest_ptr f (proc_at f p) ≡ l.y)
      × (results_main f (proc_at f p) ≡ byte_at f (h + 3)) × (results_ptr f (proc_at f p) ≡ byte_at f (h + 4))
  unfolding greatest_main greatest_ptr results_main results_ptr
  head-bytes =
      let z = sym H.head in (
        ap (λ (n : ℕ). byte_at f (n + 5)) z ∙ sym B.0,
        ap (λ (n : ℕ). byte_at f (n + 6)) z ∙ sym B.1,
        ap (λ (n : ℕ). byte_at f (n + 3)) z,
        ap (λ (n : ℕ). byte_at f (n + 4)) z,
      )

  -- what a shape passes on
  abbrev shape_passes : Shape → List (ℕ × State)
  shape_passes sh =
      (when goes_by sh.way then (after f p, next_state sh p s o) ∷ [] else [])
      ++ (when jumps_by sh.way then (sh.target, target_state sh s) ∷ [] else [])

  by_shape : (sh : Shape) → shape_of f p (ins_at f p) ≡ sh →
      take_in f p m
      ≡ need (target_ok sh.way sh.known (own_in m h l.end sh.target) sh.target p) 5
      (need (is_set_in s && (when goes_by sh.way then ltb (after f p) l.end else true)) 6
      (need (depth_ok sh s o l.x l.y) 7
      (need (leave_ok sh.way s (byte_at f (h + 3)) (byte_at f (h + 4))) 8 (pass_all_in (shape_passes sh) m))))
  unfolding take_in take_in_with
  by_shape sh e =
      let i = ins_at f p in
      let b = head-bytes in
      rw (
        target-tests f p i,
        next-tests f p i,
        depth-tests f p i s o H.main_floor H.ptr_floor,
        leave-tests f p i s,
        passes-are f p i s o,
        b.0,
        b.1,
        b.2,
        b.3,
        e,
        ← H.owns sh.target,
        ← H.owns (after f p),
        H.own_next,
      )

  -- where a state is known, depths that stay pass
  stays : (w : Way) (t : ℕ) → is_set_in s ≡ true →
      stacks_ok (leads_to w 0 t) s o l.x l.y ≡ true
  stays w t z = still w t s o l bounded (ltb-true s.main unreached z)

  -- 1 and 3
  pub takes-jump : (t : ℕ) → shape_of f p (ins_at f p) ≡ leads_to Jump 0 t →
      Judged (take_in f p m) ((own_in m h l.end t, 5) ∷ (is_set_in s, 6) ∷ []) (pass_one_in m t s)
  unfolding target_ok leave_ok target_state judged
  takes-jump t e =
      record {
        is = by_shape (leads_to Jump 0 t) e
            ∙ rw (and-end (pass_one_in m t s)) (go (own_in m h l.end t) (is_set_in s) _ _ (stays Jump t));
      }
    where
      go : (a u d : Bool) (k : Taking (List ℕ)) → (u ≡ true → d ≡ true) →
          need (when a then true else false) 5 (need (u && true) 6 (need (when d then true else false) 7 k)) ≡ need a 5 (need u 6 k)
      go true true d k z = rw (z refl)
      go true false d k z = refl
      go false u d k z = refl

  -- 2, 4, 5 and 6
  abbrev popped : State
  popped = state (s.main - 1) s.ptr s.inner

  pub takes-branch : (keep : Bool) (t : ℕ) → shape_of f p (ins_at f p) ≡ leads_to (branch_way keep) 1 t →
      Judged (take_in f p m)
      ((own_in m h l.end t, 5)
      ∷ (is_set_in s, 6)
      ∷ (ltb (after f p) l.end, 6)
      ∷ (stacks_ok (row_shape Next (row 1 0 0 0 0 0)) s o l.x l.y, 7)
      ∷ [])
      (pass_all_in ((after f p, popped) ∷ (t, (when keep then s else popped)) ∷ []) m)
  unfolding target_ok leave_ok next_state target_state stacks_ok judged
  takes-branch true t e =
      record {
        is = by_shape (leads_to Keep 1 t) e
            ∙ rw (sub-zero s.ptr, add-zero s.ptr, add-zero (s.main - 1))
            (branch-needs (own_in m h l.end t) (is_set_in s) (ltb (after f p) l.end) (stacks_ok (leads_to Keep 1 t) s o l.x l.y)
            (pass_all_in ((after f p, popped) ∷ (t, s) ∷ []) m));
      }
  takes-branch false t e =
      record {
        is = by_shape (leads_to Branch 1 t) e
            ∙ rw (sub-zero s.ptr, add-zero s.ptr, add-zero (s.main - 1))
            (branch-needs (own_in m h l.end t) (is_set_in s) (ltb (after f p) l.end) (stacks_ok (leads_to Branch 1 t) s o l.x l.y)
            (pass_all_in ((after f p, popped) ∷ (t, popped) ∷ []) m));
      }

  -- 160
  pub takes-open : (t : ℕ) → shape_of f p (ins_at f p) ≡ leads_to Open 0 t →
      Judged (take_in f p m)
      ((own_in m h l.end t, 5)
      ∷ (leb (suc p) t, 5)
      ∷ (is_set_in s, 6)
      ∷ (ltb (after f p) l.end, 6)
      ∷ (leb (suc s.main) l.x, 7)
      ∷ [])
      (pass_all_in
      ((after f p, state s.main s.ptr p)
      ∷ (t, state (s.main + 1) s.ptr s.inner)
      ∷ [])
      m)
  unfolding target_ok leave_ok next_state target_state judged
  takes-open t e =
      record {
        is = by_shape (leads_to Open 0 t) e
            ∙ rw (sub-zero s.ptr, add-zero s.ptr, sub-zero s.main, add-zero s.main)
            (go (own_in m h l.end t) (leb (suc p) t) (is_set_in s) _ _ _ _ (stays Open t));
      }
    where
      go : (a b u n d x : Bool) (k : Taking (List ℕ)) → (u ≡ true → d ≡ true) →
          need (when a then b else false) 5 (need (u && n) 6 (need (when d then x else false) 7 k))
          ≡ need a 5 (need b 5 (need u 6 (need n 6 (need x 7 k))))
      go true true true n d x k z = rw (z refl)
      go true true false n d x k z = refl
      go true false u n d x k z = refl
      go false b u n d x k z = refl

  -- 161
  pub takes-close : shape_of f p (ins_at f p) ≡ leads_to Close 0 0 →
      Judged (take_in f p m)
      ((is_set_in s, 6) ∷ (ltb (after f p) l.end, 6) ∷ (not (eqb s.inner none), 8) ∷ [])
      (pass_one_in m (after f p) (state s.main s.ptr o.inner))
  unfolding target_ok leave_ok next_state judged
  takes-close e =
      record {
        is = by_shape (leads_to Close 0 0) e
            ∙ rw (
              sub-zero s.ptr,
              add-zero s.ptr,
              sub-zero s.main,
              add-zero s.main,
              and-end (pass_one_in m (after f p) (state s.main s.ptr o.inner)),
            )
            (go (is_set_in s) _ _ _ (stays Close 0));
      }
    where
      go : (u n d : Bool) (k : Taking (List ℕ)) → (u ≡ true → d ≡ true) →
          need (u && n) 6 (need (when d then true else false) 7 k) ≡ need u 6 (need n 6 k)
      go true n d k z = rw (z refl)
      go false n d k z = refl

  -- 73
  pub takes-return : shape_of f p (ins_at f p) ≡ leads_to Return 0 0 →
      Judged (take_in f p m)
      ((is_set_in s, 6)
      ∷ (eqb s.main (byte_at f (h + 3)), 8)
      ∷ (eqb s.ptr (byte_at f (h + 4)), 8)
      ∷ (eqb s.inner none, 8)
      ∷ [])
      (good m)
  unfolding target_ok leave_ok judged
  takes-return e =
      record {
        is = by_shape (leads_to Return 0 0) e
            ∙ go (is_set_in s) _ (eqb s.main (byte_at f (h + 3))) (eqb s.ptr (byte_at f (h + 4))) _ _ (stays Return 0);
      }
    where
      go : (u d a b c : Bool) (k : Taking (List ℕ)) → (u ≡ true → d ≡ true) →
          need (u && true) 6 (need (when d then true else false) 7 (need (when a then (when b then c else false) else false) 8 k))
          ≡ need u 6 (need a 8 (need b 8 (need c 8 k)))
      go true d true true c k z = rw (z refl)
      go true d true false c k z = rw (z refl)
      go true d false b c k z = rw (z refl)
      go false d a b c k z = refl

  -- the others
  pub takes-plain : straight? (ins_at f p) ≡ true →
      Onwards f m p l (plainly s o l (after f p) (shape_of f p (ins_at f p)))
  unfolding plainly target_ok leave_ok shape_of next_state
  takes-plain e = go (ins_at f p) refl e
    where
      -- by the four tests
      out : (known set on d g : Bool) (r : Onward) (k : Taking (List ℕ)) →
          take_in f p m ≡ need known 5 (need (set && on) 6 (need (when d then true else false) 7 k)) → r.next ≡ after f p →
          r.goes ≡ g →
          (d ≡ true → on ≡ true → g ≡ true →
          (k ≡ pass_one_in m (after f p) (state r.depths.main r.depths.ptr s.inner)) × (after f p < l.end) × (r.depths.main ≤ l.x) × (r.depths.ptr ≤ l.y)) →
          (g ≡ false → k ≡ good m) → Onwards f m p l (onward_by known set on d r)
      out false set on d g r k w q e h n = record { comes = sym w }
      out true false on d g r k w q e h n = record { comes = sym w }
      out true true false d g r k w q e h n = record { comes = sym w }
      out true true true false g r k w q e h n = record { comes = sym w }
      out true true true true true r k w q e h n = let u = h refl refl refl in record { comes = (q, rw e (w ∙ u.0, rw q u.1, u.2, u.3)) }
      out true true true true false r k w q e h n = record { comes = (q, rw e (sym (w ∙ n refl))) }

      fits : (sh : Shape) → stacks_ok sh s o l.x l.y ≡ true → PopsFit sh s l.x l.y
      fits sh d = stacks-fit sh s o l.x l.y d

      result : Shape → Onward
      result sh = onward_to s (after f p) sh

      ends : Shape → Taking (List ℕ)
      ends sh = pass_all_in ((after f p, next_state sh p s o) ∷ []) m

      deep : Shape → Bool
      deep sh = stacks_ok sh s o l.x l.y

      go : (i : Ins) → ins_at f p ≡ i → straight? i ≡ true → Onwards f m p l (plainly s o l (after f p) (shape_of f p i))
      go (basic b) z y =
          let sh = shape_of f p (basic b) in
          out true (is_set_in s) (ltb (after f p) l.end) (deep sh) true (result sh) (ends sh) (by_shape sh (ap (shape_of f p) z)) refl refl
          (λ d on g. let w = fits sh d in (and-end _, ltb-true (after f p) l.end on, w.main_within, w.ptr_within))
          (λ g. absurd (true≢false g))
      go (call n) z y =
          let sh = shape_of f p (call n) in
          out sh.known (is_set_in s) (ltb (after f p) l.end) (deep sh) true (result sh) (ends sh) (by_shape sh (ap (shape_of f p) z)) refl refl
          (λ d on g. let w = fits sh d in (and-end _, ltb-true (after f p) l.end on, w.main_within, w.ptr_within))
          (λ g. absurd (true≢false g))
      go raise z y =
          let sh = shape_of f p raise in
          out true (is_set_in s) true (deep sh) false (result sh) (good m) (by_shape sh (ap (shape_of f p) z)) refl refl
          (λ d on g. absurd (true≢false (sym g)))
          (λ g. refl)
      go (jump q) z y = absurd (true≢false (sym y))
      go (branch t q) z y = absurd (true≢false (sym y))
      go (branch_keep t q) z y = absurd (true≢false (sym y))
      go return z y = absurd (true≢false (sym y))
      go (enter n) z y = absurd (true≢false (sym y))
      go exit z y = absurd (true≢false (sym y))

-- the places that are read and written lie in the part
module _ {f m : List ℕ} {h e p : ℕ} (H : Here f m h e p) where
  -- a place of the procedure's own
  pub own-place : (q : ℕ) → own_in m h e q ≡ true → (3 * q + 2 < length m) × (q < file_most)
  own-place q w =
      let a = H.own_low q (sym (H.owns q) ∙ w) in
      let b = H.long in
      let c = H.site.small in
      (omega arith, omega arith)

  pub next_place : (q : ℕ) → q < e → (3 * q + 2 < length m) × (q < file_most)
  next_place q w =
      let a = H.end_low in
      let b = H.long in
      let c = H.site.small in
      (omega arith, omega arith)

  pub here_place : (3 * p + 2 < length m) × (p < file_most)
  here_place =
      let a = site.low H.site in
      let d = H.site.inside in
      let b = H.long in
      let u = after-above f p in
      (omega arith, a)

  -- the procedure's end lies in the part
  pub ends_low : (3 * e ≤ length m) × (e ≤ file_most)
  ends_low =
      let a = H.end_low in
      let b = H.long in
      let c = H.site.small in
      (omega arith, omega arith)

-- the handler of the state s as read is none, or a place of the map
pub held-here : {f m : List ℕ} {h e p : ℕ} → Here f m h e p → {s : Numbers} → StateIs m p s → HandlerIn m s.inner
held-here {m} {p} H {s} S = held-as m p s S H.held

-- the state s as read, and o at the innermost open 160, are within the bounds
pub bounded-here : {f m : List ℕ} {h p : ℕ} {s : Numbers} → StateIs m p s → {l : Procedure} → Here f m h l.end p → Bounds f h l → {o : Numbers} →
    OuterIs m (as_state s) o → Bounded (as_state s) (as_state o) l
bounded-here {f} {m} {h} {p} S {l} H B O = rw (O.is ∙ ap (λ (u : State). innermost (state_in m) u) S.is, S.is) (bounded f m h p l H B)

pub led : {f m : List ℕ} {p kind : ℕ} {l : Procedure} → Among f m p l kind → (k n : ℕ) (sh : Shape) → kind ≡ k → suc (body_of k) ≡ n →
    shape_of f p (ins_of f p k) ≡ sh → Led f m p n l sh
unfolding ins_at after
led {f} {m} {p} A k n sh e b i =
    record {
      here = A.here;
      bounds = A.bounds;
      shape_is = rw (A.kind_is, e) i;
      size = rw (A.kind_is, e) (omega (arith, b));
    }

-- 1 to 6 have a body of two bytes
pub target_room : {f m : List ℕ} {p kind : ℕ} {l : Procedure} → Among f m p l kind × (1 ≤ kind) × (kind ≤ 6) → p + 2 < length f
target_room W = site.body-room W.0.here.site 2 (ap body_of W.0.kind_is ∙ body-jumps _ W.1 W.2)

module _ {f m : List ℕ} {p : ℕ} {l : Procedure} {s : Numbers} where
  pub on-jump : {t : ℕ} → Led f m p 3 l (leads_to Jump 0 t) → StateIs m p s →
      Judged (take_in f p m) ((own_in m l.head l.end t, 5) ∷ (is_set_in (as_state s), 6) ∷ []) (pass_one_in m t (as_state s))
  on-jump L S = rw (← S.is) at (takes-jump f m l.head p l L.here L.bounds _ L.shape_is)

  pub on_branch : (keep : Bool) (t : ℕ) → Led f m p 3 l (leads_to (branch_way keep) 1 t) → StateIs m p s →
      Judged (take_in f p m)
      ((own_in m l.head l.end t, 5)
      ∷ (is_set_in (as_state s), 6)
      ∷ (ltb (p + 3) l.end, 6)
      ∷ (stacks_ok (row_shape Next (row 1 0 0 0 0 0)) (as_state s) (innermost (state_in m) (as_state s)) l.x l.y, 7)
      ∷ [])
      (pass_all_in
      ((p + 3, state (s.main - 1) s.ptr s.inner)
      ∷ (t, (when keep then as_state s else state (s.main - 1) s.ptr s.inner))
      ∷ [])
      m)
  on_branch keep t L S = rw (← S.is, L.size) at (takes-branch f m l.head p l L.here L.bounds keep t L.shape_is)

  pub on-open : {t : ℕ} → Led f m p 3 l (leads_to Open 0 t) → StateIs m p s →
      Judged (take_in f p m)
      ((own_in m l.head l.end t, 5)
      ∷ (leb (suc p) t, 5)
      ∷ (is_set_in (as_state s), 6)
      ∷ (ltb (p + 3) l.end, 6)
      ∷ (leb (suc s.main) l.x, 7)
      ∷ [])
      (pass_all_in ((p + 3, state s.main s.ptr p) ∷ (t, state (s.main + 1) s.ptr s.inner) ∷ []) m)
  on-open L S = rw (← S.is, L.size) at (takes-open f m l.head p l L.here L.bounds _ L.shape_is)

  pub on-close : Led f m p 1 l (leads_to Close 0 0) → StateIs m p s →
      Judged (take_in f p m) ((is_set_in (as_state s), 6) ∷ (ltb (p + 1) l.end, 6) ∷ (not (eqb s.inner none), 8) ∷ [])
      (pass_one_in m (p + 1) (state s.main s.ptr (innermost (state_in m) (as_state s)).inner))
  on-close L S = rw (← S.is, L.size) at (takes-close f m l.head p l L.here L.bounds L.shape_is)

  pub on_return : {v : Head} → Led f m p 1 l (leads_to Return 0 0) → StateIs m p s → HeadIs f l.head v →
      Judged (take_in f p m) ((is_set_in (as_state s), 6) ∷ (eqb s.main v.r, 8) ∷ (eqb s.ptr v.s, 8) ∷ (eqb s.inner none, 8) ∷ []) (good m)
  unfolding head_bytes
  on_return L S H = rw H.is (rw (← S.is) at (takes-return f m l.head p l L.here L.bounds L.shape_is))

-- taking an instruction of kind k, whose record has n bytes, where nothing but the refusal is left open
pub took : {f m m' : List ℕ} {p kind : ℕ} {l : Procedure} → Among f m p l kind → (k n : ℕ) → kind ≡ k → suc (body_of k) ≡ n →
    take_ans 0 m' ≡ take_in f p m → Took f p m m' (Ok (p + n))
unfolding after
took A k n e b w = record { is = w; on = rw (A.kind_is, e) (omega (arith, b)) }

pub took_not : {f m m' : List ℕ} {p : ℕ} {r : Refusal} → take_ans (number_of r) m' ≡ take_in f p m → Took f p m m' (Err r)
took_not w = record { is = w; on = tt }

-- and one that leads to the next alone, or nowhere
pub onwards-taken : {f m : List ℕ} {p kind : ℕ} {l : Procedure} {s o : Numbers} {r : Result Onward Refusal} → Among f m p l kind → NoJump kind → NoneOf elsewhere kind →
    StateIs m p s → OuterIs m (as_state s) o → r ≡ plainly (as_state s) (as_state o) l (after f p) (shape_of f p (ins_at f p)) → Onwards f m p l r
unfolding ins_at
onwards-taken {f} {m} {p} {kind} {l} A a e S O w =
    rw (w, O.is ∙ ap (λ (u : State). innermost (state_in m) u) S.is, S.is) (takes-plain f m l.head p l A.here A.bounds (rw A.kind_is (straight kind a e f p)))

-- the state passed on, if it is, decides
module _ {f m : List ℕ} {p : ℕ} {l : Procedure} {r : Onward} (W : Onwards f m p l (Ok r)) where
  pub onwards-on : r.next ≡ after f p
  onwards-on = W.comes.0

  pub onwards-stopped : r.goes ≡ false → good m ≡ take_in f p m
  onwards-stopped e = rw e at W.comes.1

  module _ (e : r.goes ≡ true) where
    pub onwards-passing : PassesOn f m p l r.next r.depths true
    onwards-passing = rw e at W.comes.1

    pub onwards-passed : {s : Numbers} → StateIs m p s → (n : ℕ) (m' : List ℕ) → take_ans n m' ≡ pass_one_in m r.next (state r.depths.main r.depths.ptr s.inner) →
        take_ans n m' ≡ take_in f p m
    onwards-passed {s} S n m' e = let z : s.inner ≡ (state_in m p).inner = ap (λ (u : State). u.inner) S.is in (rw (onwards-on, z) at e) ∙ sym onwards-passing.0

    -- what passing that state on answers is what taking the instruction leaves
    pub plain-passed : {s : Numbers} → StateIs m p s → (x : Result ℕ Refusal) (m' : List ℕ) →
        take_ans (fault_of x) m' ≡ pass_one_in m r.next (state r.depths.main r.depths.ptr s.inner) → IfOk x (λ q. q ≡ r.next) → Took f p m m' x
    plain-passed S (Ok q) m' w h = record { is = onwards-passed S 0 m' w; on = h ∙ onwards-on }
    plain-passed S (Err e) m' w h = record { is = onwards-passed S (number_of e) m' w; on = tt }

-- the refusal, or the next place
abbrev pub next_in : Result Onward Refusal → Result ℕ Refusal
next_in (Ok r) = Ok r.next
next_in (Err e) = Err e

-- an instruction that is refused, or passes no state on, leaves the map as it was
pub plain-stopped : {f m : List ℕ} {p : ℕ} {l : Procedure} (r : Result Onward Refusal) → Onwards f m p l r → IfOk r (λ o. o.goes ≡ false) →
    Took f p m m (next_in r)
plain-stopped (Ok r) W h = record { is = onwards-stopped W h; on = onwards-on W }
plain-stopped (Err e) W h = record { is = W.comes; on = tt }
