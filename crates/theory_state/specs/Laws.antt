-- What a passed check says of a file and its map, `CodeLaws`, as the checker's exactness gives it, and from it, for each instruction that
-- changes the control records, what holds at the places that it leads to, `Is`: the rules' fields, read at that instruction.
use Rattle.std.specs.Prelude.{ℕ, ◌+◌, ◌-◌, ◌<◌, ◌≤◌, ◌≡◌, refl, true, List, ◌≢◌}
use Rattle.std.proofs.Math.Path.{ap}
use Rattle.std.proofs.Math.Bool.{false}
use Rattle.std.proofs.Common.{inl, inr, arith}
use Rattle.std.proofs.Math.Dec.{eqb}
use borrow.Author.Tests.{eqb-false, not-true}
use Rattle.model.specs.Choice.{Mem}
use Rattle.laws.specs.Choices.{taken-most}
use Rattle.model.specs.File.{Ins, call, return, enter, exit, after, procs, proc_at, entry, head_tests, instructions, operand, ins_at, params_main}
use Rattle.model.specs.File.{params_ptr, results_main, results_ptr, greatest_main, greatest_ptr}
use Rattle.model.specs.Checker.{State, state, none, passes, innermost, effect_of, handler_at, target_tests, depth_tests, leave_tests}
use Rattle.model.specs.Rules.{Passes, Fine, Keeps}
use Rattle.model.specs.Calls.{pass, verdict_of}
use Rattle.model.specs.Claim.{Bytes, assigned, InOrder}
use Rattle.model.specs.Sound.{main_at, ptr_at, inner_at, is_ins}
use Rattle.laws_file.specs.Codes.{byte-enter}
use Rattle.laws.specs.Members.{member-in, in-member}
use Rattle.laws_file.specs.Walk.{instruction-below, procs-some, entry-proc}
use Rattle.theory_checker.specs.Flow.{OpenHandler, StateShape}
use Rattle.theory_checker.proofs.Flow.{moves}
use Rattle.theory_checker.proofs.Exact.{passed-as, passed-keeps, passed-shape}

-- an instruction stands at q, of procedure n, and the map has this state there
pub record Is (f map : List ℕ) (q n : ℕ) (s : State) : Type 0 where
  pub here : is_ins f q ≡ true
  pub proc : proc_at f q ≡ n
  pub main : main_at map q ≡ s.main
  pub ptr : ptr_at map q ≡ s.ptr
  pub inner : inner_at map q ≡ s.inner

-- what a passed check gives: the file is in order, its map keeps the rules, has no greater depths than x and y, and each innermost open
-- handler below its place
pub record CodeLaws (f map : List ℕ) : Type 0 where
  pub formed : InOrder f
  pub keeps : Keeps f (assigned map)
  pub shape : (p : ℕ) → Mem p (instructions f) → StateShape f (assigned map) p

pub code_laws : (f map new : List ℕ) → Bytes f → verdict_of f map ≡ pass new → CodeLaws f new
code_laws f map new B e =
    record { formed = (passed-as f map new e).formed; keeps = passed-keeps f map B new e; shape = passed-shape f map B new e }

module _ (f map : List ℕ) (L : CodeLaws f map) where
  there : (p : ℕ) → is_ins f p ≡ true → Mem p (instructions f)
  unfolding is_ins
  there p h = member-in p (instructions f) h

  pub some : 0 < procs f
  some = procs-some f L.formed.places L.formed.records

  pub small : (p : ℕ) → is_ins f p ≡ true → p < none
  small p h = let k = instruction-below f L.formed.places L.formed.records p (there p h) in let m = L.formed.few in omega arith

  -- depths are at most x and y
  pub depth-most : (p : ℕ) → is_ins f p ≡ true → (main_at map p ≤ greatest_main f (proc_at f p)) × (ptr_at map p ≤ greatest_ptr f (proc_at f p))
  depth-most p h = (L.shape p (there p h)).within

  pub rules : (p : ℕ) → is_ins f p ≡ true → Fine f (assigned map) p
  rules p h = L.keeps.fine p (there p h)

  -- the first instruction of a procedure: `enters`
  pub at_entry : (n : ℕ) → n < procs f → Is f map (entry f n) n (state (params_main f n) (params_ptr f n) none)
  unfolding is_ins head_tests
  at_entry n h =
      let e = L.keeps.enters n h in
      record {
        here = (L.formed.heads n h).1.1.1.1.0;
        proc = entry-proc f L.formed.places L.formed.records n h (L.formed.heads n h);
        main = ap (λ s. s.main) e;
        ptr = ap (λ s. s.ptr) e;
        inner = ap (λ s. s.inner) e;
      }

  -- procedure 0 has no parameters, and its results fit it
  pub no-params : (params_main f 0 ≡ 0) × (params_ptr f 0 ≡ 0)
  unfolding head_tests
  no-params = let H = L.formed.heads 0 some in (H.1.1.1.1.1.1.0, H.1.1.1.1.1.1.1.0)

  pub results-most : (results_main f 0 ≤ greatest_main f 0) × (results_ptr f 0 ≤ greatest_ptr f 0)
  unfolding head_tests
  results-most = let H = L.formed.heads 0 some in (H.1.0, H.1.1.1.0)

  -- where the instruction at p leads: `agrees`, and `targets` and `nexts` for its procedure
  pub handed-on : (p q : ℕ) (t : State) → is_ins f p ≡ true → Passes f (assigned map) p q t → Is f map q (proc_at f p) t
  unfolding is_ins
  handed-on p q t h P =
      let F = rules p h in
      let e = F.agrees q t P in
      let M = moves f p _ _ (record { targets = F.targets; nexts = F.nexts; depths = F.depths; leaves = F.leaves }) q t P in
      record {
        here = in-member q (instructions f) M.there;
        proc = M.same_proc;
        main = ap (λ s. s.main) e;
        ptr = ap (λ s. s.ptr) e;
        inner = ap (λ s. s.inner) e;
      }

  pub leads-on : (p : ℕ) (i : Ins) (q : ℕ) (t : State) → is_ins f p ≡ true → ins_at f p ≡ i →
      Mem (q, t) (passes f p i (assigned map p) (innermost (assigned map) (assigned map p))) → Is f map q (proc_at f p) t
  leads-on p i q t h e P = handed-on p q t h (rw e P)

  -- what an instruction pops is there: `depths`
  pub pops : (p : ℕ) (i : Ins) → is_ins f p ≡ true → ins_at f p ≡ i →
      ((effect_of f i).pop_main ≤ main_at map p) × ((effect_of f i).pop_ptr ≤ ptr_at map p)
  unfolding depth_tests
  pops p i h e = let D = rw e at (rules p h).depths in (taken-most _ _ _ D.0, taken-most _ _ _ D.1.0)

  -- a call: its callee's entry, what it takes, and the place behind it
  pub record CallSite (p n : ℕ) : Type 0 where
    pub enters : Is f map (entry f n) n (state (params_main f n) (params_ptr f n) none)
    pub main_takes : params_main f n ≤ main_at map p
    pub ptr_takes : params_ptr f n ≤ ptr_at map p
    pub gives : Is f map (after f p) (proc_at f p)
        (state (main_at map p - params_main f n + results_main f n) (ptr_at map p - params_ptr f n + results_ptr f n) (inner_at map p))

  pub at_call : (p n : ℕ) → is_ins f p ≡ true → ins_at f p ≡ call n → CallSite p n
  unfolding passes target_tests effect_of
  at_call p n h e =
      let T = rw e at (rules p h).targets in
      let k = pops p (call n) h e in
      record {
        enters = at_entry n T.0;
        main_takes = k.0;
        ptr_takes = k.1;
        gives = leads-on p (call n) (after f p) _ h e (inl refl);
      }

  -- a return, a 161: `leaves`
  pub at_return : (p : ℕ) → is_ins f p ≡ true → ins_at f p ≡ return →
      Is f map p (proc_at f p) (state (results_main f (proc_at f p)) (results_ptr f (proc_at f p)) none)
  unfolding leave_tests
  at_return p h e =
      let T = rw e at (rules p h).leaves in
      record { here = h; proc = refl; main = T.0; ptr = T.1.0; inner = T.1.1.0 }

  -- a 160: the handler is open behind it; at its target it is closed, with one main word more
  pub record OpenSite (p s : ℕ) : Type 0 where
    pub behind : Is f map (after f p) (proc_at f p) (state (main_at map p) (ptr_at map p) p)
    pub target : Is f map (handler_at f p s) (proc_at f p) (state (main_at map p + 1) (ptr_at map p) (inner_at map p))

  pub at-enter : (p s : ℕ) → is_ins f p ≡ true → ins_at f p ≡ enter s → OpenSite p s
  unfolding passes
  at-enter p s h e =
      record {
        behind = leads-on p (enter s) (after f p) _ h e (inl refl);
        target = leads-on p (enter s) (handler_at f p s) _ h e (inr (inl refl));
      }

  pub at_exit : (p : ℕ) → is_ins f p ≡ true → ins_at f p ≡ exit →
      (inner_at map p ≢ none) × Is f map (after f p) (proc_at f p) (state (main_at map p) (ptr_at map p) (inner_at map (inner_at map p)))
  unfolding passes leave_tests
  at_exit p h e =
      let T = rw e at (rules p h).leaves in
      let u : eqb (inner_at map p) none ≡ false = not-true _ T.0 in
      (eqb-false (inner_at map p) none u, leads-on p exit (after f p) _ h e (inl (rw u)))

  -- the innermost open handler is a 160's, of the same procedure and below the place: `third`
  pub record InnerSite (p : ℕ) : Type 0 where
    pub here : is_ins f (inner_at map p) ≡ true
    pub opens : OpenSite (inner_at map p) (operand f (inner_at map p))
    pub proc : proc_at f (inner_at map p) ≡ proc_at f p
    pub below : inner_at map p < p

  pub inner-opens : (p : ℕ) → is_ins f p ≡ true → inner_at map p ≢ none → InnerSite p
  unfolding is_ins
  inner-opens p h n = go (L.shape p (there p h)).third
    where
      go : OpenHandler f p (inner_at map p) → InnerSite p
      go (inl e) = absurd (n e)
      go (inr O) =
          let k = in-member (inner_at map p) (instructions f) O.0.there in
          record {
            here = k;
            opens = at-enter (inner_at map p) _ k (byte-enter f (inner_at map p) O.0.opens);
            proc = O.0.same_proc;
            below = O.1;
          }
