-- A place is an instruction of procedure n exactly when it lies behind head n, before that procedure's end, and the map has a depth
-- for it: heads rise, and a passed file's map has 65,535 where no instruction starts.
use Rattle.std.specs.Prelude.{ℕ, ◌+◌, ◌<◌, ◌≤◌, Bool, ◌&&◌, List, ◌≡◌, length, get_or}
use Rattle.std.proofs.Math.Bool.{true, false, not}
use Rattle.std.proofs.Common.{true≢false, sym, ◌∙◌, arith}
use Rattle.std.proofs.Math.Path.{refl, ap}
use Rattle.std.proofs.Math.Dec.{eqb}
use Rattle.std.proofs.Props.{props}
use mathlib.Core.HLevel.{Σ_prop_path}
use borrow.Author.Tests.{lt-ltb, le-ltb, eq-eqb, ne_eqb, eqb-true}
use Rattle.model.specs.Choice.{Mem, member}
use Rattle.model.specs.File.{instructions, procs, head_of, proc_at, records_of, starts, starts_in, params_main, params_ptr, results_main, results_ptr, greatest_main, greatest_ptr}
use Rattle.model.specs.Checker.{none, State}
use Rattle.model.specs.Sound.{main_at, ptr_at, inner_at, is_ins}
use Rattle.model.specs.Calls.{pass, verdict_of}
use Rattle.model.specs.Claim.{Bytes}
use Rattle.laws.specs.Members.{member-in, in-member}
use Rattle.laws_file.specs.Walk.{procs-some, proc-below}
use Rattle.laws_file.specs.Procedures.{end_of, head_whole, end_low, own-head, own-end, between}
use Rattle.theory_checker.proofs.Exact.{passed-as, passed-shape, passed-rest}
use Rattle.code_file.specs.declared.Head.{Head}
use Rattle.code_file.specs.Heads.{HeadIs, proc_head, head-of}
use Rattle.check_scan.specs.Heading.{Placed}
use Rattle.numbers.specs.Small.{Small}
use Rattle.audit_places.specs.declared.Shown.{Shown}

-- a file whose records are whole, with the table of its k heads
pub record Tabled (f table : List ℕ) (k : ℕ) : Type 0 where
  pub places : List ℕ
  pub records : records_of f ≡ starts places
  pub placed : Placed f table k

-- a map that has 65,535 where no instruction starts
abbrev pub MapShows : List ℕ → List ℕ → Type 0
MapShows f map = (p : ℕ) → p < length f → eqb (main_at map p) none ≡ not (is_ins f p)

-- both: what the audit goes by
pub record AuditReady (f map table : List ℕ) (k : ℕ) : Type 0 where
  pub heads : Tabled f table k
  pub shows : MapShows f map

module _ (f table : List ℕ) (k : ℕ) where
  -- the rest about the list of places
  abbrev Whole : List ℕ → Type 0
  Whole ps = (records_of f ≡ starts ps) × Placed f table k

  whole_prop : (ps : List ℕ) → IsProp (Whole ps)
  whole_prop ps = hlevel props

  -- there is one list of places
  tabled_prop : IsProp (Tabled f table k)
  tabled_prop x y =
      let e = Σ_prop_path {B = Whole} whole_prop {u = (x.places, (x.records, x.placed))} {v = (y.places, (y.records, y.placed))}
      (ap starts_in (sym x.records ∙ y.records)) in
      ap (λ (w : (ps : List ℕ) × Whole ps). record { places = w.0; records = w.1.0; placed = w.1.1 }) e

-- so that a type can have this fact
pub ready_prop : (f map table : List ℕ) (k : ℕ) → IsProp (AuditReady f map table k)
ready_prop f map table k = hlevel (tabled_prop f table k, props)

-- a file that passed is ready, with the finished map
pub passed-ready : (f map₀ map table : List ℕ) (k : ℕ) → Bytes f → verdict_of f map₀ ≡ pass map → Placed f table k → AuditReady f map table k
unfolding is_ins greatest_main
passed-ready f map₀ map table k B e P =
    let W = (passed-as f map₀ map e).formed in
    record {
      heads = record { places = W.places; records = W.records; placed = P };
      shows = λ p l. shows p l (member p (instructions f)) refl;
    }
  where
    shows : (p : ℕ) → p < length f → (t : Bool) → member p (instructions f) ≡ t → eqb (main_at map p) none ≡ not (member p (instructions f))
    shows p l true w =
        let S = (passed-shape f map₀ B map e p (member-in p (instructions f) w)).within.0 in
        let b = B (head_of f (proc_at f p) + 5) in
        rw w (ne_eqb (main_at map p) none (omega arith))
    shows p l false w =
        let n : Mem p (instructions f) → ⊥ = λ m. true≢false (sym (in-member p (instructions f) m) ∙ w) in
        let s = ap (λ (x : State). x.main) (passed-rest f map₀ B map e p l n) in
        rw w (eq-eqb (main_at map p) none s)

-- the map's three numbers at a place
pub record ShownAt (map : List ℕ) (p : ℕ) (s : Shown) : Type 0 where
  pub main : Small 65536 (main_at map p) s.main
  pub ptr : Small 65536 (ptr_at map p) s.ptr
  pub inner : Small 65536 (inner_at map p) s.inner

-- an instruction of procedure n starts at p
unfoldable pub in_proc : List ℕ → ℕ → ℕ → Bool
in_proc f n p = is_ins f p && eqb n (proc_at f p)

pub in-proc-true : (f : List ℕ) (n p : ℕ) → in_proc f n p ≡ true → (is_ins f p ≡ true) × (n ≡ proc_at f p)
unfolding in_proc
in-proc-true f n p e = go (is_ins f p) (eqb n (proc_at f p)) refl e
  where
    go : (t u : Bool) → eqb n (proc_at f p) ≡ u → (t && u) ≡ true → (t ≡ true) × (n ≡ proc_at f p)
    go true true w e = (refl, eqb-true n (proc_at f p) w)
    go true false w e = absurd (true≢false (sym e))
    go false u w e = absurd (true≢false (sym e))

module _ (f ps : List ℕ) (e : records_of f ≡ starts ps) where
  -- what is no instruction of procedure n
  out : (n p : ℕ) → (Mem p (instructions f) → n ≡ proc_at f p → ⊥) → false ≡ in_proc f n p
  unfolding in_proc is_ins
  out n p h = go (member p (instructions f)) (eqb n (proc_at f p)) refl refl
    where
      go : (t u : Bool) → member p (instructions f) ≡ t → eqb n (proc_at f p) ≡ u → false ≡ (t && u)
      go true true w v = absurd (h (member-in p (instructions f) w) (eqb-true n (proc_at f p) v))
      go true false w v = refl
      go false u w v = refl

module _ (f table : List ℕ) (k n : ℕ) (P : Placed f table k) where
  head-here : n < k → get_or table n 0 ≡ head_of f n
  head-here h = let a = P.few in P.heads n (omega arith)

  pub table-end : n + 1 < k → get_or table (n + 1) 0 ≡ end_of f (n + 1)
  unfolding end_of
  table-end h =
      let a = P.few in
      let b = P.count in
      P.heads (n + 1) (omega arith) ∙ rw (lt-ltb (n + 1) (procs f) (omega arith))

  pub file-end : k ≤ n + 1 → length f ≡ end_of f (n + 1)
  unfolding end_of
  file-end h = let b = P.count in rw (le-ltb (n + 1) (procs f) (omega arith))

module _ (f map table : List ℕ) (k : ℕ) (R : AuditReady f map table k) (n p : ℕ) where
  abbrev T : Tabled f table k
  T = R.heads

  pub within_none : k ≤ n → false ≡ in_proc f n p
  within_none h =
      out f T.places T.records n p
      (λ m e. let a = proc-below f T.places T.records p in let b = T.placed.count in omega arith)

  pub within_low : n < k → p ≤ get_or table n 0 → false ≡ in_proc f n p
  within_low h l =
      out f T.places T.records n p
      (λ m e. let a = own-head f T.places T.records p m in let b = head-here f table k n T.placed h ∙ ap (head_of f) e in omega arith)

  pub within-high : end_of f (n + 1) ≤ p → false ≡ in_proc f n p
  within-high l =
      out f T.places T.records n p
      (λ m e. let a = own-end f T.places T.records p m in let b = ap (λ (i : ℕ). end_of f (i + 1)) e in omega arith)

  pub within-here : n < k → get_or table n 0 < p → p < end_of f (n + 1) → not (eqb (main_at map p) none) ≡ in_proc f n p
  unfolding in_proc
  within-here h a b =
      let c = T.placed.count in
      let d = head-here f table k n T.placed h in
      let w = between f T.places T.records n p (omega arith) (omega arith) b in
      let l = end_low f T.places T.records (n + 1) in
      rw (R.shows p (omega arith), w, eq-eqb n n refl) (go (is_ins f p))
    where
      go : (t : Bool) → not (not t) ≡ (t && true)
      go true = refl
      go false = refl

-- the head of procedure n
pub record HeadFor (f : List ℕ) (n : ℕ) (v : Head) : Type 0 where
  pub a_is : v.a ≡ params_main f n
  pub b_is : v.b ≡ params_ptr f n
  pub r_is : v.r ≡ results_main f n
  pub s_is : v.s ≡ results_ptr f n
  pub x_is : v.x ≡ greatest_main f n
  pub y_is : v.y ≡ greatest_ptr f n
  pub a_small : v.a < 256
  pub b_small : v.b < 256
  pub x_small : v.x < 256
  pub y_small : v.y < 256

module _ (f table : List ℕ) (k : ℕ) (T : Tabled f table k) (n : ℕ) where
  pub head-inside : n < k → get_or table n 0 + 6 < length f
  head-inside h =
      let a = head-here f table k n T.placed h in
      let w = head_whole f T.places T.records n in
      omega arith

  pub head-for : (v : Head) → n < k → HeadIs f (get_or table n 0) v → HeadFor f n v
  unfolding proc_head
  head-for v h H =
      let e = H.is ∙ head-of f n (get_or table n 0) (head-here f table k n T.placed h) in
      record {
        a_is = ap (λ (x : Head). x.a) e;
        b_is = ap (λ (x : Head). x.b) e;
        r_is = ap (λ (x : Head). x.r) e;
        s_is = ap (λ (x : Head). x.s) e;
        x_is = ap (λ (x : Head). x.x) e;
        y_is = ap (λ (x : Head). x.y) e;
        a_small = H.a_small;
        b_small = H.b_small;
        x_small = H.x_small;
        y_small = H.y_small;
      }

  pub in-proc-below : (p : ℕ) → in_proc f n p ≡ true → n < k
  in-proc-below p e =
      let a = (in-proc-true f n p e).1 in
      let b = proc-below f T.places T.records p in
      let c = T.placed.count in
      omega arith

pub some-proc : (f table : List ℕ) (k : ℕ) → Tabled f table k → 0 < k
some-proc f table k T = let a = procs-some f T.places T.records in let c = T.placed.count in omega arith
