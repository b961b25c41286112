-- The checker's pass over a file keeps the laws of a forward pass, so that its states are those of the one assignment that keeps
-- the rules; and an assignment that keeps them has depths within its procedure's and open handlers below their places,
-- because each state comes from an earlier instruction of the same procedure.
use Prim.Native.Nat.{ℕ, zero, suc, ◌+◌, ◌-◌, ◌<◌, ◌≤◌}
use Rattle.std.specs.Prelude.{Bool, ◌&&◌, List, [], ◌∷◌, ◌⊎◌, ◌≡◌}
use Rattle.std.proofs.Math.Bool.{true, false}
use Rattle.std.proofs.Common.{true≢false, inr, sym, ◌∙◌, subst, arith}
use Rattle.std.proofs.Math.Logic.{inl}
use Rattle.std.proofs.Math.Path.{refl, ap}
use Rattle.std.proofs.Math.Decide.{ℕ_discrete}
use Rattle.std.proofs.Math.Dec.{eqb}
use borrow.Author.Tests.{eqb-true, eqb-false, ne_eqb}
use Rattle.model.specs.Choice.{when◌then◌else◌, all, All, all_true, true-all, Mem, member}
use Rattle.model.specs.File.{Ins, basic, jump, branch, branch_keep, call, return, enter, exit, raise, ins_at, starts, records_of, procs}
use Rattle.model.specs.File.{head_of, entry, proc_at, instructions, params_main, greatest_main, head_tests}
use Rattle.model.specs.Checker.{none, State, state, unset, is_set, Known, state_at, first, firsts, Effect, effect, basic_effect, effect_of, moved}
use Rattle.model.specs.Checker.{floor_tests, goes_on, passes, own, target_tests, next_tests, depth_tests, leave_tests, Taking, good, passed, need, pass_all}
use Rattle.model.specs.Checker.{take_with, take_one, take_all, flow}
use Rattle.model.specs.Rules.{Assignment, Opens, Fine, First, Got, Keeps}
use Rattle.model.specs.Claim.{Bytes}
use Rattle.theory_checker.specs.Pass as Pass
use Rattle.theory_checker.specs.Pass.{go_on-inv, Set, Sent, Linked, innermost-none, innermost_at, Places, unset-at, Code, Taken, Laws, PassRan}
use Rattle.theory_checker.specs.Pass.{pass-ran, ran-places, PassFound, pass-found}
use Rattle.laws.specs.Choices.{both_true}
use Rattle.laws.specs.Members.{member-in}
use Rattle.laws_file.specs.Codes.{enter-byte}
use Rattle.laws_file.specs.Procedures.{DepthsWithin}
use Rattle.laws_file.specs.Walk.{HeadsHold, instructions-rise, entry_in, entry-proc}
use Rattle.theory_checker.specs.Flow.{TestsHold, DepthsFrom, InnerFrom, High, Moves, OpenHandler, StateShape}

-- n words popped of a stack of depth d, which is not below the floor a, and m pushed
floor-kept : (n m a d : ℕ) → (when eqb n 0 then 0 else a + n) ≤ d → a ≤ d → a ≤ d - n + m
floor-kept n m a d h l = go (eqb n 0) refl h
  where
    go : (t : Bool) → eqb n 0 ≡ t → (when t then 0 else a + n) ≤ d → a ≤ d - n + m
    go true z k = let w = eqb-true n 0 z in omega arith
    go false z k = omega arith

moved-high : (e : Effect) (s o : State) → All (floor_tests e s o) → High s o (moved e s)
moved-high e s o T =
    record {
      main = floor-kept e.pop_main e.push_main o.main s.main T.0;
      ptr = floor-kept e.pop_ptr e.push_ptr o.ptr s.ptr T.1.0;
      alike = inl refl;
    }

same-high : (s o : State) (i : ℕ) → High s o (state s.main s.ptr i)
same-high s o i = record { main = λ h. h; ptr = λ h. h; alike = inr (refl, refl) }

pub own-in : (f : List ℕ) (p q : ℕ) → own f p q ≡ true → Mem q (instructions f) × (proc_at f q ≡ proc_at f p)
unfolding own
own-in f p q e =
    let a = both_true (member q (instructions f)) (eqb (proc_at f q) (proc_at f p)) e in
    (member-in q (instructions f) a.0, eqb-true (proc_at f q) (proc_at f p) a.1)

module _ (f : List ℕ) (p : ℕ) (s o : State) where
  moves-to : (q r : ℕ) (u t : State) → own f p r ≡ true → DepthsFrom f p s t → InnerFrom f p s o t → High s o t → ◌≡◌ {A = ℕ × State} (q, u) (r, t) → Moves f p s o q u
  moves-to q r u t w d i h e =
      let a = own-in f p r w in
      subst (λ (x : ℕ × State). Moves f p s o x.0 x.1) (sym e) (record { there = a.0; same_proc = a.1; depths = d; inner = i; high = h })

  moves-by : (i : Ins) → ins_at f p ≡ i → All (target_tests f p i) → All (next_tests f p i) → All (depth_tests f p i s o) →
      (q : ℕ) (u : State) → Sent q u (passes f p i s o) → Moves f p s o q u
  unfolding target_tests next_tests depth_tests goes_on effect_of passes
  moves-by (basic b) e t n d q u (inl h) =
      moves-to q _ u _ n.0 (inl (d.1.1.0, d.1.1.1.0)) (inl refl) (moved-high (basic_effect b) s o (d.0, (d.1.0, tt))) h
  moves-by (jump r) e t n d q u (inl h) = moves-to q _ u _ t.0 (inr (refl, refl)) (inl refl) (same-high s o s.inner) h
  moves-by (branch b r) e t n d q u (inl h) =
      moves-to q _ u _ n.0 (inl (d.1.1.0, d.1.1.1.0)) (inl refl) (moved-high (effect 1 0 0 0) s o (d.0, (d.1.0, tt))) h
  moves-by (branch b r) e t n d q u (inr (inl h)) =
      moves-to q _ u _ t.0 (inl (d.1.1.0, d.1.1.1.0)) (inl refl) (moved-high (effect 1 0 0 0) s o (d.0, (d.1.0, tt))) h
  moves-by (branch_keep b r) e t n d q u (inl h) =
      moves-to q _ u _ n.0 (inl (d.1.1.0, d.1.1.1.0)) (inl refl) (moved-high (effect 1 0 0 0) s o (d.0, (d.1.0, tt))) h
  moves-by (branch_keep b r) e t n d q u (inr (inl h)) = moves-to q _ u _ t.0 (inr (refl, refl)) (inl refl) (same-high s o s.inner) h
  moves-by (call m) e t n d q u (inl h) =
      moves-to q _ u _ n.0 (inl (d.1.1.0, d.1.1.1.0)) (inl refl) (moved-high (effect_of f (call m)) s o (d.0, (d.1.0, tt))) h
  moves-by return e t n d q u h = absurd h
  moves-by (enter m) e t n d q u (inl h) =
      moves-to q _ u _ n.0 (inr (refl, refl)) (inr (inl (refl, enter-byte f p m e))) (same-high s o p) h
  moves-by (enter m) e t n d q u (inr (inl h)) =
      let y = d.1.1.1.0 in
      moves-to q _ u _ t.0 (inl (d.1.1.1.1.0, omega arith)) (inl refl)
      (record { main = λ l. omega arith; ptr = λ l. l; alike = inl refl }) h
  moves-by exit e t n d q u (inl h) = moves-to q _ u _ n.0 (inr (refl, refl)) (inr (inr refl)) (same-high s o o.inner) h
  moves-by raise e t n d q u h = absurd h
  moves-by (basic b) e t n d q u (inr x6) = elim x6 [ ]
  moves-by (jump r) e t n d q u (inr x7) = elim x7 [ ]
  moves-by (branch b r) e t n d q u (inr (inr x9)) = elim x9 [ ]
  moves-by (branch_keep b r) e t n d q u (inr (inr x10)) = elim x10 [ ]
  moves-by (call m) e t n d q u (inr x10) = elim x10 [ ]
  moves-by (enter m) e t n d q u (inr (inr x12)) = elim x12 [ ]
  moves-by exit e t n d q u (inr x12) = elim x12 [ ]

  pub moves : TestsHold f p s o → (q : ℕ) (u : State) → Sent q u (passes f p (ins_at f p) s o) → Moves f p s o q u
  moves F = moves-by (ins_at f p) refl F.targets F.nexts F.depths

need-inv : (t : Bool) (n : ℕ) (c : Taking Known) (k : Known) → need t n c ≡ good k → (t ≡ true) × (c ≡ good k)
need-inv true n c k e = (refl, e)
need-inv false n c k e = (cc, cc)

-- the checker's pass
abbrev code : List ℕ → Code
code f =
    record {
      Meets = TestsHold f;
      sends = λ p. passes f p (ins_at f p);
      step = take_one f;
      run = take_all f;
    }

-- what is done from each test of an instruction on
abbrev from9 : List ℕ → ℕ → Known → Taking Known
from9 f p k = pass_all (passes f p (ins_at f p) (state_at k p) (innermost_at (state_at k) p)) k

abbrev from8 : List ℕ → ℕ → Known → Taking Known
from8 f p k = need (all (leave_tests f p (ins_at f p) (state_at k p))) 8 (from9 f p k)

abbrev from7 : List ℕ → ℕ → Known → Taking Known
from7 f p k = need (all (depth_tests f p (ins_at f p) (state_at k p) (innermost_at (state_at k) p))) 7 (from8 f p k)

abbrev from6 : List ℕ → ℕ → Known → Taking Known
from6 f p k = need (is_set (state_at k p) && all (next_tests f p (ins_at f p))) 6 (from7 f p k)

taken_step : (f : List ℕ) (p : ℕ) (k k' : Known) → Taken (code f) p k k' → take_one f p k ≡ good k'
unfolding take_one take_with
taken_step f p k k' T =
    let F = T.fits in
    rw (
      true-all (target_tests f p (ins_at f p)) F.targets,
      T.set,
      true-all (next_tests f p (ins_at f p)) F.nexts,
      true-all (depth_tests f p (ins_at f p) (state_at k p) (innermost_at (state_at k) p)) F.depths,
      true-all (leave_tests f p (ins_at f p) (state_at k p)) F.leaves,
    )
    T.puts

step_taken : (f : List ℕ) (p : ℕ) (k k' : Known) → take_one f p k ≡ good k' → Taken (code f) p k k'
unfolding take_one take_with
step_taken f p k k' e =
    let i = ins_at f p in
    let s = state_at k p in
    let o = innermost_at (state_at k) p in
    let a = need-inv (all (target_tests f p i)) 5 (from6 f p k) k' e in
    let b = need-inv (is_set s && all (next_tests f p i)) 6 (from7 f p k) k' a.1 in
    let n = both_true (is_set s) (all (next_tests f p i)) b.0 in
    let c = need-inv (all (depth_tests f p i s o)) 7 (from8 f p k) k' b.1 in
    let d = need-inv (all (leave_tests f p i s)) 8 (from9 f p k) k' c.1 in
    record {
      set = n.0;
      fits =
          record {
            targets = all_true (target_tests f p i) a.0;
            nexts = all_true (next_tests f p i) n.1;
            depths = all_true (depth_tests f p i s o) c.0;
            leaves = all_true (leave_tests f p i s) d.0;
          };
      puts = d.1;
    }

-- past refusal 5 the targets are right
pub taken-targets : (f ps : List ℕ) (k k' : Known) → take_all f ps k ≡ passed k' → (p : ℕ) → Mem p ps → All (target_tests f p (ins_at f p))
unfolding take_all
taken-targets f (q ∷ ps) k k' e p m =
    let b = go_on-inv q (take_one f q k) (take_all f ps) k' e in
    go (step_taken f q k b.0 b.1) (taken-targets f ps b.0 k' b.2 p) m
  where
    go : {k'' : Known} → Taken (code f) q k k'' → (Mem p ps → All (target_tests f p (ins_at f p))) → Mem p (q ∷ ps) →
        All (target_tests f p (ins_at f p))
    go T r (inl z) = rw z T.fits.targets
    go T r (inr h) = r h
taken-targets f [] k k' e p m = elim m [ ]

-- a state with a byte for its main depth is known
byte-set : (s : State) → s.main < 256 → Set s
byte-set s h = rw (ne_eqb s.main none (λ e. omega arith))

sent_set : (f : List ℕ) → Bytes f → (p : ℕ) (s o : State) (q : ℕ) (u : State) → Set s → TestsHold f p s o →
    Sent q u (passes f p (ins_at f p) s o) → Set u
unfolding greatest_main
sent_set f B p s o q u h F m = go (moves f p s o F q u m).depths
  where
    go : DepthsFrom f p s u → Set u
    go (inl d) = byte-set u (omega (arith, d.0, B (head_of f (proc_at f p) + 5)))
    go (inr d) = rw d.0 h

sent_inner : (f : List ℕ) (p : ℕ) (s o : State) (q : ℕ) (u : State) → TestsHold f p s o → Sent q u (passes f p (ins_at f p) s o) →
    (u.inner ≡ s.inner) ⊎ ((u.inner ≡ p) ⊎ (u.inner ≡ o.inner))
sent_inner f p s o q u F m = go (moves f p s o F q u m).inner
  where
    go : InnerFrom f p s o u → (u.inner ≡ s.inner) ⊎ ((u.inner ≡ p) ⊎ (u.inner ≡ o.inner))
    go (inl e) = inl e
    go (inr (inl e)) = inr (inl e.0)
    go (inr (inr e)) = inr (inr e)

laws : (f : List ℕ) → Bytes f → Laws (code f)
unfolding take_all
laws f B =
    record {
      step_taken = step_taken f;
      taken_step = taken_step f;
      run_none = λ k. refl;
      run_more = λ p ps k. refl;
      sent_set = sent_set f B;
      sent_inner = sent_inner f;
    }

-- the states known at the beginning are those of the first instructions
firsts-inner : (f : List ℕ) (n q : ℕ) → (state_at (firsts f n) q).inner ≡ none
unfolding firsts
firsts-inner f zero q = refl
firsts-inner f (suc n) q = go (eqb q (entry f n)) (firsts-inner f n q)
  where
    go : (t : Bool) → (state_at (firsts f n) q).inner ≡ none → (when t then (first f n).1 else state_at (firsts f n) q).inner ≡ none
    go true e = refl
    go false e = e

firsts-from : (f : List ℕ) (n q : ℕ) → Set (state_at (firsts f n) q) → (m : ℕ) × (m < n) × (q ≡ entry f m)
unfolding firsts
firsts-from f zero q h = absurd (true≢false (sym h))
firsts-from f (suc n) q h = go (eqb q (entry f n)) refl (firsts-from f n q) h
  where
    go : (t : Bool) → eqb q (entry f n) ≡ t → (Set (state_at (firsts f n) q) → (m : ℕ) × (m < n) × (q ≡ entry f m)) →
        Set (when t then (first f n).1 else state_at (firsts f n) q) → (m : ℕ) × (m < suc n) × (q ≡ entry f m)
    go true e r h = (n, omega arith, eqb-true q (entry f n) e)
    go false e r h = let w = r h in (w.0, let a = w.1 in omega arith, w.2)

-- a file of bytes whose records and heads pass
module _ (f ps : List ℕ) (B : Bytes f) (e : records_of f ≡ starts ps) (H : HeadsHold f) where
  entry-once : (n m : ℕ) → n < procs f → m < procs f → entry f n ≡ entry f m → n ≡ m
  entry-once n m a b h = sym (entry-proc f ps e n a (H n a)) ∙ ap (proc_at f) h ∙ entry-proc f ps e m b (H m b)

  firsts_at : (k n : ℕ) → k ≤ procs f → n < k → state_at (firsts f k) (entry f n) ≡ (first f n).1
  unfolding firsts
  firsts_at zero n l h = absurd (omega arith)
  firsts_at (suc k) n l h = go (eqb (entry f n) (entry f k)) refl (firsts_at k n (omega arith))
    where
      go : (t : Bool) → eqb (entry f n) (entry f k) ≡ t → (n < k → state_at (firsts f k) (entry f n) ≡ (first f n).1) →
          (when t then (first f k).1 else state_at (firsts f k) (entry f n)) ≡ (first f n).1
      go true w r =
          let z : n ≡ k = entry-once n k (omega arith) (omega arith) (eqb-true (entry f n) (entry f k) w) in
          ap (λ (x : ℕ). (first f x).1) (sym z)
      go false w r = r (omega (arith, other))
        where
          other : n ≡ k → ⊥
          other z = eqb-false (entry f n) (entry f k) w (ap (entry f) z)

  first-set : (n : ℕ) → Set (first f n).1
  unfolding params_main
  first-set n = byte-set (first f n).1 (B (head_of f n + 1))

  -- the rules without what they say of third numbers
  record Rules (A : Assignment) : Type 0 where
    enters : (n : ℕ) → n < procs f → A (entry f n) ≡ (first f n).1
    fine : (p : ℕ) → Mem p (instructions f) → Fine f A p
    got : (q : ℕ) → Mem q (instructions f) → First f q ⊎ Got f A q

  fits : (A : Assignment) (p : ℕ) → Fine f A p → TestsHold f p (A p) (innermost_at A p)
  fits A p F = record { targets = F.targets; nexts = F.nexts; depths = F.depths; leaves = F.leaves }

  -- from them it follows that depths lie within the procedure's, and that a third number is a 160 of the procedure, below
  shape : (A : Assignment) → Rules A → (n q : ℕ) → q < n → Mem q (instructions f) → StateShape f A q
  unfolding head_tests
  shape A R zero q l m = absurd (omega arith)
  shape A R (suc n) q l m = go (λ p b. shape A R n p (omega arith)) (R.got q m)
    where
      go : ((p : ℕ) → p < q → Mem p (instructions f) → StateShape f A p) → First f q ⊎ Got f A q → StateShape f A q
      go r (inl w) = rw w.is started
        where
          h : All (head_tests f w.number)
          h = H w.number w.below

          started : StateShape f A (entry f w.number)
          started =
              record {
                within = rw (R.enters w.number w.below, entry-proc f ps e w.number w.below h) (h.0, h.1.1.0);
                third = inl (ap (λ (x : State). x.inner) (R.enters w.number w.below));
              }
      go r (inr g) = record { within = near M.depths; third = opened M.inner }
        where
          p : ℕ
          p = g.from

          M : Moves f g.from (A g.from) (innermost_at A g.from) q (A q)
          M = moves f p (A p) (innermost_at A p) (fits A p (R.fine p g.there)) q (A q) g.state_is

          P : StateShape f A g.from
          P = r p g.earlier g.there

          near : DepthsFrom f g.from (A g.from) (A q) → DepthsWithin f q (A q)
          near (inl d) = rw M.same_proc d
          near (inr d) = rw (M.same_proc, d.0, d.1) P.within

          -- a handler that is open at an earlier place of the procedure
          still : (i : ℕ) → i < q → proc_at f q ≡ proc_at f i → StateShape f A i → (h : ℕ) → h ≡ (A i).inner → OpenHandler f q h
          still i l s S h e = pick S.third
            where
              pick : OpenHandler f i (A i).inner → OpenHandler f q h
              pick (inl z) = inl (e ∙ z)
              pick (inr z) =
                  rw e
                  (inr (record { there = z.0.there; opens = z.0.opens; same_proc = z.0.same_proc ∙ sym s }, omega (arith, z.1)))

          opened : InnerFrom f g.from (A g.from) (innermost_at A g.from) (A q) → OpenHandler f q (A q).inner
          opened (inl z) = still p g.earlier M.same_proc P (A q).inner z
          opened (inr (inl z)) =
              rw z.0 (inr (record { there = g.there; opens = z.1; same_proc = sym M.same_proc }, g.earlier))
          opened (inr (inr z)) = outside P.third
            where
              none_open : (A p).inner ≡ none → OpenHandler f q (A q).inner
              none_open w = inl (z ∙ ap (λ (x : State). x.inner) (innermost-none A (A p) w))

              outside : OpenHandler f p (A p).inner →
                  OpenHandler f q (A q).inner
              outside (inl w) = none_open w
              outside (inr w) = pick (ℕ_discrete (A p).inner none)
                where
                  below : (A p).inner < q
                  below = omega (arith, w.1, g.earlier)

                  pick : Dec ((A p).inner ≡ none) → OpenHandler f q (A q).inner
                  pick (yes x) = none_open x
                  pick (no x) =
                      still (A p).inner below (M.same_proc ∙ sym w.0.same_proc) (r (A p).inner below w.0.there) (A q).inner
                      (z ∙ rw (ne_eqb (A p).inner none x))

  kept : (A : Assignment) → Rules A → Keeps f A
  kept A R =
      record {
        third = λ p m. opens (shape A R (suc p) p (omega arith) m).third;
        enters = R.enters;
        fine = R.fine;
        got = R.got;
      }
    where
      opens : {p h : ℕ} → OpenHandler f p h → (h ≡ none) ⊎ Opens f p h
      opens (inl z) = inl z
      opens (inr z) = inr z.0

  rules : (A : Assignment) → Keeps f A → Rules A
  rules A K = record { enters = K.enters; fine = K.fine; got = K.got }

  pub keeps-shape : (A : Assignment) → Keeps f A → (q : ℕ) → Mem q (instructions f) → StateShape f A q
  keeps-shape A K q = shape A (rules A K) (suc q) q (omega arith)

  -- an assignment is as good as another that has the same states at the instructions
  pub keeps_same : (A Z : Assignment) → ((p : ℕ) → Mem p (instructions f) → A p ≡ Z p) → Keeps f A → Keeps f Z
  keeps_same A Z w K = kept Z (record { enters = start; fine = λ p m. good p m; got = λ q m. came q m (K.got q m) })
    where
      start : (n : ℕ) → n < procs f → Z (entry f n) ≡ (first f n).1
      start n l = sym (w (entry f n) (entry_in f ps e n (H n l))) ∙ K.enters n l

      same-outer : (p : ℕ) → Mem p (instructions f) → innermost_at A p ≡ innermost_at Z p
      same-outer p m = pick (K.third p m)
        where
          pick : ((A p).inner ≡ none) ⊎ Opens f p (A p).inner → innermost_at A p ≡ innermost_at Z p
          pick (inl z) = rw (← (w p m)) (innermost-none A (A p) z ∙ sym (innermost-none Z (A p) z))
          pick (inr o) = rw (← (w p m), w (A p).inner o.there)

      same-passes : (p : ℕ) → Mem p (instructions f) →
          passes f p (ins_at f p) (A p) (innermost_at A p) ≡ passes f p (ins_at f p) (Z p) (innermost_at Z p)
      same-passes p m = let a = w p m in let b = same-outer p m in cc

      good : (p : ℕ) → Mem p (instructions f) → Fine f Z p
      good p m =
          let F = K.fine p m in
          record {
            targets = F.targets;
            nexts = F.nexts;
            depths = rw (same-outer p m, w p m) at F.depths;
            leaves = rw (w p m) at F.leaves;
            agrees = λ q t h.
                let s : Sent q t (passes f p (ins_at f p) (A p) (innermost_at A p)) = rw (same-passes p m) h in
                sym (w q (moves f p (A p) (innermost_at A p) (fits A p F) q t s).there) ∙ F.agrees q t s;
          }

      came : (q : ℕ) → Mem q (instructions f) → First f q ⊎ Got f A q → First f q ⊎ Got f Z q
      came q m (inl x) = inl x
      came q m (inr g) =
          inr
          (record {
            from = g.from;
            there = g.there;
            earlier = g.earlier;
            state_is = rw (w q m, same-passes g.from g.there) at g.state_is;
          })

  linked : Linked (firsts f (procs f))
  linked q h = inl (firsts-inner f (procs f) q)

  -- a pass keeps the rules
  pub flow-keeps : (k : Known) → flow f ≡ passed k → Keeps f (state_at k)
  unfolding flow
  flow-keeps k w = kept (state_at k) (record { enters = start; fine = λ p m. good p (R.fine p m); got = λ q m. came q (R.got q m) })
    where
      R : PassRan (code f) (laws f B) (instructions f) (firsts f (procs f)) k
      R = pass-ran (code f) (laws f B) (instructions f) (firsts f (procs f)) k (instructions-rise f ps e) linked w

      start : (n : ℕ) → n < procs f → state_at k (entry f n) ≡ (first f n).1
      start n l =
          let a = firsts_at (procs f) n (omega arith) l in
          R.grown (entry f n) (rw a (first-set n)) ∙ a

      good : (p : ℕ) → Pass.FineIn (code f) (state_at k) p → Fine f (state_at k) p
      good p F =
          record {
            targets = F.fits.targets;
            nexts = F.fits.nexts;
            depths = F.fits.depths;
            leaves = F.fits.leaves;
            agrees = F.agrees;
          }

      came : (q : ℕ) → Set (state_at (firsts f (procs f)) q) ⊎ Pass.GotIn (code f) (instructions f) (state_at k) q → First f q ⊎ Got f (state_at k) q
      came q (inl h) = let a = firsts-from f (procs f) q h in inl (record { number = a.0; below = a.1; is = a.2 })
      came q (inr g) = inr (record { from = g.from; there = g.there; earlier = g.earlier; state_is = g.sent })

  -- where no instruction starts, no state is known
  firsts-in : (n : ℕ) → n ≤ procs f → Places (λ r. Mem r (instructions f)) (firsts f n)
  unfolding firsts
  firsts-in zero l r s h = absurd h
  firsts-in (suc n) l r s (inl h) = rw (ap (λ (x : ℕ × State). x.0) h) (entry_in f ps e n (H n (omega arith)))
  firsts-in (suc n) l r s (inr h) = firsts-in n (omega arith) r s h

  pub flow-rest : (k : Known) → flow f ≡ passed k → (q : ℕ) → (Mem q (instructions f) → ⊥) → state_at k q ≡ unset
  unfolding flow
  flow-rest k w q n =
      unset-at k q
      (λ s h. n
      (ran-places (code f) (laws f B) (λ r. Mem r (instructions f)) (λ p s o F r u m. (moves f p s o F r u m).there) (instructions f)
      (firsts f (procs f)) k (firsts-in (procs f) (omega arith)) w q s h))

  -- where an assignment keeps the rules, the pass goes through and has its states
  pub record Flows (A : Assignment) : Type 0 where
    pub known : Known
    pub passes : flow f ≡ passed known
    pub same : (p : ℕ) → Mem p (instructions f) → A p ≡ state_at known p

  pub keeps-flow : (A : Assignment) → Keeps f A → Flows A
  unfolding flow
  keeps-flow A K = record { known = F.map; passes = F.passes; same = λ p m. F.agrees p (F.set p m) }
    where
      start : (q : ℕ) → Set (state_at (firsts f (procs f)) q) → A q ≡ state_at (firsts f (procs f)) q
      start q h =
          let a = firsts-from f (procs f) q h in
          rw (a.2, firsts_at (procs f) a.0 (omega arith) a.1) (K.enters a.0 a.1)

      came : (q : ℕ) → First f q ⊎ Got f A q → Set (state_at (firsts f (procs f)) q) ⊎ Pass.GotIn (code f) (instructions f) A q
      came q (inl x) = inl (rw (x.is, firsts_at (procs f) x.number (omega arith) x.below) (first-set x.number))
      came q (inr g) = inr (record { from = g.from; there = g.there; earlier = g.earlier; sent = g.state_is })

      F : PassFound (code f) (laws f B) (instructions f) (firsts f (procs f)) A
      F =
          pass-found (code f) (laws f B) (instructions f) (firsts f (procs f)) A (instructions-rise f ps e) linked start
          (λ p m. record { fits = fits A p (K.fine p m); agrees = (K.fine p m).agrees }) (λ q m. came q (K.got q m))
