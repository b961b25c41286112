-- The part of the map while the check goes on. A place has three numbers: those of its state where one is known, 65,534 and twice
-- 65,535 where an instruction starts that no state has reached, 65,535 three times elsewhere (`PartShows`).
use Prim.Native.Nat.{ℕ, zero, suc, ◌+◌, ◌*◌, ◌<◌}
use Rattle.std.specs.Prelude.{Bool, true, false, not, ◌≡◌, refl, replicate}
use Rattle.std.proofs.Common.{true≢false, inl, inr, sym, ◌∙◌, eq-eqb, ne_eqb}
use mathlib.Core.List.{List, [], ◌∷◌}
use Rattle.std.proofs.Math.Path.{ap}
use Rattle.std.proofs.Math.Decide.{ℕ_discrete}
use native.Mathlib.Omega.{arith}
use Rattle.std.proofs.Math.Dec.{eqb}
use Rattle.std.proofs.Math.ListN.{length, get_or, set, length-set}
use Rattle.std.proofs.lemmas.List.{length-replicate}
use Rattle.std.proofs.Math.Seq.{get_or-set_same, get_or-set_other}
use Rattle.model.specs.Choice.{when◌then◌else◌, Mem, member}
use Rattle.model.specs.File.{starts, records_of, is_head, select, instructions}
use Rattle.model.specs.Checker.{none, State, state, unset, is_set, Known, state_at}
use Rattle.laws_file.specs.Walk.{instructions-are}
use Rattle.laws.specs.Members.{get_d_any}

abbrev pub unreached : ℕ
unreached = 65534

-- the three numbers at a place
unfoldable pub state_in : List ℕ → ℕ → State
state_in m q = state (get_or m (3 * q) none) (get_or m (3 * q + 1) none) (get_or m (3 * q + 2) none)

-- three numbers written at a place
unfoldable pub put_in : List ℕ → ℕ → State → List ℕ
put_in m q s = set (set (set m (3 * q) s.main) (3 * q + 1) s.ptr) (3 * q + 2) s.inner

-- what a place shows: `starts?` tells whether an instruction starts there
abbrev pub shown_at : Bool → State → State
shown_at starts? s = when is_set s then s else (when starts? then state unreached none none else unset)

-- the part shows the states k of the file's instructions, and no others are known
pub record PartShows (f : List ℕ) (k : Known) (m : List ℕ) : Type 0 where
  pub long : length m ≡ 3 * length f
  pub at : (q : ℕ) → q < length f → state_in m q ≡ shown_at (member q (instructions f)) (state_at k q)
  pub only : (q : ℕ) → is_set (state_at k q) ≡ true → member q (instructions f) ≡ true

-- reading what was written
module _ (m : List ℕ) (q : ℕ) (s : State) where
  pub length-putIn : length (put_in m q s) ≡ length m
  unfolding put_in
  length-putIn = simp length-set

  pub put_in-same : 3 * q + 2 < length m → state_in (put_in m q s) q ≡ s
  unfolding put_in state_in
  put_in-same h =
      let a : List ℕ = set m (3 * q) s.main in
      let b : List ℕ = set a (3 * q + 1) s.ptr in
      let la : length a ≡ length m = length-set m (3 * q) s.main in
      let lb : length b ≡ length m = length-set a (3 * q + 1) s.ptr ∙ la in
      let e0 : get_or (set b (3 * q + 2) s.inner) (3 * q) none ≡ s.main =
      get_or-set_other b (3 * q + 2) (3 * q) s.inner none (omega arith)
      ∙ get_or-set_other a (3 * q + 1) (3 * q) s.ptr none (omega arith)
      ∙ get_or-set_same m (3 * q) s.main none (omega arith) in
      let e1 : get_or (set b (3 * q + 2) s.inner) (3 * q + 1) none ≡ s.ptr =
      get_or-set_other b (3 * q + 2) (3 * q + 1) s.inner none (omega arith)
      ∙ get_or-set_same a (3 * q + 1) s.ptr none (omega arith) in
      let e2 : get_or (set b (3 * q + 2) s.inner) (3 * q + 2) none ≡ s.inner =
      get_or-set_same b (3 * q + 2) s.inner none (omega arith) in
      λ i. state (e0 i) (e1 i) (e2 i)

  pub put_in-other : (r : ℕ) → (r ≡ q → ⊥) → state_in (put_in m q s) r ≡ state_in m r
  unfolding put_in state_in
  put_in-other r h =
      let a : List ℕ = set m (3 * q) s.main in
      let b : List ℕ = set a (3 * q + 1) s.ptr in
      let far : (j : ℕ) → j < 3 → (j' : ℕ) → j' < 3 → 3 * r + j ≡ 3 * q + j' → ⊥ = λ j lj j' lj' e. h (omega arith) in
      let at : (j : ℕ) → j < 3 → get_or (set b (3 * q + 2) s.inner) (3 * r + j) none ≡ get_or m (3 * r + j) none = λ j lj.
      get_or-set_other b (3 * q + 2) (3 * r + j) s.inner none (far j lj 2 (omega arith))
      ∙ get_or-set_other a (3 * q + 1) (3 * r + j) s.ptr none (far j lj 1 (omega arith))
      ∙ get_or-set_other m (3 * q) (3 * r + j) s.main none (λ e. far j lj 0 (omega arith) (omega arith)) in
      let z : 3 * r ≡ 3 * r + 0 = omega arith in
      let e0 : get_or (set b (3 * q + 2) s.inner) (3 * r) none ≡ get_or m (3 * r) none =
      ap (λ (x : ℕ). get_or (set b (3 * q + 2) s.inner) x none) z ∙ at 0 (omega arith) ∙ ap (λ (x : ℕ). get_or m x none) (sym z) in
      λ i. state (e0 i) (at 1 (omega arith) i) (at 2 (omega arith) i)

-- one number written: the mark of an instruction start
module _ (m : List ℕ) (q : ℕ) where
  pub mark-other : (r v : ℕ) → (r ≡ q → ⊥) → state_in (set m (3 * q) v) r ≡ state_in m r
  unfolding state_in
  mark-other r v h =
      let e0 = get_or-set_other m (3 * q) (3 * r) v none (λ e. h (omega arith)) in
      let e1 = get_or-set_other m (3 * q) (3 * r + 1) v none (omega arith) in
      let e2 = get_or-set_other m (3 * q) (3 * r + 2) v none (omega arith) in
      λ i. state (e0 i) (e1 i) (e2 i)

  pub mark-same : (v : ℕ) → 3 * q < length m → state_in (set m (3 * q) v) q ≡ state v (state_in m q).ptr (state_in m q).inner
  unfolding state_in
  mark-same v h =
      let e0 = get_or-set_same m (3 * q) v none h in
      let e1 = get_or-set_other m (3 * q) (3 * q + 1) v none (omega arith) in
      let e2 = get_or-set_other m (3 * q) (3 * q + 2) v none (omega arith) in
      λ i. state (e0 i) (e1 i) (e2 i)

-- the marks of all the records that are instructions
unfoldable pub marked : List ℕ → List ℕ → List ℕ → List ℕ
marked f m [] = m
marked f m (p ∷ ps) = marked f (when is_head f p then m else set m (3 * p) unreached) ps

length-mark : (t : Bool) (m : List ℕ) (p v : ℕ) → length (when t then m else set m p v) ≡ length m
length-mark true m p v = refl
length-mark false m p v = length-set m p v

pub length_marked : (f : List ℕ) (ps m : List ℕ) → length (marked f m ps) ≡ length m
unfolding marked
length_marked f [] m = refl
length_marked f (p ∷ ps) m =
    length_marked f ps (when is_head f p then m else set m (3 * p) unreached) ∙ length-mark (is_head f p) m (3 * p) unreached

-- what the marks of a file's records show
abbrev AtMarked : List ℕ → List ℕ → List ℕ → ℕ → Type 0
AtMarked f ps m q =
    state_in (marked f m ps) q
    ≡ (when member q (select (λ p. not (is_head f p)) ps) then state unreached (state_in m q).ptr (state_in m q).inner else state_in m q)

marks-at : (f : List ℕ) (ps m : List ℕ) (q : ℕ) → ((p : ℕ) → Mem p ps → 3 * p < length m) → AtMarked f ps m q
unfolding marked
marks-at f [] m q h = refl
marks-at f (p ∷ ps) m q h = go (is_head f p) refl (λ m' l. marks-at f ps m' q (λ r i. rw l (h r (inr i))))
  where
    here : Dec (q ≡ p) → (t : Bool) →
        (when t
        then state unreached (state_in (set m (3 * p) unreached) q).ptr (state_in (set m (3 * p) unreached) q).inner
        else state_in (set m (3 * p) unreached) q)
        ≡ (when (when eqb q p then true else t) then state unreached (state_in m q).ptr (state_in m q).inner else state_in m q)
    here (yes z) true = rw (eq-eqb q p z, z, mark-same m p unreached (h p (inl refl)))
    here (yes z) false = rw (eq-eqb q p z, z, mark-same m p unreached (h p (inl refl)))
    here (no z) t = rw (ne_eqb q p z, mark-other m p q unreached z)

    go : (t : Bool) → is_head f p ≡ t → ((m' : List ℕ) → length m' ≡ length m → AtMarked f ps m' q) →
        state_in (marked f (when is_head f p then m else set m (3 * p) unreached) ps) q
        ≡ (when member q (when not (is_head f p) then p ∷ select (λ r. not (is_head f r)) ps else select (λ r. not (is_head f r)) ps)
        then state unreached (state_in m q).ptr (state_in m q).inner else state_in m q)
    go true e r = rw e (r m refl)
    go false e r =
        rw e (r (set m (3 * p) unreached) (length-set m (3 * p) unreached)
        ∙ here (ℕ_discrete q p) (member q (select (λ r. not (is_head f r)) ps)))

-- a list of 65,535 alone
get_or-fill : (n i : ℕ) → ◌≡◌ {A = ℕ} (get_or (replicate n none) i none) none
get_or-fill zero i = refl
get_or-fill (suc n) zero = refl
get_or-fill (suc n) (suc i) = get_or-fill n i

pub blank : (n q : ℕ) → state_in (replicate n none) q ≡ unset
unfolding state_in
blank n q = λ i. state (get_or-fill n (3 * q) i) (get_or-fill n (3 * q + 1) i) (get_or-fill n (3 * q + 2) i)

-- the marked part shows the instructions, and no state yet
pub marked-shows : (f ps : List ℕ) → records_of f ≡ starts ps → ((p : ℕ) → Mem p ps → p < length f) →
    PartShows f [] (marked f (replicate (3 * length f) none) ps)
marked-shows f ps e h =
    let n = 3 * length f in
    let m = replicate n none in
    record {
      long = length_marked f ps m ∙ length-replicate n none;
      at = λ q l.
          marks-at f ps m q (λ p i. let a = h p i in rw (length-replicate n none) (omega arith))
          ∙ rw (blank n q, instructions-are f ps e);
      only = λ q z. absurd (true≢false (sym z));
    }

-- reading a number with another default

module _ (f : List ℕ) (k : Known) (m : List ℕ) (S : PartShows f k m) where
  shown-main : (t : Bool) (s : State) → (is_set s ≡ true → t ≡ true) → eqb (shown_at t s).main none ≡ not t
  shown-main t s h = go (eqb s.main none) refl t h
    where
      go : (b : Bool) → eqb s.main none ≡ b → (u : Bool) → (not b ≡ true → u ≡ true) →
          eqb (when not b then s else (when u then state unreached none none else unset)).main none ≡ not u
      go true e true w = refl
      go true e false w = refl
      go false e u w = rw (e, w refl)

  -- where the map has 65,535, no instruction starts
  pub starts-here : (q : ℕ) → q < length f → eqb (get_or m (3 * q) 0) none ≡ not (member q (instructions f))
  unfolding state_in
  starts-here q h =
      let l = S.long in
      rw (get_d_any m (3 * q) 0 none (omega arith))
      (ap (λ (s : State). eqb s.main none) (S.at q h)
      ∙ shown-main (member q (instructions f)) (state_at k q) (S.only q))

  -- a known state more
  pub put-shows : (q : ℕ) (s : State) → is_set s ≡ true → member q (instructions f) ≡ true → q < length f → PartShows f ((q, s) ∷ k) (put_in m q s)
  put-shows q s set? in? h =
      let l = S.long in
      record {
        long = length-putIn m q s ∙ l;
        at = λ r w. here r w (ℕ_discrete r q);
        only = λ r z. there r z (ℕ_discrete r q);
      }
    where
      here : (r : ℕ) → r < length f → Dec (r ≡ q) →
          state_in (put_in m q s) r ≡ shown_at (member r (instructions f)) (when eqb r q then s else state_at k r)
      here r w (yes e) = let l = S.long in rw (e, eq-eqb q q refl, set?) (put_in-same m q s (omega arith))
      here r w (no e) = rw (ne_eqb r q e) (put_in-other m q s r e ∙ S.at r w)

      there : (r : ℕ) → is_set (when eqb r q then s else state_at k r) ≡ true → Dec (r ≡ q) → member r (instructions f) ≡ true
      there r z (yes e) = rw e in?
      there r z (no e) = S.only r (rw (ne_eqb r q e) at z)
