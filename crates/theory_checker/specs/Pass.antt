-- A forward pass over the instructions of any instruction set finds the one assignment that keeps the rules. What is known only
-- grows, so a test that held when its instruction was taken holds at the end; and what an instruction passes on is the state that
-- any assignment has there.
use Rattle.std.specs.Prelude.{ℕ, ◌<◌, Bool, true, false, ◌&&◌, List, [], ◌∷◌, ◌⊎◌, ◌≡◌, refl, eqb}
use Rattle.std.proofs.Common.{true≢false, inl, inr, ap, sym, ◌∙◌, subst, arith, eqb-true, eq-eqb, ne_eqb}
use Rattle.std.proofs.Math.Decide.{ℕ_discrete}
use Rattle.model.specs.Choice.{when◌then◌else◌, Mem}
use Rattle.model.specs.Checker.{none, State, state, unset, is_set, same_state, Known, state_at, innermost, Taking, bad, good, Flow, passed, meet, and_take, go_on, pass_one, pass_all}
use Rattle.laws.specs.Members.{Rising}
use Rattle.laws.specs.Choices.{both_true}

-- a state that is known
abbrev pub Set : State → Type 0
Set s = is_set s ≡ true

pub same-state : (s t : State) → same_state s t ≡ true → s ≡ t
same-state s t e =
    let a = both_true (eqb s.main t.main && eqb s.ptr t.ptr) (eqb s.inner t.inner) e in
    let b = both_true (eqb s.main t.main) (eqb s.ptr t.ptr) a.0 in
    let m = eqb-true s.main t.main b.0 in
    let p = eqb-true s.ptr t.ptr b.1 in
    let h = eqb-true s.inner t.inner a.1 in
    λ i. state (m i) (p i) (h i)

state-same : (s : State) → same_state s s ≡ true
state-same s = rw (eq-eqb s.main s.main refl, eq-eqb s.ptr s.ptr refl, eq-eqb s.inner s.inner refl)

-- a refusal is no step, and no pass
and_then-inv : (s : Taking Known) (k : Known → Taking Known) (m : Known) → and_take s k ≡ good m →
    (m' : Known) × (s ≡ good m') × (k m' ≡ good m)
and_then-inv (bad n) k m e = (m, cc, cc)
and_then-inv (good m') k m e = (m', refl, e)

pub go_on-inv : (p : ℕ) (s : Taking Known) (k : Known → Flow Known) (m : Known) → go_on p s k ≡ passed m →
    (m' : Known) × (s ≡ good m') × (k m' ≡ passed m)
go_on-inv p (bad n) k m e = (m, cc, cc)
go_on-inv p (good m') k m e = (m', refl, e)

-- a state passed to a place
abbrev pub Sent : ℕ → State → List (ℕ × State) → Type 0
Sent q s os = Mem {A = ℕ × State} (q, s) os

-- what is known stays as it is
abbrev pub Grown : Known → Known → Type 0
Grown k k' = (q : ℕ) → Set (state_at k q) → state_at k' q ≡ state_at k q

grown-trans : (a b c : Known) → Grown a b → Grown b c → Grown a c
grown-trans a b c f g q h = let k : Set (state_at b q) = rw (f q h) h in g q k ∙ f q h

-- what passing on a list of states does
record Put (k : Known) (os : List (ℕ × State)) (k' : Known) : Type 0 where
  grown : Grown k k'
  there : (q : ℕ) (s : State) → Sent q s os → state_at k' q ≡ s
  from : (r : ℕ) → Set (state_at k' r) → Set (state_at k r) ⊎ Sent r (state_at k' r) os

pair : {q r : ℕ} {s t : State} → q ≡ r → s ≡ t → ◌≡◌ {A = ℕ × State} (q, s) (r, t)
pair a b = λ i. (a i, b i)

put-new : (k : Known) (q : ℕ) (s : State) → is_set (state_at k q) ≡ false → Put k ((q, s) ∷ []) ((q, s) ∷ k)
put-new k q s e =
    record {
      grown = λ r h. other r (λ (p : r ≡ q). true≢false (sym h ∙ ap (λ (x : ℕ). is_set (state_at k x)) p ∙ e));
      there = λ r t m. put_in r t m;
      from = λ r h. came r h (ℕ_discrete r q);
    }
  where
    other : (r : ℕ) → (r ≡ q → ⊥) → state_at ((q, s) ∷ k) r ≡ state_at k r
    other r p = rw (ne_eqb r q p)

    here : (r : ℕ) → r ≡ q → state_at ((q, s) ∷ k) r ≡ s
    here r p = rw (eq-eqb r q p)

    put_in : (r : ℕ) (t : State) → Sent r t ((q, s) ∷ []) → state_at ((q, s) ∷ k) r ≡ t
    put_in r t (inl p) = here r (ap (λ (x : ℕ × State). x.0) p) ∙ sym (ap (λ (x : ℕ × State). x.1) p)
    put_in r t (inr m) = elim m [ ]

    came : (r : ℕ) → Set (state_at ((q, s) ∷ k) r) → Dec (r ≡ q) →
        Set (state_at k r) ⊎ Sent r (state_at ((q, s) ∷ k) r) ((q, s) ∷ [])
    came r h (yes p) = inr (inl (pair p (here r p)))
    came r h (no p) = inl (rw (other r p) at h)

put-old : (k : Known) (q : ℕ) (s : State) → state_at k q ≡ s → Put k ((q, s) ∷ []) k
put-old k q s e = record { grown = λ r h. refl; there = λ r t m. put_in r t m; from = λ r h. inl h }
  where
    put_in : (r : ℕ) (t : State) → Sent r t ((q, s) ∷ []) → state_at k r ≡ t
    put_in r t (inl p) = ap (λ (x : ℕ × State). state_at k x.0) p ∙ e ∙ sym (ap (λ (x : ℕ × State). x.1) p)
    put_in r t (inr m) = elim m [ ]

-- one state passed to a place: it is new there, or the same was there
abbrev Met : Known → ℕ × State → Known → Type 0
Met k o m = ((is_set (state_at k o.0) ≡ false) × (o ∷ k ≡ m)) ⊎ ((state_at k o.0 ≡ o.1) × (k ≡ m))

met : (k : Known) (o : ℕ × State) (m : Known) → pass_one k o.0 o.1 ≡ good m → Met k o m
met k o m e = go (is_set (state_at k o.0)) (same_state (state_at k o.0) o.1) refl refl e
  where
    go : (a b : Bool) → is_set (state_at k o.0) ≡ a → same_state (state_at k o.0) o.1 ≡ b → meet a b k (o ∷ k) ≡ good m → Met k o m
    go false b x y e = inl (x, cc)
    go true true x y e = inr (same-state (state_at k o.0) o.1 y, cc)
    go true false x y e = inr (cc, cc)

put_one : (k : Known) (o : ℕ × State) (m : Known) → pass_one k o.0 o.1 ≡ good m → Put k (o ∷ []) m
put_one k o m e = pick (met k o m e)
  where
    pick : Met k o m → Put k (o ∷ []) m
    pick (inl h) = subst (λ (x : Known). Put k (o ∷ []) x) h.1 (put-new k o.0 o.1 h.0)
    pick (inr h) = subst (λ (x : Known). Put k (o ∷ []) x) h.1 (put-old k o.0 o.1 h.0)

abbrev AllSet : List (ℕ × State) → Type 0
AllSet os = (q : ℕ) (s : State) → Sent q s os → Set s

put_all : (os : List (ℕ × State)) (k k' : Known) → AllSet os → pass_all os k ≡ good k' → Put k os k'
put_all [] k k' g e =
    let w : k ≡ k' = cc in
    subst (λ (x : Known). Put k [] x) w (record { grown = λ r h. refl; there = λ q s h. absurd h; from = λ r h. inl h })
put_all (o ∷ os) k k' g e =
    let a = and_then-inv (pass_one k o.0 o.1) (λ x. pass_all os x) k' e in
    joined a.0 (put_one k o a.0 a.1) (put_all os a.0 k' (λ q s h. g q s (inr h)) a.2)
  where
    joined : (m : Known) → Put k (o ∷ []) m → Put m os k' → Put k (o ∷ os) k'
    joined m P R =
        record {
          grown = grown-trans k m k' P.grown R.grown;
          there = λ q s. put_in q s;
          from = λ r h. came r (R.from r h);
        }
      where
        put_in : (q : ℕ) (s : State) → Sent q s (o ∷ os) → state_at k' q ≡ s
        put_in q s (inl p) =
            let a = P.there q s (inl p) in
            R.grown q (rw a (g q s (inl p))) ∙ a
        put_in q s (inr h) = R.there q s h

        first : (r : ℕ) → Set (state_at m r) → Set (state_at k r) ⊎ Sent r (state_at m r) (o ∷ []) →
            Set (state_at k r) ⊎ Sent r (state_at k' r) (o ∷ os)
        first r h (inl x) = inl x
        first r h (inr (inl x)) = inr (inl (pair refl (R.grown r h) ∙ x))
        first r h (inr (inr x4)) = elim x4 [ ]

        came : (r : ℕ) → Set (state_at m r) ⊎ Sent r (state_at k' r) os → Set (state_at k r) ⊎ Sent r (state_at k' r) (o ∷ os)
        came r (inl h) = first r h (P.from r h)
        came r (inr h) = inr (inr h)

-- the places with a state have a property In; without one a place is unset
abbrev pub Places : (ℕ → Type 0) → List (ℕ × State) → Type 0
Places In k = (q : ℕ) (s : State) → Sent q s k → In q

places-all : (In : ℕ → Type 0) (os : List (ℕ × State)) (k k' : Known) → Places In os → Places In k → pass_all os k ≡ good k' → Places In k'
places-all In [] k k' w v e = let z : k ≡ k' = cc in subst (λ (x : Known). Places In x) z v
places-all In (o ∷ os) k k' w v e =
    let a = and_then-inv (pass_one k o.0 o.1) (λ x. pass_all os x) k' e in
    places-all In os a.0 k' (λ q s h. w q s (inr h))
    (pick a.0 (met k o a.0 a.1)) a.2
  where
    one : Places In (o ∷ k)
    one q s (inl h) = w q s (inl h)
    one q s (inr h) = v q s h

    pick : (m : Known) → Met k o m → Places In m
    pick m (inl h) = subst (λ (x : Known). Places In x) h.1 one
    pick m (inr h) = subst (λ (x : Known). Places In x) h.1 v

pub unset-at : (k : Known) (q : ℕ) → ((s : State) → Sent q s k → ⊥) → state_at k q ≡ unset
unset-at [] q w = refl
unset-at (r ∷ k) q w = go (eqb q r.0) refl (unset-at k q (λ s h. w s (inr h)))
  where
    go : (t : Bool) → eqb q r.0 ≡ t → state_at k q ≡ unset → (when t then r.1 else state_at k q) ≡ unset
    go true e u = absurd (w r.1 (inl (pair (eqb-true q r.0 e) refl)))
    go false e u = u

-- the innermost open handler is none, or has a known state
abbrev Held : Known → ℕ → Type 0
Held k h = (h ≡ none) ⊎ Set (state_at k h)

abbrev pub Linked : Known → Type 0
Linked k = (q : ℕ) → Set (state_at k q) → Held k (state_at k q).inner

held_grown : (k k' : Known) (h : ℕ) → Grown k k' → Held k h → Held k' h
held_grown k k' h g (inl e) = inl e
held_grown k k' h g (inr e) = inr (rw (g h e) e)

pub innermost-none : (A : ℕ → State) (s : State) → s.inner ≡ none → innermost A s ≡ state 0 0 none
innermost-none A s e = rw (eq-eqb s.inner none e)

-- an assignment has every known state
abbrev Agrees : Known → (ℕ → State) → Type 0
Agrees k A = (q : ℕ) → Set (state_at k q) → A q ≡ state_at k q

innermost-same : (k : Known) (A : ℕ → State) (s : State) → Agrees k A → Held k s.inner → innermost A s ≡ innermost (state_at k) s
innermost-same k A s g (inl e) = innermost-none A s e ∙ sym (innermost-none (state_at k) s e)
innermost-same k A s g (inr h) = rw (g s.inner h)

innermost-held : (k : Known) (s : State) → Linked k → Held k s.inner → Held k (innermost (state_at k) s).inner
innermost-held k s L (inl e) = inl (rw (innermost-none (state_at k) s e))
innermost-held k s L (inr h) = pick (eqb s.inner none)
  where
    pick : (t : Bool) → Held k (when t then state 0 0 none else state_at k s.inner).inner
    pick true = inl refl
    pick false = L s.inner h

-- the state at the innermost handler that is open at p
abbrev pub innermost_at : (ℕ → State) → ℕ → State
innermost_at A p = innermost A (A p)

-- an instruction set: the tests of the instruction at p with its state and its handler's, what it passes on if they hold, and the pass
pub record Code : Type 1 where
  pub Meets : ℕ → State → State → Type 0
  pub sends : ℕ → State → State → List (ℕ × State)
  pub step : ℕ → Known → Taking Known
  pub run : List ℕ → Known → Flow Known

module _ (C : Code) where
  open C use {Meets, sends, step, run}

  -- what the instruction at p passes on, by an assignment
  abbrev pub sending : (ℕ → State) → ℕ → List (ℕ × State)
  sending A p = sends p (A p) (innermost_at A p)

  -- the instruction at p is taken
  pub record Taken (p : ℕ) (k k' : Known) : Type 0 where
    pub set : Set (state_at k p)
    pub fits : Meets p (state_at k p) (innermost_at (state_at k) p)
    pub puts : pass_all (sending (state_at k) p) k ≡ good k'

  pub record Laws : Type 0 where
    pub step_taken : (p : ℕ) (k k' : Known) → step p k ≡ good k' → Taken p k k'
    pub taken_step : (p : ℕ) (k k' : Known) → Taken p k k' → step p k ≡ good k'
    pub run_none : (k : Known) → run [] k ≡ passed k
    pub run_more : (p : ℕ) (ps : List ℕ) (k : Known) → run (p ∷ ps) k ≡ go_on p (step p k) (run ps)
    pub sent_set : (p : ℕ) (s o : State) (q : ℕ) (u : State) → Set s → Meets p s o → Sent q u (sends p s o) → Set u
    pub sent_inner : (p : ℕ) (s o : State) (q : ℕ) (u : State) → Meets p s o → Sent q u (sends p s o) →
        (u.inner ≡ s.inner) ⊎ ((u.inner ≡ p) ⊎ (u.inner ≡ o.inner))

  -- the rules for the instruction at p, and for what comes to q
  pub record FineIn (A : ℕ → State) (p : ℕ) : Type 0 where
    pub fits : Meets p (A p) (innermost_at A p)
    pub agrees : (q : ℕ) (t : State) → Sent q t (sending A p) → A q ≡ t

  pub record GotIn (ps : List ℕ) (A : ℕ → State) (q : ℕ) : Type 0 where
    pub from : ℕ
    pub there : Mem from ps
    pub earlier : from < q
    pub sent : Sent q (A q) (sending A from)

  module _ (L : Laws) where
    open L use {step_taken, taken_step, run_none, run_more, sent_set, sent_inner}

    put : (p : ℕ) (k k' : Known) → Taken p k k' → Put k (sending (state_at k) p) k'
    put p k k' T =
        put_all (sending (state_at k) p) k k'
        (λ q u. sent_set p (state_at k p) (innermost_at (state_at k) p) q u T.set T.fits) T.puts

    linked-step : (p : ℕ) (k k' : Known) → Linked k → Taken p k k' → Linked k'
    linked-step p k k' l T r h = go (P.from r h)
      where
        P : Put k (sending (state_at k) p) k'
        P = put p k k' T

        held : (i : ℕ) → (i ≡ (state_at k p).inner) ⊎ ((i ≡ p) ⊎ (i ≡ (innermost_at (state_at k) p).inner)) → Held k i
        held i (inl e) = rw e (l p T.set)
        held i (inr (inl e)) = rw e (inr T.set)
        held i (inr (inr e)) = rw e (innermost-held k (state_at k p) l (l p T.set))

        go : Set (state_at k r) ⊎ Sent r (state_at k' r) (sending (state_at k) p) → Held k' (state_at k' r).inner
        go (inl e) = rw (P.grown r e) (held_grown k k' (state_at k r).inner P.grown (l r e))
        go (inr m) =
            held_grown k k' (state_at k' r).inner P.grown
            (held (state_at k' r).inner (sent_inner p (state_at k p) (innermost_at (state_at k) p) r (state_at k' r) T.fits m))

    -- what a pass leaves
    pub record PassRan (ps : List ℕ) (k k' : Known) : Type 0 where
      pub grown : Grown k k'
      pub fine : (p : ℕ) → Mem p ps → FineIn (state_at k') p
      pub got : (q : ℕ) → Mem q ps → Set (state_at k q) ⊎ GotIn ps (state_at k') q

    -- the states that come from an assignment with all that was known when p was taken are those of then
    at_same : (p : ℕ) (k : Known) (A : ℕ → State) → Linked k → Set (state_at k p) → Agrees k A → innermost_at A p ≡ innermost_at (state_at k) p
    at_same p k A l h g = rw (g p h) (innermost-same k A (state_at k p) g (l p h))

    sending-same : (p : ℕ) (k : Known) (A : ℕ → State) → Linked k → Set (state_at k p) → Agrees k A →
        sending A p ≡ sending (state_at k) p
    sending-same p k A l h g = let a = g p h in let b = at_same p k A l h g in cc

    pub pass-ran : (ps : List ℕ) (k k' : Known) → Rising ps → Linked k → run ps k ≡ passed k' → PassRan ps k k'
    pass-ran [] k k' a l e =
        let w : k ≡ k' = let z = run_none k in cc in
        subst (λ (x : Known). PassRan [] k x) w (record { grown = λ q h. refl; fine = λ p h. absurd h; got = λ q h. absurd h })
    pass-ran (p ∷ ps) k k' a l e =
        let b = go_on-inv p (step p k) (run ps) k' (sym (run_more p ps k) ∙ e) in
        let T = step_taken p k b.0 b.1 in
        joined b.0 T (pass-ran ps b.0 k' a.1 (linked-step p k b.0 l T) b.2)
      where
        joined : (m : Known) → Taken p k m → PassRan ps m k' → PassRan (p ∷ ps) k k'
        joined m T R = record { grown = all; fine = λ q. okay q; got = λ q. came q }
          where
            P : Put k (sending (state_at k) p) m
            P = put p k m T

            all : Grown k k'
            all = grown-trans k m k' P.grown R.grown

            still : state_at k' p ≡ state_at k p
            still = all p T.set

            still-at : innermost_at (state_at k') p ≡ innermost_at (state_at k) p
            still-at = at_same p k (state_at k') l T.set all

            same : sending (state_at k') p ≡ sending (state_at k) p
            same = sending-same p k (state_at k') l T.set all

            mine : FineIn (state_at k') p
            mine =
                record {
                  fits = rw (still-at, still) T.fits;
                  agrees = λ q u h.
                      let h' : Sent q u (sending (state_at k) p) = rw same at h in
                      let w = P.there q u h' in
                      R.grown q (rw w (sent_set p (state_at k p) (innermost_at (state_at k) p) q u T.set T.fits h')) ∙ w;
                }

            okay : (q : ℕ) → Mem q (p ∷ ps) → FineIn (state_at k') q
            okay q (inl e) = rw e mine
            okay q (inr h) = R.fine q h

            just : (q : ℕ) → Mem q ps → Set (state_at m q) →
                Set (state_at k q) ⊎ Sent q (state_at m q) (sending (state_at k) p) →
                Set (state_at k q) ⊎ GotIn (p ∷ ps) (state_at k') q
            just q h s (inl w) = inl w
            just q h s (inr w) =
                inr (record { from = p; there = inl refl; earlier = let b = a.0 q h in omega arith; sent = rw (same, R.grown q s) w })

            later : (q : ℕ) → Mem q ps → Set (state_at m q) ⊎ GotIn ps (state_at k') q → Set (state_at k q) ⊎ GotIn (p ∷ ps) (state_at k') q
            later q h (inl s) = just q h s (P.from q s)
            later q h (inr w) = inr (record { from = w.from; there = inr w.there; earlier = w.earlier; sent = w.sent })

            came : (q : ℕ) → Mem q (p ∷ ps) → Set (state_at k q) ⊎ GotIn (p ∷ ps) (state_at k') q
            came q (inl e) = inl (rw e T.set)
            came q (inr h) = later q h (R.got q h)

    -- only the places that states are passed to get one
    pub ran-places : (In : ℕ → Type 0) → ((p : ℕ) (s o : State) → Meets p s o → Places In (sends p s o)) → (ps : List ℕ) (k k' : Known) →
        Places In k → run ps k ≡ passed k' → Places In k'
    ran-places In w [] k k' v e = let z : k ≡ k' = let y = run_none k in cc in subst (λ (x : Known). Places In x) z v
    ran-places In w (p ∷ ps) k k' v e =
        let b = go_on-inv p (step p k) (run ps) k' (sym (run_more p ps k) ∙ e) in
        let T = step_taken p k b.0 b.1 in
        ran-places In w ps b.0 k'
        (places-all In (sending (state_at k) p) k b.0 (w p (state_at k p) (innermost_at (state_at k) p) T.fits) v T.puts) b.2

    meet-ok : (a b : Bool) (x y : Known) → (a ≡ true → b ≡ true) → (m : Known) × (meet a b x y ≡ good m)
    meet-ok false b x y h = (y, refl)
    meet-ok true true x y h = (x, refl)
    meet-ok true false x y h = absurd (true≢false (sym (h refl)))

    -- an assignment has the states that are passed on
    abbrev Gives : List (ℕ × State) → (ℕ → State) → Type 0
    Gives os A = (q : ℕ) (s : State) → Sent q s os → A q ≡ s

    put-agrees : (k m : Known) (os : List (ℕ × State)) (A : ℕ → State) → Agrees k A → Gives os A →
        Put k os m → Agrees m A
    put-agrees k m os A g e P x h = pick (P.from x h)
      where
        pick : Set (state_at k x) ⊎ Sent x (state_at m x) os → A x ≡ state_at m x
        pick (inl s) = g x s ∙ sym (P.grown x s)
        pick (inr s) = e x (state_at m x) s

    -- states that the assignment has are passed on
    put-all-ok : (os : List (ℕ × State)) (k : Known) (A : ℕ → State) → Agrees k A → Gives os A →
        (k' : Known) × (pass_all os k ≡ good k')
    put-all-ok [] k A g e = (k, refl)
    put-all-ok (o ∷ os) k A g e =
        let r =
        meet-ok (is_set (state_at k o.0)) (same_state (state_at k o.0) o.1) k (o ∷ k)
        (λ h. let w : state_at k o.0 ≡ o.1 = sym (g o.0 h) ∙ e o.0 o.1 (inl refl) in rw w (state-same o.1)) in
        let g' = put-agrees k r.0 (o ∷ []) A g (λ q s. once q s) (put_one k o r.0 r.1) in
        let t = put-all-ok os r.0 A g' (λ q s h. e q s (inr h)) in
        (t.0, rw r.1 t.1)
      where
        once : (q : ℕ) (s : State) → Sent q s (o ∷ []) → A q ≡ s
        once q s (inl h) = e q s (inl h)
        once q s (inr x3) = elim x3 [ ]

    -- where an assignment keeps the rules, the pass goes through, and knows of every instruction the assignment's state
    pub record PassFound (ps : List ℕ) (k : Known) (A : ℕ → State) : Type 0 where
      pub map : Known
      pub passes : run ps k ≡ passed map
      pub grown : Grown k map
      pub agrees : Agrees map A
      pub set : (p : ℕ) → Mem p ps → Set (state_at map p)

    pub pass-found : (ps : List ℕ) (k : Known) (A : ℕ → State) → Rising ps → Linked k → Agrees k A → ((p : ℕ) → Mem p ps → FineIn A p) →
        ((q : ℕ) → Mem q ps → Set (state_at k q) ⊎ GotIn ps A q) → PassFound ps k A
    pass-found [] k A a l g w r =
        record { map = k; passes = run_none k; grown = λ q h. refl; agrees = g; set = λ p h. absurd h }
    pass-found (p ∷ ps) k A a l g w r =
        let t = put-all-ok (sending (state_at k) p) k A g sent in
        let T = taken t.0 t.1 in
        let P = put p k t.0 T in
        let F =
        pass-found ps t.0 A a.1 (linked-step p k t.0 l T) (put-agrees k t.0 (sending (state_at k) p) A g sent P) (λ q h. w q (inr h))
        (λ q h. later t.0 T P q h (r q (inr h))) in
        joined t.0 T P F
      where
        W : FineIn A p
        W = w p (inl refl)

        now : Set (state_at k p) ⊎ GotIn (p ∷ ps) A p → Set (state_at k p)
        now (inl h) = h
        now (inr v) = absurd (never v.there)
          where
            never : Mem v.from (p ∷ ps) → ⊥
            never (inl e) = let b = v.earlier in omega arith
            never (inr h) = let b = a.0 v.from h in let c = v.earlier in omega arith

        set_p : Set (state_at k p)
        set_p = now (r p (inl refl))

        at_p : A p ≡ state_at k p
        at_p = g p set_p

        sat : innermost_at A p ≡ innermost_at (state_at k) p
        sat = at_same p k A l set_p g

        same : sending A p ≡ sending (state_at k) p
        same = sending-same p k A l set_p g

        sent : (q : ℕ) (u : State) → Sent q u (sending (state_at k) p) → A q ≡ u
        sent q u h = W.agrees q u (rw same h)

        taken : (m : Known) → pass_all (sending (state_at k) p) k ≡ good m → Taken p k m
        taken m e = record { set = set_p; fits = rw (sat, at_p) at W.fits; puts = e }

        later : (m : Known) → Taken p k m → Put k (sending (state_at k) p) m → (q : ℕ) → Mem q ps →
            Set (state_at k q) ⊎ GotIn (p ∷ ps) A q → Set (state_at m q) ⊎ GotIn ps A q
        later m T P q h (inl s) = inl (rw (P.grown q s) s)
        later m T P q h (inr v) = pick v.from v.there v.earlier v.sent
          where
            pick : (i : ℕ) → Mem i (p ∷ ps) → i < q → Sent q (A q) (sending A i) → Set (state_at m q) ⊎ GotIn ps A q
            pick i (inl e) b x =
                let y : Sent q (A q) (sending A p) = rw e at x in
                let z : Sent q (A q) (sending (state_at k) p) = rw same at y in
                inl (rw (P.there q (A q) z) (sent_set p (state_at k p) (innermost_at (state_at k) p) q (A q) T.set T.fits z))
            pick i (inr h) b x = inr (record { from = i; there = h; earlier = b; sent = x })

        joined : (m : Known) → Taken p k m → Put k (sending (state_at k) p) m → PassFound ps m A → PassFound (p ∷ ps) k A
        joined m T P F =
            record {
              map = F.map;
              passes = run_more p ps k ∙ rw (taken_step p k m T) F.passes;
              grown = grown-trans k m F.map P.grown F.grown;
              agrees = F.agrees;
              set = λ q. known q;
            }
          where
            known : (q : ℕ) → Mem q (p ∷ ps) → Set (state_at F.map q)
            known q (inl e) = rw (e, grown-trans k m F.map P.grown F.grown p set_p) set_p
            known q (inr h) = F.set q h
