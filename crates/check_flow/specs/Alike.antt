-- Taking an instruction on the part of the map (`take_in`) does what the model does on the states that the part shows (`take-alike`):
-- a place's three numbers are its state where one is known, and 65,534 or more where none is.
use Rattle.std.specs.Prelude.{ℕ, ◌+◌, ◌<◌, ◌≤◌, Bool, false, List, [], ◌∷◌, ◌⊎◌, ◌≡◌, eqb, length}
use Rattle.std.proofs.Math.Bool.{true}
use Rattle.std.proofs.Common.{true≢false, inl, inr, sym, ◌∙◌, arith}
use Rattle.std.proofs.Math.Path.{refl}
use borrow.Author.Tests.{lt-ltb, eq-eqb, ne_eqb, eqb-true, eqb-false}
use Rattle.model.specs.Choice.{when◌then◌else◌, all, all_true, Mem, member}
use Rattle.model.specs.File.{Ins, ins_at, instructions, head_of, proc_at, greatest_main, greatest_ptr, records_of, starts}
use Rattle.model.specs.Checker.{none, State, state, is_set, same_state, Known, state_at, innermost, passes, target_tests, next_tests, depth_tests}
use Rattle.model.specs.Checker.{leave_tests, Taking, bad, good, need, meet, and_take, pass_all, take_with, take_one}
use Rattle.model.specs.Claim.{Bytes}
use Rattle.laws.specs.Members.{in-member, member-in}
use Rattle.laws_file.specs.Walk.{instruction-below}
use Rattle.laws_file.specs.Procedures.{DepthsWithin}
use Rattle.theory_checker.specs.Flow.{DepthsFrom, InnerFrom, Moves}
use Rattle.theory_checker.proofs.Flow.{moves}
use Rattle.check_scan.specs.Marks.{unreached, state_in, put_in, PartShows, put-shows}
use Rattle.check_rows.specs.Rows.{is_set_in}
use Rattle.check_ways.specs.Takes.{pass_all_in, take_in_with, take_in}

-- a state that the map can hold: depths are bytes, at its handler a state is known, and its depths are not below that one's
pub record Fit (k : Known) (s : State) : Type 0 where
  pub main_byte : s.main < 256
  pub ptr_byte : s.ptr < 256
  pub held : (s.inner ≡ none) ⊎ (is_set (state_at k s.inner) ≡ true)
  pub main_above : (innermost (state_at k) s).main ≤ s.main
  pub ptr_above : (innermost (state_at k) s).ptr ≤ s.ptr

-- the known states fit, and have depths within those of their procedures
pub record Good (f : List ℕ) (k : Known) (m : List ℕ) : Type 0 where
  pub shows : PartShows f k m
  pub within : (q : ℕ) → is_set (state_at k q) ≡ true → DepthsWithin f q (state_at k q)
  pub fits : (q : ℕ) → is_set (state_at k q) ≡ true → Fit k (state_at k q)

byte-set : (s : State) → s.main < 256 → is_set s ≡ true
byte-set s h = rw (ne_eqb s.main none (λ e. omega arith))

-- what a part shows of a place where an instruction starts
module _ (f : List ℕ) (k : Known) (m : List ℕ) (G : Good f k m) (q : ℕ) (in? : member q (instructions f) ≡ true) (low : q < length f) where
  pub in-set : is_set (state_at k q) ≡ true → state_in m q ≡ state_at k q
  in-set h = G.shows.at q low ∙ rw h

  pub in-unset : is_set (state_at k q) ≡ false → state_in m q ≡ state unreached none none
  in-unset h = G.shows.at q low ∙ rw (h, in?)

  pub set-alike : is_set_in (state_in m q) ≡ is_set (state_at k q)
  set-alike = go (is_set (state_at k q)) refl
    where
      go : (t : Bool) → is_set (state_at k q) ≡ t → is_set_in (state_in m q) ≡ t
      go true h = let b = (G.fits q h).main_byte in rw (in-set h) (lt-ltb (state_at k q).main unreached (omega arith))
      go false h = rw (in-unset h)

-- one more state keeps all that is known
grown : (k : Known) (q r : ℕ) (s : State) → is_set s ≡ true → is_set (state_at k r) ≡ true → is_set (state_at ((q, s) ∷ k) r) ≡ true
grown k q r s h e = go (eqb r q)
  where
    go : (t : Bool) → is_set (when t then s else state_at k r) ≡ true
    go true = h
    go false = e

outer-grown : (k : Known) (q : ℕ) (s u : State) → is_set (state_at k q) ≡ false → (u.inner ≡ none) ⊎ (is_set (state_at k u.inner) ≡ true) →
    innermost (state_at ((q, s) ∷ k)) u ≡ innermost (state_at k) u
outer-grown k q s u n (inl e) = rw (eq-eqb u.inner none e)
outer-grown k q s u n (inr e) = go (eqb u.inner q) refl
  where
    go : (t : Bool) → eqb u.inner q ≡ t →
        (when eqb u.inner none then state 0 0 none else (when t then s else state_at k u.inner)) ≡ innermost (state_at k) u
    go true z = let w = eqb-true u.inner q z in absurd (true≢false (sym e ∙ rw w n))
    go false z = refl

fit-grown : (k : Known) (q : ℕ) (s u : State) → is_set s ≡ true → is_set (state_at k q) ≡ false → Fit k u → Fit ((q, s) ∷ k) u
fit-grown k q s u h n F =
    let o = outer-grown k q s u n F.held in
    record {
      main_byte = F.main_byte;
      ptr_byte = F.ptr_byte;
      held = go F.held;
      main_above = rw o F.main_above;
      ptr_above = rw o F.ptr_above;
    }
  where
    go : (u.inner ≡ none) ⊎ (is_set (state_at k u.inner) ≡ true) → (u.inner ≡ none) ⊎ (is_set (state_at ((q, s) ∷ k) u.inner) ≡ true)
    go (inl e) = inl e
    go (inr e) = inr (grown k q u.inner s h e)

good-put : (f : List ℕ) (k : Known) (m : List ℕ) (q : ℕ) (s : State) → Good f k m → member q (instructions f) ≡ true → q < length f →
    is_set (state_at k q) ≡ false → Fit k s → DepthsWithin f q s → Good f ((q, s) ∷ k) (put_in m q s)
good-put f k m q s G in? low n F W =
    let h = byte-set s F.main_byte in
    record {
      shows = put-shows f k m G.shows q s h in? low;
      fits = λ r e. at r e (eqb r q) refl;
      within = λ r e. inside r e (eqb r q) refl;
    }
  where
    inside : (r : ℕ) → is_set (when eqb r q then s else state_at k r) ≡ true → (t : Bool) → eqb r q ≡ t →
        DepthsWithin f r (when eqb r q then s else state_at k r)
    inside r e true w = let z = eqb-true r q w in rw (w, z) W
    inside r e false w = let v : is_set (state_at k r) ≡ true = rw w at e in rw w (G.within r v)

    at : (r : ℕ) → is_set (when eqb r q then s else state_at k r) ≡ true → (t : Bool) → eqb r q ≡ t →
        Fit ((q, s) ∷ k) (when eqb r q then s else state_at k r)
    at r e true w = rw w (fit-grown k q s s (byte-set s F.main_byte) n F)
    at r e false w =
        let v : is_set (state_at k r) ≡ true = rw w at e in
        rw w (fit-grown k q s (state_at k r) (byte-set s F.main_byte) n (G.fits r v))

-- the two go the same way
abbrev pub SameWay : List ℕ → Taking Known → Taking (List ℕ) → Type 0
SameWay f (bad n) (bad j) = n ≡ j
SameWay f (bad n) (good m) = ⊥
SameWay f (good k) (bad j) = ⊥
SameWay f (good k) (good m) = Good f k m

-- states that an instruction passes on
abbrev Sendable : List ℕ → Known → List (ℕ × State) → Type 0
Sendable f k [] = Unit {0}
Sendable f k (o ∷ os) = ((member o.0 (instructions f) ≡ true) × (o.0 < length f) × Fit k o.1 × DepthsWithin f o.0 o.1) × Sendable f k os

sendable-grown : (f : List ℕ) (k : Known) (q : ℕ) (s : State) (os : List (ℕ × State)) → is_set s ≡ true → is_set (state_at k q) ≡ false →
    Sendable f k os → Sendable f ((q, s) ∷ k) os
sendable-grown f k q s [] h n S = tt
sendable-grown f k q s (o ∷ os) h n S =
    ((S.0.0, S.0.1, fit-grown k q s o.1 h n S.0.2, S.0.3), sendable-grown f k q s os h n S.1)

all_alike : (f : List ℕ) (os : List (ℕ × State)) (k : Known) (m : List ℕ) → Good f k m → Sendable f k os → SameWay f (pass_all os k) (pass_all_in os m)
all_alike f [] k m G S = G
all_alike f (o ∷ os) k m G S = go (is_set (state_at k o.0)) refl (λ k' m'. all_alike f os k' m')
  where
    in? : member o.0 (instructions f) ≡ true
    in? = S.0.0

    both : (t : Bool) → (is_set (state_at k o.0) ≡ t) → is_set_in (state_in m o.0) ≡ t
    both t h = set-alike f k m G o.0 in? S.0.1 ∙ h

    same? : (b : Bool) → Good f k m → ((k' : Known) (m' : List ℕ) → Good f k' m' → Sendable f k' os → SameWay f (pass_all os k') (pass_all_in os m')) →
        SameWay f (and_take (meet true b k ((o.0, o.1) ∷ k)) (λ k'. pass_all os k')) (and_take (meet true b m (put_in m o.0 o.1)) (λ m'. pass_all_in os m'))
    same? true G r = r k m G S.1
    same? false G r = refl

    go : (t : Bool) → is_set (state_at k o.0) ≡ t →
        ((k' : Known) (m' : List ℕ) → Good f k' m' → Sendable f k' os → SameWay f (pass_all os k') (pass_all_in os m')) →
        SameWay f (pass_all (o ∷ os) k) (pass_all_in (o ∷ os) m)
    go true h r = rw (h, both true h, in-set f k m G o.0 in? S.0.1 h) (same? (same_state (state_at k o.0) o.1) G r)
    go false h r =
        rw (h, both false h)
        (r ((o.0, o.1) ∷ k) (put_in m o.0 o.1) (good-put f k m o.0 o.1 G in? S.0.1 h S.0.2 S.0.3)
        (sendable-grown f k o.0 o.1 os (byte-set o.1 S.0.2.main_byte) h S.1))

need-alike : (f : List ℕ) (t : Bool) (n : ℕ) (a : Taking Known) (b : Taking (List ℕ)) → (t ≡ true → SameWay f a b) → SameWay f (need t n a) (need t n b)
need-alike f true n a b h = h refl
need-alike f false n a b h = refl

module _ (f ps : List ℕ) (B : Bytes f) (e : records_of f ≡ starts ps) (k : Known) (m : List ℕ) (G : Good f k m) where
  low : (q : ℕ) → member q (instructions f) ≡ true → q < length f
  low q h = instruction-below f ps e q (member-in q (instructions f) h)

  -- the state at the innermost open handler is shown too
  pub outer-alike : (s : State) → Fit k s → innermost (state_in m) s ≡ innermost (state_at k) s
  outer-alike s F = go F.held
    where
      go : (s.inner ≡ none) ⊎ (is_set (state_at k s.inner) ≡ true) → innermost (state_in m) s ≡ innermost (state_at k) s
      go (inl z) = rw (eq-eqb s.inner none z)
      go (inr h) =
          let in? = G.shows.only s.inner h in
          rw (in-set f k m G s.inner in? (low s.inner in?) h)

  outer-fit : (s : State) → Fit k s → ((innermost (state_at k) s).inner ≡ none) ⊎ (is_set (state_at k (innermost (state_at k) s).inner) ≡ true)
  outer-fit s F = go F.held (eqb s.inner none) refl
    where
      go : (s.inner ≡ none) ⊎ (is_set (state_at k s.inner) ≡ true) → (t : Bool) → eqb s.inner none ≡ t →
          ((when t then state 0 0 none else state_at k s.inner).inner ≡ none)
          ⊎ (is_set (state_at k (when t then state 0 0 none else state_at k s.inner).inner) ≡ true)
      go h true z = inl refl
      go (inl w) false z = absurd (eqb-false s.inner none z w)
      go (inr w) false z = (G.fits s.inner w).held

  -- and lies above its own floor
  outer-above : (s : State) → Fit k s →
      ((innermost (state_at k) (innermost (state_at k) s)).main ≤ (innermost (state_at k) s).main)
      × ((innermost (state_at k) (innermost (state_at k) s)).ptr ≤ (innermost (state_at k) s).ptr)
  outer-above s F = go F.held (eqb s.inner none) refl
    where
      go : (s.inner ≡ none) ⊎ (is_set (state_at k s.inner) ≡ true) → (t : Bool) → eqb s.inner none ≡ t →
          ((innermost (state_at k) (when t then state 0 0 none else state_at k s.inner)).main
          ≤ (when t then state 0 0 none else state_at k s.inner).main)
          × ((innermost (state_at k) (when t then state 0 0 none else state_at k s.inner)).ptr
          ≤ (when t then state 0 0 none else state_at k s.inner).ptr)
      go h true z = (omega arith, omega arith)
      go (inl w) false z = absurd (eqb-false s.inner none z w)
      go (inr w) false z = ((G.fits s.inner w).main_above, (G.fits s.inner w).ptr_above)

  module _ (p : ℕ) (set? : is_set (state_at k p) ≡ true) where
    s : State
    s = state_at k p

    abbrev Above : State → Type 0
    Above u = ((innermost (state_at k) u).main ≤ u.main) × ((innermost (state_at k) u).ptr ≤ u.ptr)

    fit-moved : (q : ℕ) (u : State) → Moves f p (state_at k p) (innermost (state_at k) (state_at k p)) q u →
        (member q (instructions f) ≡ true) × (q < length f) × Fit k u × DepthsWithin f q u
    unfolding greatest_main greatest_ptr
    fit-moved q u M =
        let F = G.fits p set? in (
          in-member q (instructions f) M.there,
          instruction-below f ps e q M.there,
          record {
            main_byte = small-main M.depths;
            ptr_byte = small-ptr M.depths;
            held = inner-held M.inner;
            main_above = (above M.high.alike M.inner).0;
            ptr_above = (above M.high.alike M.inner).1;
          },
          near M.depths,
        )
      where
        near : DepthsFrom f p (state_at k p) u → DepthsWithin f q u
        near (inl d) = rw M.same_proc d
        near (inr d) = rw (M.same_proc, d.0, d.1) (G.within p set?)

        -- the floor is the one before, the 160's own depths, or the one outside
        under_same : u.inner ≡ (state_at k p).inner → Above u
        under_same z =
            let F = G.fits p set? in rw z (M.high.main F.main_above, M.high.ptr F.ptr_above)

        under-own : (t : Bool) → (u.main ≡ (state_at k p).main) × (u.ptr ≡ (state_at k p).ptr) →
            ((when t then state 0 0 none else state_at k p).main ≤ u.main) × ((when t then state 0 0 none else state_at k p).ptr ≤ u.ptr)
        under-own true d = (omega arith, omega arith)
        under-own false d = (omega arith, omega arith)

        above : (u.inner ≡ (state_at k p).inner) ⊎ ((u.main ≡ (state_at k p).main) × (u.ptr ≡ (state_at k p).ptr)) →
            InnerFrom f p (state_at k p) (innermost (state_at k) (state_at k p)) u → Above u
        above (inl z) i = under_same z
        above (inr d) (inl z) = under_same z
        above (inr d) (inr (inl z)) = rw z.0 (under-own (eqb p none) d)
        above (inr d) (inr (inr z)) =
            let F = G.fits p set? in
            let a = F.main_above in
            let b = F.ptr_above in
            let w = outer-above (state_at k p) F in
            rw z (omega arith, omega arith)

        small-main : DepthsFrom f p (state_at k p) u → u.main < 256
        small-main (inl d) = omega (arith, d.0, B (head_of f (proc_at f p) + 5))
        small-main (inr d) = omega (arith, d.0, (G.fits p set?).main_byte)

        small-ptr : DepthsFrom f p (state_at k p) u → u.ptr < 256
        small-ptr (inl d) = omega (arith, d.1, B (head_of f (proc_at f p) + 6))
        small-ptr (inr d) = omega (arith, d.1, (G.fits p set?).ptr_byte)

        inner-held : InnerFrom f p (state_at k p) (innermost (state_at k) (state_at k p)) u → (u.inner ≡ none) ⊎ (is_set (state_at k u.inner) ≡ true)
        inner-held (inl z) = rw z (G.fits p set?).held
        inner-held (inr (inl z)) = inr (rw z.0 set?)
        inner-held (inr (inr z)) = rw z (outer-fit (state_at k p) (G.fits p set?))

    sendable : (os : List (ℕ × State)) → ((q : ℕ) (u : State) → Mem (q, u) os → (member q (instructions f) ≡ true) × (q < length f) × Fit k u × DepthsWithin f q u) → Sendable f k os
    sendable [] h = tt
    sendable (o ∷ os) h = (h o.0 o.1 (inl refl), sendable os (λ q u w. h q u (inr w)))

    pub known_alike : (i : Ins) → ins_at f p ≡ i →
        SameWay f (take_with f p i k (state_at k p) (innermost (state_at k) (state_at k p))) (take_in_with f p i m (state_at k p) (innermost (state_at k) (state_at k p)))
    unfolding take_with take_in_with
    known_alike i z =
        let b = (G.fits p set?).main_byte in
        let o = innermost (state_at k) (state_at k p) in
        rw (set?, lt-ltb (state_at k p).main unreached (omega arith))
        (need-alike f (all (target_tests f p i)) 5 _ _ (λ t.
        need-alike f (all (next_tests f p i)) 6 _ _ (λ n.
        need-alike f (all (depth_tests f p i (state_at k p) o)) 7 _ _ (λ d.
        need-alike f (all (leave_tests f p i (state_at k p))) 8 _ _ (λ l.
        all_alike f (passes f p i (state_at k p) o) k m G
        (sendable (passes f p i (state_at k p) o) (λ q u w.
        fit-moved q u
        (moves f p (state_at k p) o
        (record {
          targets = rw z (all_true (target_tests f p i) t);
          nexts = rw z (all_true (next_tests f p i) n);
          depths = rw z (all_true (depth_tests f p i (state_at k p) o) d);
          leaves = rw z (all_true (leave_tests f p i (state_at k p)) l);
        })
        q u (rw z w)))))))))

  unknown-alike : (p : ℕ) (i : Ins) (s s' o o' : State) → is_set s ≡ false → is_set_in s' ≡ false → SameWay f (take_with f p i k s o) (take_in_with f p i m s' o')
  unfolding take_with take_in_with
  unknown-alike p i s s' o o' a b = rw (a, b) (need-alike f (all (target_tests f p i)) 5 _ _ (λ t. refl))

  pub take-alike : (p : ℕ) → Mem p (instructions f) → SameWay f (take_one f p k) (take_in f p m)
  unfolding take_one take_in
  take-alike p h = go (is_set (state_at k p)) refl
    where
      in? : member p (instructions f) ≡ true
      in? = in-member p (instructions f) h

      go : (t : Bool) → is_set (state_at k p) ≡ t →
          SameWay f (take_with f p (ins_at f p) k (state_at k p) (innermost (state_at k) (state_at k p)))
          (take_in_with f p (ins_at f p) m (state_in m p) (innermost (state_in m) (state_in m p)))
      go true z =
          rw (in-set f k m G p in? (low p in?) z, outer-alike (state_at k p) (G.fits p z)) (known_alike p z (ins_at f p) refl)
      go false z = unknown-alike p (ins_at f p) _ _ _ _ z (set-alike f k m G p in? (low p in?) ∙ z)
