-- What the functions answer that read the map and pass a state on, and what they rest on.
use Rattle.std.specs.Prelude.{ℕ, zero, suc, ◌+◌, ◌*◌, ◌<◌, ◌≤◌, Bool, true, false, List, [], ◌∷◌, ◌⊎◌, Result, Ok, Err, ◌≡◌, refl, length, get_or}
use Rattle.std.proofs.Common.{ap, sym, ◌∙◌, arith, lt-ltb, le-ltb, eq-eqb, ne_eqb}
use Rattle.model.specs.Choice.{when◌then◌else◌}
use Rattle.model.specs.Checker.{none, State, state, innermost, Taking, bad, good, and_take}
use Rattle.check_rows.specs.declared.State.{State as Numbers}
use Rattle.check_rows.specs.Tests.{as_state}
use Rattle.check_rows.specs.Rows.{is_set_in}
use Rattle.check_scan.specs.Marks.{unreached, state_in, put_in}
use Rattle.model.specs.declared.Refusal.{Refusal}
use Rattle.model.specs.declared.Refusal.TheVariants.{Reach}
use Rattle.laws.specs.Members.{get_d_any}
use Rattle.check_ways.specs.Takes.{pass_one_in, pass_all_in}
use Rattle.model.specs.File.{file_most}

-- the number of a refusal, 0 for none
abbrev pub take_ans : ℕ → List ℕ → Taking (List ℕ)
take_ans zero m = good m
take_ans (suc n) m = bad (suc n)

-- three numbers of the map, read
pub record StateIs (m : List ℕ) (q : ℕ) (r : Numbers) : Type 0 where
  pub is : as_state r ≡ state_in m q
  pub main_small : r.main < 65536
  pub ptr_small : r.ptr < 65536
  pub inner_small : r.inner < 65536

-- the state there, or refusal 6 where none has come
abbrev pub ReachedState : List ℕ → ℕ → Result Numbers Refusal → Type 0
ReachedState m q (Ok s) = StateIs m q s × (is_set_in (as_state s) ≡ true)
ReachedState m q (Err r) = (r ≡ Reach) × (is_set_in (state_in m q) ≡ false)

pub record OuterIs (m : List ℕ) (s : State) (r : Numbers) : Type 0 where
  pub is : as_state r ≡ innermost (state_in m) s
  pub inner_small : r.inner < 65536

-- a handler's place: none, or one that the map has
abbrev pub HandlerIn : List ℕ → ℕ → Type 0
HandlerIn m h = (h ≡ none) ⊎ ((3 * h + 2 < length m) × (h < file_most))

-- the handler of a state read is the one that the map has there
pub held-as : (m : List ℕ) (q : ℕ) (r : Numbers) → StateIs m q r → HandlerIn m (state_in m q).inner → HandlerIn m r.inner
held-as m q r I h = rw (ap (λ (s : State). s.inner) I.is) h

-- a place that a state is passed to lies in the part, and the state's numbers fit it
pub record Fitting (m : List ℕ) (q : ℕ) (s : State) : Type 0 where
  pub inside : 3 * q + 2 < length m
  pub low : q < file_most
  pub main_small : s.main < 65536
  pub ptr_small : s.ptr < 65536
  pub inner_small : s.inner < 65536

pub fitting : {m : List ℕ} {q : ℕ} {s : State} → (3 * q + 2 < length m) × (q < file_most) → s.main < 65536 → s.ptr < 65536 → s.inner < 65536 → Fitting m q s
fitting w a b c = record { inside = w.0; low = w.1; main_small = a; ptr_small = b; inner_small = c }

-- of two states that fit, either does
pub fits-either : {m : List ℕ} {q : ℕ} {s t : State} (k : Bool) → Fitting m q s → Fitting m q t → Fitting m q (when k then s else t)
fits-either true a b = a
fits-either false a b = b

-- the functions' answers, with plain arguments
pub state_is : (m : List ℕ) (q a b c : ℕ) → 3 * q + 2 < length m → a ≡ get_or m (3 * q) 0 → b ≡ get_or m (3 * q + 1) 0 → c ≡ get_or m (3 * q + 2) 0 →
    state a b c ≡ state_in m q
unfolding state_in
state_is m q a b c l ea eb ec =
    let e0 = ea ∙ get_d_any m (3 * q) 0 none (omega arith) in
    let e1 = eb ∙ get_d_any m (3 * q + 1) 0 none (omega arith) in
    let e2 = ec ∙ get_d_any m (3 * q + 2) 0 none (omega arith) in
    λ i. state (e0 i) (e1 i) (e2 i)

-- the state at the innermost open 160, by cases
module _ (m : List ℕ) (s : State) where
  pub none-innermost : s.inner ≡ none → state 0 0 none ≡ innermost (state_in m) s
  none-innermost z = rw (eq-eqb s.inner none z)

  pub outer-some : (u : State) → (s.inner ≡ none → ⊥) → u ≡ state_in m s.inner → u ≡ innermost (state_in m) s
  outer-some u z e = rw (ne_eqb s.inner none z) e

-- one state passed on, by cases of the state t that is there
module _ (m : List ℕ) (q : ℕ) (t s : State) (is : t ≡ state_in m q) where
  pub pass-new : (m' : List ℕ) → unreached ≤ t.main → m' ≡ put_in m q s → good m' ≡ pass_one_in m q s
  pass-new m' l e = rw (← is, le-ltb t.main unreached l, e)

  pub pass-main : t.main < unreached → (t.main ≡ s.main → ⊥) → bad 9 ≡ pass_one_in m q s
  pass-main l n = rw (← is, lt-ltb t.main unreached l, ne_eqb t.main s.main n)

  module _ (l : t.main < unreached) (same : t.main ≡ s.main) where
    pub pass-ptr : (t.ptr ≡ s.ptr → ⊥) → bad 9 ≡ pass_one_in m q s
    pass-ptr n = rw (← is, lt-ltb t.main unreached l, eq-eqb t.main s.main same, ne_eqb t.ptr s.ptr n)

    pub pass-inner : t.ptr ≡ s.ptr → (t.inner ≡ s.inner → ⊥) → bad 9 ≡ pass_one_in m q s
    pass-inner e n =
        rw (← is, lt-ltb t.main unreached l, eq-eqb t.main s.main same, eq-eqb t.ptr s.ptr e, ne_eqb t.inner s.inner n)

    pub pass_same : t.ptr ≡ s.ptr → t.inner ≡ s.inner → good m ≡ pass_one_in m q s
    pass_same e i =
        rw (← is, lt-ltb t.main unreached l, eq-eqb t.main s.main same, eq-eqb t.ptr s.ptr e, eq-eqb t.inner s.inner i)

pub and-end : (s : Taking (List ℕ)) → and_take s (λ m. good m) ≡ s
and-end (bad n) = refl
and-end (good m) = refl

-- of two states passed on, the second by another name
pub second-as : (m : List ℕ) (q t : ℕ) (s : State) {u v : State} → u ≡ v → pass_all_in ((q, s) ∷ (t, u) ∷ []) m ≡ pass_all_in ((q, s) ∷ (t, v) ∷ []) m
second-as m q t s e = ap (λ (w : State). pass_all_in ((q, s) ∷ (t, w) ∷ []) m) e

-- two states passed on, one after the other
module _ (m : List ℕ) (q t : ℕ) (s u : State) where
  pub both_first : (n : ℕ) (m' : List ℕ) → (n ≡ 0 → ⊥) → take_ans n m' ≡ pass_one_in m q s → take_ans n m' ≡ pass_all_in ((q, s) ∷ (t, u) ∷ []) m
  both_first zero m' z e = absurd (z refl)
  both_first (suc n) m' z e = rw (← e)

  pub both-second : (n : ℕ) (m' m'' : List ℕ) → take_ans 0 m' ≡ pass_one_in m q s → take_ans n m'' ≡ pass_one_in m' t u →
      take_ans n m'' ≡ pass_all_in ((q, s) ∷ (t, u) ∷ []) m
  both-second n m' m'' e h = h ∙ sym (and-end (pass_one_in m' t u)) ∙ rw (← e)
