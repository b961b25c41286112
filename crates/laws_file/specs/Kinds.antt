-- A number that a match has found to be one of a list, or none of several: what holds at each code of the list holds at it, and a code in none of the lists
-- is one of those that they leave out.
use Rattle.std.specs.Prelude.{ℕ, Bool, true, false, List, [], ◌∷◌, ◌⊎◌, ◌≡◌, refl, T, eqb}
use Rattle.std.proofs.Common.{true≢false, inl, inr, ⊎_elim, sym, ◌∙◌, eqb→eq, ne_eqb}
use Rattle.std.proofs.Math.Decide.{ℕ_discrete}
use Rattle.model.specs.Choice.{member, when◌then◌else◌}
use Rattle.model.specs.File as model
use Rattle.model.specs.File.{listed}

-- k is one of the numbers, as a match's arm tells it
abbrev pub OneOf : List ℕ → ℕ → Type 0
OneOf [] k = ⊥
OneOf (n ∷ []) k = k ≡ n
OneOf (n ∷ m ∷ ns) k = (k ≡ n) ⊎ OneOf (m ∷ ns) k

-- k is in none of the lists, as a match's last arm tells it; the last list is the first arm's
abbrev pub NoneOf : List (List ℕ) → ℕ → Type 0
NoneOf [] k = Unit {0}
NoneOf (ns ∷ nss) k = NoneOf nss k × (OneOf ns k → ⊥)

-- of two codes, the one that a test has left
pub other : {A B : Type 0} → A ⊎ B → (A → ⊥) → B
other (inl a) n = absurd (n a)
other (inr b) n = b

-- a statement at each of the numbers
abbrev pub AtEach : (ℕ → Type 0) → List ℕ → Type 0
AtEach P [] = Unit {0}
AtEach P (n ∷ ns) = P n × AtEach P ns

pub at_each : (P : ℕ → Type 0) (ns : List ℕ) (k : ℕ) → AtEach P ns → OneOf ns k → P k
at_each P (n ∷ []) k h e = rw e h.0
at_each P (n ∷ m ∷ ns) k h (inl e) = rw e h.0
at_each P (n ∷ m ∷ ns) k h (inr o) = at_each P (m ∷ ns) k h.1 o
at_each P [] k h e = elim e [ ]

pub and_both : (t u : Bool) → T (when t then u else false) → T t × T u
and_both true u h = (tt, h)
and_both false u h = absurd h

-- n is in one of the lists
abbrev pub among : List (List ℕ) → ℕ → Bool
among [] n = false
among (ns ∷ nss) n = when member n ns then true else among nss n

or-either : (t u : Bool) → T (when t then true else u) → T t ⊎ T u
or-either true u h = inl tt
or-either false u h = inr h

one_of : (ns : List ℕ) (n : ℕ) → T (member n ns) → OneOf ns n
one_of [] n t = t
one_of (m ∷ []) n t = ⊎_elim (λ q. eqb→eq n m q) (λ r. absurd r) (or-either (eqb n m) false t)
one_of (m ∷ l ∷ ns) n t =
    ⊎_elim (λ q. inl (eqb→eq n m q)) (λ r. inr (one_of (l ∷ ns) n r)) (or-either (eqb n m) (member n (l ∷ ns)) t)

none-of : (nss : List (List ℕ)) (k : ℕ) → NoneOf nss k → (n : ℕ) → T (among nss n) → k ≡ n → ⊥
none-of [] k h n t e = t
none-of (ns ∷ nss) k h n t e =
    ⊎_elim
    (λ q. h.1 (rw e (one_of ns n q)))
    (λ r. none-of nss k h.0 n r e)
    (or-either (member n ns) (among nss n) t)

-- the codes of a table are among the numbers
abbrev keys_among : List (List ℕ) → List (ℕ × ℕ) → Bool
keys_among nss [] = true
keys_among nss (r ∷ rs) = when among nss r.0 then keys_among nss rs else false

-- whether k is one of the numbers
pub one_of? : (ns : List ℕ) (k : ℕ) → Dec (OneOf ns k)
one_of? [] k = no (λ e. e)
one_of? (n ∷ []) k = ℕ_discrete k n
one_of? (n ∷ m ∷ ns) k = either (ℕ_discrete k n) (one_of? (m ∷ ns) k)
  where
    either : Dec (k ≡ n) → Dec (OneOf (m ∷ ns) k) → Dec (OneOf (n ∷ m ∷ ns) k)
    either (yes e) d = yes (inl e)
    either (no u) (yes e) = yes (inr e)
    either (no u) (no v) = no (λ o. v (other o u))

-- a code that is in none of the lists is one of those that they leave out
listed-none : (nss : List (List ℕ)) (k : ℕ) → NoneOf nss k → (rs : List (ℕ × ℕ)) → T (keys_among nss rs) → listed rs k ≡ false
listed-none nss k h [] t = refl
listed-none nss k h (r ∷ rs) t =
    let g = and_both (among nss r.0) (keys_among nss rs) t in
    rw (ne_eqb k r.0 (none-of nss k h r.0 g.0)) (listed-none nss k h rs g.1)

pub last_code : (nss : List (List ℕ)) (ns : List ℕ) → T (keys_among (ns ∷ nss) model.codes) → (k : ℕ) → NoneOf nss k → listed model.codes k ≡ true → OneOf ns k
last_code nss ns t k h is = go (one_of? ns k)
  where
    go : Dec (OneOf ns k) → OneOf ns k
    go (yes e) = e
    go (no u) = absurd (true≢false (sym is ∙ listed-none (ns ∷ nss) k (h, u) model.codes t))
