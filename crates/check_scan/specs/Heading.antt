-- The heads of a file in file order, as the scan listed them: what is still to come decides what all of them come to (`Heading`); at the
-- end the map shows the first instruction of each procedure.
use Prim.Native.Nat.{ℕ, suc, ◌+◌, ◌-◌, ◌*◌, ◌<◌, ◌≤◌}
use Rattle.std.specs.Prelude.{Bool, not, List, [], ◌∷◌, Result, Ok, Err, ◌≡◌, leb, ltb, eqb, get_or}
use Rattle.std.proofs.Math.Bool.{true, false, true≢false}
use Rattle.std.proofs.Math.Path.{refl, ap, sym}
use Rattle.std.proofs.Common.{◌∙◌}
use Rattle.std.proofs.Math.Decide.{dec_lt}
use native.Mathlib.Omega.{arith}
use Rattle.std.proofs.Math.ListN.{length}
use borrow.Author.Tests.{eq-eqb, ne_eqb, lt-ltb, le-ltb, le-leb, lt-leb}
use Rattle.model.specs.Choice.{when◌then◌else◌, Test, same, at_most, yes?, all, All, all_true, member}
use Rattle.model.specs.File.{byte_at, starts, records_of, instructions, procs, head_of, entry, head_tests, wrong, right, heads_from, heads_of}
use Rattle.model.specs.File.{params_main, params_ptr, file_most, head_size}
use Rattle.model.specs.Checker.{none, state, firsts}
use Rattle.laws_file.specs.Walk.{instruction-below}
use Rattle.laws_file.specs.Procedures.{head_whole}
use Rattle.laws.specs.Choices.{if-self}
use Rattle.laws.specs.Members.{member-in}
use Rattle.code_file.specs.Heads.{proc_head, HeadIs, head-of}
use Rattle.code_file.specs.declared.Head.{Head}
use Rattle.check_scan.specs.Marks.{put_in, PartShows, starts-here, put-shows}
use Rattle.model.specs.declared.Refusal.TheVariants as refusal
use Rattle.model.specs.declared.RefusedAt.{RefusedAt}

-- the rules of head k on its numbers, as the model's head_tests has them
abbrev number_list : Head → ℕ → List Test
number_list h k = at_most (suc k) 64 ∷ same (when eqb k 0 then h.a else 0) 0 ∷ same (when eqb k 0 then h.b else 0) 0 ∷ []

abbrev head_list : Head → ℕ → Bool → List Test
head_list h k t =
    at_most h.a h.x ∷ at_most h.r h.x ∷ at_most h.b h.y ∷ at_most h.s h.y ∷ yes? t ∷ number_list h k

unfoldable pub number_ok : Head → ℕ → Bool
number_ok h k = all (number_list h k)

module _ (h : Head) (k : ℕ) where
  pub number-many : 64 ≤ k → false ≡ number_ok h k
  unfolding number_ok
  number-many l = rw (lt-leb (suc k) 64 (omega arith))

  pub number-later : k < 64 → (k ≡ 0 → ⊥) → true ≡ number_ok h k
  unfolding number_ok
  number-later l z = rw (le-leb (suc k) 64 (omega arith), ne_eqb k 0 z)

  pub number-first : k < 64 → k ≡ 0 → (h.a ≡ 0 → ⊥) → false ≡ number_ok h k
  unfolding number_ok
  number-first l z a = rw (z, ne_eqb h.a 0 a)

  pub number-last : k < 64 → k ≡ 0 → h.a ≡ 0 → eqb h.b 0 ≡ number_ok h k
  unfolding number_ok
  number-last l z a = rw (z, eq-eqb h.a 0 a) (if-self (eqb h.b 0))

-- head k is right where an instruction starts behind it
unfoldable pub head_ok : Head → ℕ → Bool
head_ok h k = all (head_list h k true)

-- parameters and results of a stack lie within its greatest depth
abbrev pub within : ℕ → ℕ → ℕ → Bool
within a r x = when leb a x then leb r x else false

-- the rules of a head, stack by stack
pub head-stacks : (h : Head) (k : ℕ) → head_ok h k ≡ (when within h.a h.r h.x then (when within h.b h.s h.y then number_ok h k else false) else false)
unfolding head_ok number_ok
head-stacks h k = go (leb h.a h.x) (leb h.r h.x) (leb h.b h.y) (leb h.s h.y) (all (number_list h k))
  where
    go : (a r b s n : Bool) →
        (when a then (when r then (when b then (when s then n else false) else false) else false) else false)
        ≡ (when (when a then r else false) then (when (when b then s else false) then n else false) else false)
    go true true true true n = refl
    go true true true false n = refl
    go true true false s n = refl
    go true false b s n = refl
    go false r b s n = refl

unfoldable pub starts_at : List ℕ → ℕ → ℕ → Bool
starts_at m n q = when ltb q n then not (eqb (get_or m (3 * q) 0) none) else false

-- the map and the table as the scan left them: n heads, the 65th at last
pub record ScanMarked (f m table : List ℕ) (n last : ℕ) : Type 0 where
  pub some : 1 ≤ length f
  pub few : length f ≤ file_most
  pub bytes : (i : ℕ) → byte_at f i < 256
  pub places : List ℕ
  pub whole : records_of f ≡ starts places
  pub shows : PartShows f [] m
  pub count : n ≡ procs f
  pub listed : (i : ℕ) → i < 64 → get_or table i 0 ≡ head_of f i
  pub later : 64 < n → last ≡ head_of f 64

-- the table has the k heads of the file
pub record Placed (f table : List ℕ) (k : ℕ) : Type 0 where
  pub count : k ≡ procs f
  pub few : k ≤ 64
  pub heads : (n : ℕ) → n < 64 → get_or table n 0 ≡ head_of f n

-- refusal 4 at p
abbrev pub wrong_at : ℕ → Result ℕ RefusedAt
wrong_at p = Err (record { refusal = refusal.Heads; place = p })

abbrev pub Headed : List ℕ → List ℕ → List ℕ → Result ℕ RefusedAt → Type 0
Headed f m table (Err r) = (r.refusal ≡ refusal.Heads) × (heads_of f ≡ wrong r.place) × (length m ≡ 3 * length f)
Headed f m table (Ok k) = (heads_of f ≡ right) × Placed f table k × PartShows f (firsts f k) m

-- k heads are done
pub record Heading (f m : List ℕ) (k : ℕ) : Type 0 where
  pub few : k ≤ 64
  pub most_k : k ≤ procs f
  pub so_far : heads_of f ≡ heads_from f (procs f - k) k
  pub shows : PartShows f (firsts f k) m

module _ {f m₀ table : List ℕ} {n last : ℕ} (M : ScanMarked f m₀ table n last) where
  pub heading-start : Heading f m₀ 0
  unfolding heads_of firsts
  heading-start =
      record {
        few = omega arith;
        most_k = omega arith;
        so_far = let z : procs f ≡ procs f - 0 = omega arith in ap (λ (j : ℕ). heads_from f j 0) z;
        shows = M.shows;
      }

  module _ {m : List ℕ} {k : ℕ} (H : Heading f m k) where
    -- all are done
    pub heading-end : n ≤ k → Headed f m table (Ok n)
    unfolding heads_from
    heading-end l =
        let c = M.count in
        let b = H.most_k in
        let z : procs f - k ≡ 0 = omega arith in
        let e : n ≡ k = omega arith in
        (H.so_far ∙ rw z, record { count = c; few = let w = H.few in omega arith; heads = M.listed }, rw e H.shows)

    module _ (below : k < n) where
      one_more : k < procs f
      one_more = let c = M.count in omega arith

      come : heads_of f ≡ (when all (head_tests f k) then heads_from f (procs f - suc k) (suc k) else wrong (head_of f k))
      unfolding heads_from
      come =
          let a = one_more in
          let z : (procs f - k) ≡ suc (procs f - suc k) = omega arith in
          H.so_far ∙ rw z

      -- a head that does not pass all its tests is the first at fault
      at-fault : (p : ℕ) → head_of f k ≡ p → (All (head_tests f k) → ⊥) → Headed f m table (wrong_at p)
      at-fault p is fails = (refl, come ∙ rw (go (all (head_tests f k)) refl, is), H.shows.long)
        where
          go : (t : Bool) → all (head_tests f k) ≡ t → all (head_tests f k) ≡ false
          go true e = absurd (fails (all_true (head_tests f k) e))
          go false e = e

      -- the 65th is one too many
      pub heading-many : 64 ≤ k → Headed f m table (wrong_at last)
      unfolding head_tests
      heading-many l =
          let few = H.few in
          let z : 64 ≡ k = omega arith in
          at-fault last (rw z at (sym (M.later (omega arith)))) (λ A. omega (arith, A.1.1.1.1.1.0))

      module _ {p : ℕ} (p-is : p ≡ get_or table k 0) (low : k < 64) where
        head-is : head_of f k ≡ p
        head-is = sym (M.listed k low) ∙ sym p-is

        entry-is : entry f k ≡ p + head_size
        unfolding entry
        entry-is = rw head-is

        pub heading-whole : p + 6 < length f
        heading-whole = rw (← head-is) (head_whole f M.places M.whole k)

        starts-are : starts_at m (length f) (p + head_size) ≡ member (p + head_size) (instructions f)
        unfolding starts_at
        starts-are = go (dec_lt (p + head_size) (length f))
          where
            far : (t : Bool) → member (p + head_size) (instructions f) ≡ t → length f ≤ p + head_size → false ≡ t
            far true w l = let b = instruction-below f M.places M.whole (p + head_size) (member-in (p + head_size) (instructions f) w) in absurd (omega arith)
            far false w l = refl

            flip : (t : Bool) → not (not t) ≡ t
            flip true = refl
            flip false = refl

            go : Dec (p + head_size < length f) →
                (when ltb (p + head_size) (length f) then not (eqb (get_or m (3 * (p + head_size)) 0) none) else false) ≡ member (p + head_size) (instructions f)
            go (yes l) = rw (lt-ltb (p + head_size) (length f) l, starts-here f (firsts f k) m H.shows (p + head_size) l) (flip (member (p + head_size) (instructions f)))
            go (no l) = rw (le-ltb (p + head_size) (length f) (omega arith)) (far (member (p + head_size) (instructions f)) refl (omega arith))

        -- no instruction starts behind it
        pub heading-alone : {t : Bool} → t ≡ starts_at m (length f) (p + head_size) → t ≡ false → Headed f m table (wrong_at p)
        unfolding head_tests
        heading-alone t-is e =
            let n : member (p + head_size) (instructions f) ≡ false = sym starts-are ∙ sym t-is ∙ e in
            at-fault p head-is (λ A. let y = A.1.1.1.1.0 in true≢false (sym (rw entry-is at y) ∙ n))

        -- one does
        module _ {t : Bool} (t-is : t ≡ starts_at m (length f) (p + head_size)) (there : t ≡ true) where
          in_file : member (p + head_size) (instructions f) ≡ true
          in_file = sym starts-are ∙ sym t-is ∙ there

          pub heading-fits : (p + head_size < length f) × (3 * (p + head_size) + 2 < length m)
          heading-fits =
              let a = instruction-below f M.places M.whole (p + head_size) (member-in (p + head_size) (instructions f) in_file) in
              let l = H.shows.long in
              (a, omega arith)

          module _ {head : Head} {ok : Bool} (h-is : HeadIs f p head) (ok-is : ok ≡ head_ok head k) where
            same_head : head ≡ proc_head f k
            same_head = h-is.is ∙ head-of f k p (sym head-is)

            ok-all : ok ≡ all (head_tests f k)
            unfolding head_ok head_tests proc_head
            ok-all =
                let u : true ≡ member (entry f k) (instructions f) = sym in_file ∙ ap (λ (q : ℕ). member q (instructions f)) (sym entry-is) in
                let e = same_head in
                ok-is ∙ ap all (λ i. head_list (e i) k (u i))

            pub heading-wrong : ok ≡ false → Headed f m table (wrong_at p)
            heading-wrong e = (refl, come ∙ rw (sym ok-all ∙ e, head-is), H.shows.long)

            pub heading-right : {m' : List ℕ} → ok ≡ true → m' ≡ put_in m (p + head_size) (state head.a head.b none) → Heading f m' (k + 1)
            unfolding firsts proc_head
            heading-right e me =
                let s : k + 1 ≡ suc k = omega arith in
                let one = one_more in
                let same-state : state head.a head.b none ≡ state (params_main f k) (params_ptr f k) none =
                ap (λ (v : Head). state v.a v.b none) same_head in
                rw s
                (record {
                  few = omega arith;
                  most_k = omega arith;
                  so_far = come ∙ rw (sym ok-all ∙ e);
                  shows = rw (me, entry-is, ← same-state)
                      (put-shows f (firsts f k) m H.shows (p + head_size) (state head.a head.b none)
                      (rw (ne_eqb head.a none (let a = h-is.a_small in omega arith))) in_file heading-fits.0);
                })
