-- The instructions in file order: those still to come decide what the flow comes to, and at the end the part is the finished map.
use Prim.Native.Nat.{ℕ, zero, suc, ◌+◌, ◌-◌, ◌*◌, ◌<◌, ◌≤◌}
use Rattle.std.specs.Prelude.{Bool, ◌⊎◌, Result, Ok, Err, ◌≡◌}
use Rattle.std.proofs.Math.Bool.{true, false, true≢false, not}
use mathlib.Core.List.{List, [], ◌∷◌}
use Rattle.std.proofs.Math.Logic.{inl, inr}
use Rattle.std.proofs.Math.Path.{refl, ap, sym}
use Rattle.std.proofs.Common.{◌∙◌, length-drop, get_or-drop, drop-drop}
use Rattle.std.proofs.Math.Decide.{ℕ_discrete, dec_lt}
use native.Mathlib.Omega.{arith}
use Rattle.std.proofs.Math.Dec.{ltb}
use Rattle.std.proofs.Math.ListN.{length, get_or, drop}
use borrow.Author.Tests.{lt-ltb, le-ltb, eq-eqb, ne_eqb, eqb-true}
use Rattle.model.specs.Choice.{when◌then◌else◌, Mem, member}
use Rattle.model.specs.File.{unknown, body_of, byte_at, after, whole?, Records, starts, records_of, starts_in, is_head, select, instructions, heads}
use Rattle.model.specs.File.{procs, head_of, proc_at, greatest_main, greatest_ptr, file_most, head_kind}
use Rattle.model.specs.Checker.{none, State, state, is_set, Known, state_at, innermost, own, firsts, Taking, bad, good, refused, passed, go_on, take_one, take_all, flow, map_from}
use Rattle.laws_file.specs.Walk.{instructions-others, instructions-are, Walk, walk-above, records-walk, after-above, first_head, instruction-below, HeadsHold}
use Rattle.laws_file.specs.Procedures.{end_of, head-zero, head-none, head_whole, end_low, between}
use Rattle.laws.specs.Members.{member-in, in-member, select_in, in-select}
use Rattle.theory_checker.proofs.Flow.{own-in, keeps-shape, flow-keeps, flow-rest}
use Rattle.laws_file.specs.Rest.{rest_of, rest_end, rest-inv, whole-inside, records-first}
use Rattle.check_scan.specs.Marks.{unreached, state_in}
use Rattle.check_scan.specs.Heading.{Placed}
use Rattle.check_rows.specs.Site.{Table}
use Rattle.check_ways.specs.Takes.{own_in, take_in}
use Rattle.check_ways.specs.Faults.{take_ans, HandlerIn}
use Rattle.check_ways.specs.Ways.{Here}
use Rattle.check_flow.specs.Own.{own-alike}
use Rattle.check_flow.specs.Alike.{Good, SameWay, take-alike, in-set, in-unset, outer-alike}
use Rattle.check_flow.specs.Numbered.{number-some}
use Rattle.model.specs.Refusals.{number_of}
use Rattle.model.specs.declared.Refusal.{Refusal}
use Rattle.model.specs.declared.RefusedAt.{RefusedAt}

-- the records and heads of a file are right, and its part shows the first instructions
pub record Begun (f m table : List ℕ) (k : ℕ) : Type 0 where
  pub some : 1 ≤ length f
  pub few : length f ≤ file_most
  pub bytes : (i : ℕ) → byte_at f i < 256
  pub places : List ℕ
  pub records : records_of f ≡ starts places
  pub heads_hold : HeadsHold f
  pub placed : Placed f table k
  pub good : Good f (firsts f k) m

-- what the flow comes to
abbrev pub Flowed : List ℕ → List ℕ → ℕ → Result ℕ RefusedAt → Type 0
Flowed f m n (Ok j) = (j ≡ n) × ((k : Known) × (flow f ≡ passed k) × (m ≡ map_from k (length f) 0))
Flowed f m n (Err r) = flow f ≡ refused (number_of r.refusal) r.place

-- a refusal is no pass
pub refuse-pass : {A T E : Type 0} (r : E) (k : T) → ◌≡◌ {A = Result T E} (Err r) (Ok k) → A
refuse-pass r k z = let v : ◌≡◌ {A = ℕ} 0 1 = cc in absurd (omega arith)

abbrev pub ins : List ℕ → List ℕ → List ℕ
ins f ps = select (λ p. not (is_head f p)) ps

-- the first of what is left is the next
head_first : (c : ℕ) (l : List ℕ) (x : ℕ) (xs : List ℕ) → drop c l ≡ x ∷ xs → get_or l c 0 ≡ x
head_first c l x xs e =
    let w : c ≡ c + 0 = omega arith in
    ap (λ (n : ℕ). get_or l n 0) w ∙ sym (get_or-drop c l 0 0) ∙ ap (λ (r : List ℕ). get_or r 0 0) e

whole-known : (f : List ℕ) (p : ℕ) → whole? f p ≡ true → body_of (byte_at f p) ≡ unknown → ⊥
unfolding whole?
whole-known f p e z = true≢false (sym e ∙ rw (eq-eqb (body_of (byte_at f p)) unknown z))

-- the end of the procedure behind c heads
abbrev pub end_in : List ℕ → ℕ → ℕ → ℕ → ℕ
end_in table k c n = when ltb c k then get_or table c 0 else n

-- at p, behind c heads, in the procedure between h and e
pub record Flowing (f m table : List ℕ) (k p c h e : ℕ) : Type 0 where
  pub rest : List ℕ
  pub rest_is : rest_of f p ≡ starts rest
  pub part : (q : ℕ) → Mem q rest → Mem q (starts_in (records_of f))
  pub to_come : drop c (heads f) ≡ select (is_head f) rest
  pub most_c : c ≤ procs f
  pub known : Known
  pub good : Good f known m
  pub so_far : flow f ≡ take_all f (ins f rest) known
  pub in_proc : (p ≡ 0) ⊎ ((1 ≤ c) × (h ≡ head_of f (c - 1)) × (e ≡ end_of f c) × (h < p))
  pub low : p ≤ length f

module _ {f m₀ table : List ℕ} {k : ℕ} (B : Begun f m₀ table k) where
  pub flowing-start : Flowing f m₀ table k 0 0 0 0
  unfolding heads flow
  flowing-start =
      let e = B.records in
      let z = first_head f B.places e in
      record {
        rest = B.places;
        rest_is = sym (records-first f z) ∙ e;
        part = λ q i. rw e i;
        to_come = ap (λ (r : Records). select (is_head f) (starts_in r)) e;
        most_c = omega arith;
        known = firsts f k;
        good = B.good;
        so_far = rw (instructions-are f B.places e, ← B.placed.count);
        in_proc = inl refl;
        low = omega arith;
      }

  pub begun-table : Table f table k
  begun-table =
      record {
        count = B.placed.count;
        few = B.placed.few;
        heads = B.placed.heads;
        none = λ n l. head-none f B.places B.records n (rw B.placed.count at l);
        whole = head_whole f B.places B.records;
      }

  pub begun-whole : 0 + 6 < length f
  begun-whole = let w = begun-table.whole 0 in let z = head-zero f B.places B.records in omega arith

  module _ {m : List ℕ} {p c h e : ℕ} (F : Flowing f m table k p c h e) (below : p < length f) where
    next-is : (whole? f p ≡ true) × ((qs : List ℕ) × (rest_of f (after f p) ≡ starts qs) × (F.rest ≡ p ∷ qs))
    next-is = rest-inv f p F.rest below F.rest_is

    part-next : (q : ℕ) → Mem q next-is.1.0 → Mem q (starts_in (records_of f))
    part-next q i = F.part q (rw next-is.1.2 (inr i))

    pub flowing-inside : after f p ≤ length f
    flowing-inside = whole-inside f p next-is.0

    -- a head: the next procedure begins
    pub flowing-head : {e' : ℕ} → byte_at f p ≡ head_kind → e' ≡ end_in table k (c + 1) (length f) → Flowing f m table k (after f p) (c + 1) p e'
    unfolding is_head head_of procs end_of
    flowing-head z ee =
        let heads-are : drop c (heads f) ≡ p ∷ select (is_head f) next-is.1.0 =
        F.to_come ∙ ap (select (is_head f)) next-is.1.2 ∙ rw (eq-eqb (byte_at f p) head_kind z) in
        let a : length (heads f) - c ≡ suc (length (select (is_head f) next-is.1.0)) = sym (length-drop c (heads f)) ∙ ap length heads-are in
        let at : get_or (heads f) c 0 ≡ p = head_first c (heads f) p (select (is_head f) next-is.1.0) heads-are in
        let skip : ins f F.rest ≡ ins f next-is.1.0 =
        ap (ins f) next-is.1.2 ∙ rw (eq-eqb (byte_at f p) head_kind z) in
        let up = after-above f p in
        record {
          rest = next-is.1.0;
          rest_is = next-is.1.1;
          part = part-next;
          to_come = sym (drop-drop 1 c (heads f)) ∙ ap (drop 1) heads-are;
          most_c = omega arith;
          known = F.known;
          good = F.good;
          so_far = F.so_far ∙ ap (λ (l : List ℕ). take_all f l F.known) skip;
          in_proc = inr (
            omega arith,
            (let w : c + 1 - 1 ≡ c = omega arith in sym (ap (λ (n : ℕ). get_or (heads f) n 0) w ∙ at)),
            ee ∙ ends (c + 1) B.placed.count (dec_lt (c + 1) k),
            omega arith,
          );
          low = flowing-inside;
        }
      where
        ends : (n : ℕ) → k ≡ length (heads f) → Dec (n < k) → end_in table k n (length f) ≡ (when ltb n (length (heads f)) then get_or (heads f) n 0 else length f)
        ends n q (yes l) =
            let g = B.placed.few in
            rw (lt-ltb n k l, lt-ltb n (length (heads f)) (omega arith)) (B.placed.heads n (omega arith))
        ends n q (no l) = rw (le-ltb n k (omega arith), le-ltb n (length (heads f)) (omega arith))

    module _ (other : byte_at f p ≡ head_kind → ⊥) where
      ins-are : ins f F.rest ≡ p ∷ ins f next-is.1.0
      unfolding is_head
      ins-are = ap (ins f) next-is.1.2 ∙ rw (ne_eqb (byte_at f p) head_kind other)

      heads-are : select (is_head f) F.rest ≡ select (is_head f) next-is.1.0
      unfolding is_head
      heads-are = ap (select (is_head f)) next-is.1.2 ∙ rw (ne_eqb (byte_at f p) head_kind other)

      pub flowing-ins : Mem p (instructions f)
      unfolding is_head
      flowing-ins =
          rw (instructions-others f)
          (in-select (λ q. not (is_head f q)) (starts_in (records_of f)) p (F.part p (rw next-is.1.2 (inl refl)))
          (rw (ne_eqb (byte_at f p) head_kind other)))

      -- the procedure that p lies in
      record InProc : Type 0 where
        one : 1 ≤ c
        head : h ≡ head_of f (c - 1)
        end : e ≡ end_of f c
        above : h < p
        before : p < end_of f c

      in_proc : InProc
      in_proc = go F.in_proc
        where
          walk-rest : Walk f p F.rest
          walk-rest = unfold rest_of in records-walk f (length f) p F.rest (omega arith) F.rest_is

          next-head : c < procs f → p < head_of f c
          next-head l =
              let w : Mem (get_or (drop c (heads f)) 0 0) (drop c (heads f)) = first-in (drop c (heads f)) (some_left l) in
              let z : c + 0 ≡ c = omega arith in
              let v : get_or (drop c (heads f)) 0 0 ≡ head_of f c = get_or-drop c (heads f) 0 0 ∙ ap (λ (n : ℕ). get_or (heads f) n 0) z ∙ (unfold head_of in refl) in
              let u : Mem (head_of f c) (select (is_head f) F.rest) = rw (v, F.to_come) at w in
              let t = select_in (is_head f) F.rest (head_of f c) u in
              let a = (walk-above f p F.rest walk-rest (head_of f c) t.0).0 in
              far a t.1 (ℕ_discrete p (head_of f c))
            where
              some_left : c < procs f → 0 < length (drop c (heads f))
              some_left l = rw (length-drop c (heads f)) (unfold procs in omega arith)

              first-in : (l : List ℕ) → 0 < length l → Mem (get_or l 0 0) l
              first-in [] z = absurd (omega arith)
              first-in (x ∷ l) z = inl refl

              far : p ≤ head_of f c → is_head f (head_of f c) ≡ true → Dec (p ≡ head_of f c) → p < head_of f c
              far a t (yes z) = absurd (other (rw z (eqb-true (byte_at f (head_of f c)) head_kind (unfold is_head in t))))
              far a t (no z) = omega arith

          go : (p ≡ 0) ⊎ ((1 ≤ c) × (h ≡ head_of f (c - 1)) × (e ≡ end_of f c) × (h < p)) → InProc
          go (inl z) = absurd (other (rw z (first_head f B.places B.records)))
          go (inr w) = record { one = w.0; head = w.1; end = w.2; above = w.3; before = ends (dec_lt c (procs f)) }
            where
              ends : Dec (c < procs f) → p < end_of f c
              ends (yes l) = unfold end_of in rw (lt-ltb c (procs f) l) (next-head l)
              ends (no l) = unfold end_of in rw (le-ltb c (procs f) (omega arith)) below

      n-low : c - 1 < procs f
      n-low = let a = in_proc.one in let b = F.most_c in omega arith

      proc-is : proc_at f p ≡ c - 1
      proc-is =
          let I = in_proc in
          let z : c - 1 + 1 ≡ c = let a = I.one in omega arith in
          between f B.places B.records (c - 1) p n-low (let a = I.head in let b = I.above in omega arith) (rw z I.before)

      held : HandlerIn m (state_in m p).inner
      held = go (is_set (state_at F.known p)) refl
        where
          G : Good f F.known m
          G = F.good

          in? : member p (instructions f) ≡ true
          in? = in-member p (instructions f) flowing-ins

          place : (q : ℕ) → is_set (state_at F.known q) ≡ true → (3 * q + 2 < length m) × (q < file_most)
          place q h =
              let a = instruction-below f B.places B.records q (member-in q (instructions f) (G.shows.only q h)) in
              let l = G.shows.long in
              let b = B.few in
              (omega arith, omega arith)

          to_held : (q : ℕ) → (q ≡ none) ⊎ (is_set (state_at F.known q) ≡ true) → HandlerIn m q
          to_held q (inl z) = inl z
          to_held q (inr z) = inr (place q z)

          go : (t : Bool) → is_set (state_at F.known p) ≡ t → HandlerIn m (state_in m p).inner
          go true z = rw (in-set f F.known m G p in? below z) (to_held (state_at F.known p).inner (G.fits p z).held)
          go false z = rw (in-unset f F.known m G p in? below z) (inl refl)

      owns : (q : ℕ) → own_in m h e q ≡ own f p q
      owns q =
          let I = in_proc in
          let b = I.one in
          let z : c - 1 + 1 ≡ c = omega arith in
          rw (I.head, I.end ∙ ap (end_of f) (sym z))
          (own-alike f B.places B.records F.known m F.good.shows p (c - 1) proc-is n-low q)

      -- the next record is an instruction of the procedure, if it starts before the end
      own_next : own_in m h e (after f p) ≡ ltb (after f p) e
      unfolding own is_head end_of procs head_of
      own_next = go (dec_lt (after f p) e)
        where
          I : InProc
          I = in_proc

          up : p < after f p
          up = after-above f p

          -- the first of the records to come
          first : after f p < e → (qs : List ℕ) × (next-is.1.0 ≡ after f p ∷ qs)
          first l =
              let a = end_low f B.places B.records c in
              let z = I.end in
              let w = rest-inv f (after f p) next-is.1.0 (omega arith) next-is.1.1 in
              (w.1.0, w.1.2)

          no-head : after f p < e → byte_at f (after f p) ≡ head_kind → ⊥
          no-head l z =
              let q = after f p in
              let hs : drop c (heads f) ≡ q ∷ select (is_head f) (first l).0 =
              F.to_come ∙ heads-are ∙ ap (select (is_head f)) (first l).1 ∙ rw (eq-eqb (byte_at f q) head_kind z) in
              let a : length (heads f) - c ≡ suc (length (select (is_head f) (first l).0)) = sym (length-drop c (heads f)) ∙ ap length hs in
              let at : get_or (heads f) c 0 ≡ q = head_first c (heads f) q (select (is_head f) (first l).0) hs in
              let ends : e ≡ q = I.end ∙ rw (lt-ltb c (length (heads f)) (omega arith)) at in
              omega arith

          there : after f p < e → Mem (after f p) (instructions f)
          there l =
              let n = ne_eqb (byte_at f (after f p)) head_kind (no-head l) in
              rw (instructions-others f)
              (in-select (λ q. not (is_head f q)) (starts_in (records_of f)) (after f p) (part-next (after f p) (rw (first l).1 (inl refl)))
              (rw n))

          go : Dec (after f p < e) → own_in m h e (after f p) ≡ ltb (after f p) e
          go (yes l) =
              let z : c - 1 + 1 ≡ c = let a = I.one in omega arith in
              let pq : proc_at f (after f p) ≡ c - 1 =
              between f B.places B.records (c - 1) (after f p) n-low (let a = I.head in let b = I.above in let u = up in omega arith) (rw (z, ← I.end) l) in
              let own? : own f p (after f p) ≡ true =
              rw (in-member (after f p) (instructions f) (there l), eq-eqb (proc_at f (after f p)) (proc_at f p) (pq ∙ sym proc-is)) in
              owns (after f p) ∙ own? ∙ sym (lt-ltb (after f p) e l)
          go (no l) = let a = I.above in let u = up in rw (lt-ltb h (after f p) (omega arith), le-ltb (after f p) e (omega arith))

      -- the depths lie above the floor and, where a state is known, within the greatest
      floor : ((innermost (state_in m) (state_in m p)).main ≤ (state_in m p).main) × ((innermost (state_in m) (state_in m p)).ptr ≤ (state_in m p).ptr)
      floor = go (is_set (state_at F.known p)) refl
        where
          in? : member p (instructions f) ≡ true
          in? = in-member p (instructions f) flowing-ins

          go : (t : Bool) → is_set (state_at F.known p) ≡ t →
              ((innermost (state_in m) (state_in m p)).main ≤ (state_in m p).main) × ((innermost (state_in m) (state_in m p)).ptr ≤ (state_in m p).ptr)
          go true z =
              let T = F.good.fits p z in
              rw (in-set f F.known m F.good p in? below z, outer-alike f B.places B.bytes B.records F.known m F.good (state_at F.known p) T)
              (T.main_above, T.ptr_above)
          go false z = rw (in-unset f F.known m F.good p in? below z) (omega arith, omega arith)

      within : (state_in m p).main < unreached → ((state_in m p).main ≤ byte_at f (h + 5)) × ((state_in m p).ptr ≤ byte_at f (h + 6))
      within l = go (is_set (state_at F.known p)) refl
        where
          in? : member p (instructions f) ≡ true
          in? = in-member p (instructions f) flowing-ins

          go : (t : Bool) → is_set (state_at F.known p) ≡ t → ((state_in m p).main ≤ byte_at f (h + 5)) × ((state_in m p).ptr ≤ byte_at f (h + 6))
          go true z =
              let head-is : h ≡ head_of f (proc_at f p) = in_proc.head ∙ ap (head_of f) (sym proc-is) in
              rw (in-set f F.known m F.good p in? below z, head-is) (unfold greatest_main greatest_ptr in F.good.within p z)
          go false z =
              let w : (state_in m p).main ≡ unreached = ap (λ (u : State). u.main) (in-unset f F.known m F.good p in? below z) in absurd (omega arith)

      pub flowing-here : Here f m h e p
      flowing-here =
          let I = in_proc in
          let head-is : h ≡ head_of f (proc_at f p) = I.head ∙ ap (head_of f) (sym proc-is) in
          record {
            site = record { known = whole-known f p next-is.0; inside = flowing-inside; small = B.few };
            head = head-is;
            head_whole = rw head-is (begun-table.whole (proc_at f p));
            long = F.good.shows.long;
            owns = owns;
            own_next = own_next;
            end_low = rw I.end (end_low f B.places B.records c);
            own_low = λ q w. instruction-below f B.places B.records q (own-in f p q w).0;
            held = held;
            main_floor = floor.0;
            ptr_floor = floor.1;
            within = within;
            bytes = B.bytes;
          }

      abbrev Took : Taking Known → ℕ → List ℕ → Type 0
      Took s r m' = ((r ≡ 0) × ((k' : Known) × (s ≡ good k') × Good f k' m')) ⊎ ((s ≡ bad r) × (r ≡ 0 → ⊥))

      taken : (s : Taking Known) (t : Taking (List ℕ)) (r : ℕ) (m' : List ℕ) → take_ans r m' ≡ t → SameWay f s t → Took s r m'
      taken (bad n) (bad j) zero m' w a = let z : true ≡ false = cc in absurd (true≢false z)
      taken (bad n) (bad j) (suc r) m' w a = let z : suc r ≡ j = cc in inr (ap bad (a ∙ sym z), λ y. omega arith)
      taken (bad n) (good l) r m' w a = absurd a
      taken (good k') (bad j) r m' w a = absurd a
      taken (good k') (good l) zero m' w a = let z : m' ≡ l = cc in inl (refl, (k', refl, rw z a))
      taken (good k') (good l) (suc r) m' w a = let z : true ≡ false = cc in absurd (true≢false z)

      alike : SameWay f (take_one f p F.known) (take_in f p m)
      alike = take-alike f B.places B.bytes B.records F.known m F.good p flowing-ins

      come : flow f ≡ go_on p (take_one f p F.known) (λ k'. take_all f (ins f next-is.1.0) k')
      unfolding take_all
      come = F.so_far ∙ ap (λ (l : List ℕ). take_all f l F.known) ins-are

      pub flowing-fault : (r : Refusal) (m' : List ℕ) → take_ans (number_of r) m' ≡ take_in f p m → Flowed f m' k (Err (record { refusal = r; place = p }))
      flowing-fault r m' w = go (taken (take_one f p F.known) (take_in f p m) (number_of r) m' w alike)
        where
          go : Took (take_one f p F.known) (number_of r) m' → flow f ≡ refused (number_of r) p
          go (inl z) = absurd (number-some r z.0)
          go (inr z) = come ∙ rw z.0

      pub flowing-take : {m' : List ℕ} → take_ans 0 m' ≡ take_in f p m → Flowing f m' table k (after f p) c h e
      flowing-take {m'} w = go (taken (take_one f p F.known) (take_in f p m) 0 m' w alike)
        where
          go : Took (take_one f p F.known) 0 m' → Flowing f m' table k (after f p) c h e
          go (inr y) = absurd (y.1 refl)
          go (inl y) =
              let I = in_proc in
              let a = I.above in
              record {
                rest = next-is.1.0;
                rest_is = next-is.1.1;
                part = part-next;
                to_come = F.to_come ∙ heads-are;
                most_c = F.most_c;
                known = y.1.0;
                good = y.1.2;
                so_far = come ∙ rw y.1.1;
                in_proc = inr (I.one, I.head, I.end, omega (arith, after-above f p));
                low = flowing-inside;
              }

  -- the end of the file: the part is the finished map
  by-states : (k : Known) (n p : ℕ) (m : List ℕ) → length m ≡ 3 * n → ((q : ℕ) → q < n → state_in m q ≡ state_at k (p + q)) → m ≡ map_from k n p
  unfolding map_from state_in
  by-states k zero p [] l h = refl
  by-states k zero p (a ∷ m) l h = absurd (omega arith)
  by-states k (suc n) p [] l h = absurd (omega arith)
  by-states k (suc n) p (a ∷ []) l h = absurd (omega arith)
  by-states k (suc n) p (a ∷ (b ∷ [])) l h = absurd (omega arith)
  by-states k (suc n) p (a ∷ (b ∷ (c ∷ m))) l h =
      let z : p + 0 ≡ p = omega arith in
      let e : state a b c ≡ state_at k p = h 0 (omega arith) ∙ ap (state_at k) z in
      let r = by-states k n (suc p) m (omega arith) (λ q w. step q w) in
      λ i. (e i).main ∷ (e i).ptr ∷ (e i).inner ∷ r i
    where
      step : (q : ℕ) → q < n → state (get_or m (3 * q) none) (get_or m (3 * q + 1) none) (get_or m (3 * q + 2) none) ≡ state_at k (suc p + q)
      step q w =
          let x : p + suc q ≡ suc p + q = omega arith in
          let y0 : 3 * suc q ≡ suc (suc (suc (3 * q))) = omega arith in
          let y1 : suc (suc (suc (3 * q))) + 1 ≡ suc (suc (suc (3 * q + 1))) = omega arith in
          let y2 : suc (suc (suc (3 * q))) + 2 ≡ suc (suc (suc (3 * q + 2))) = omega arith in
          rw (y0, y1, y2, x) at (h (suc q) (omega arith))

  pub flowing-end : {m : List ℕ} {p c h e : ℕ} → Flowing f m table k p c h e → length f ≤ p → Flowed f m k (Ok k)
  unfolding take_all
  flowing-end {m} {p} F l =
      let w : starts F.rest ≡ starts [] = sym F.rest_is ∙ rest_end f p l in
      let z : F.rest ≡ [] = cc in
      let done : flow f ≡ passed F.known = F.so_far ∙ ap (λ (r : List ℕ). take_all f (ins f r) F.known) z in
      (refl, (F.known, done, by-states F.known (length f) 0 m F.good.shows.long (λ q b. at q b done (member q (instructions f)) refl)))
    where
      at : (q : ℕ) → q < length f → flow f ≡ passed F.known → (t : Bool) → member q (instructions f) ≡ t → state_in m q ≡ state_at F.known (0 + q)
      at q b done true i =
          let K = flow-keeps f B.places B.bytes B.records B.heads_hold F.known done in
          let S = keeps-shape f B.places B.bytes B.records B.heads_hold (state_at F.known) K q (member-in q (instructions f) i) in
          let x : 0 + q ≡ q = omega arith in
          rw x (in-set f F.known m F.good q i b (small q S.within.0))
        where
          small : (q : ℕ) → (state_at F.known q).main ≤ greatest_main f (proc_at f q) → is_set (state_at F.known q) ≡ true
          small q w = unfold greatest_main in rw (ne_eqb (state_at F.known q).main none (let y = B.bytes (head_of f (proc_at f q) + 5) in omega arith))
      at q b done false i =
          let x : 0 + q ≡ q = omega arith in
          let u = flow-rest f B.places B.bytes B.records B.heads_hold F.known done q (λ w. true≢false (sym (in-member q (instructions f) w) ∙ i)) in
          rw (x, u) (F.good.shows.at q b ∙ rw (u, i))
