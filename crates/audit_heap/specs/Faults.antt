-- The first fault of a heap (`FirstFault`): there is one at most (`one-fault`), a heap that has one is not sound (`fault-not-sound`), and the word
-- lies in the heap (`fault-within`). No right object begins where the walk has its fault, and the objects of a heap are the only ones.
use Rattle.std.specs.Prelude.{ℕ, ◌+◌, ◌-◌, ◌<◌, ◌≤◌, ◌≡◌, List, ◌⊎◌, length}
use Rattle.std.proofs.Common.{sym, ◌∙◌, true≢false, inl, inr, arith}
use Rattle.std.proofs.Math.Decide.{dec_lt}
use Rattle.model.specs.Words.{word_at}
use Rattle.model.specs.Heap.{mark_of, first_object, Object, Objects, Pointer, Heap}
use Rattle.model.specs.Faults.{WalkTo, HeaderFault, SizeFault, WalkFault, header, size_word, InPointerPart, BadPointer, NonzeroFree}
use Rattle.model.specs.Faults.{Lowest, FirstFault, mark_word, on_walk, after_walk}
use Rattle.model.specs.Claim.{OneFault, FaultWithin}
use Rattle.heap.specs.Objects.{object-of, object-within, same-objects, next-object}

module _ (h : List ℕ) where
  -- a header or a size word at fault is no right object's
  right-header : (q : ℕ) → Object h q (mark_of h) → HeaderFault h q → ⊥
  right-header q O (inl e) = true≢false (sym O.ptrs ∙ e)
  right-header q O (inr l) = omega (arith, O.holds, O.ends)

  right-size : (q : ℕ) → Object h q (mark_of h) → SizeFault h q → ⊥
  right-size q O (inl l) = omega (arith, O.holds)
  right-size q O (inr (inl l)) = omega (arith, O.ends)
  right-size q O (inr (inr e)) = true≢false (sym O.size ∙ e)

  -- where the walk comes to its fault there is no right object
  record Halt (p : ℕ) : Type 0 where
    q : ℕ
    to : WalkTo h q
    none : Object h q (mark_of h) → ⊥

  abbrev halt : (p : ℕ) → WalkFault h p → Halt p
  halt p (header T F) = record { q = p; to = T; none = λ O. right-header p O F }
  halt p (size_word q T n F e) = record { q = q; to = T; none = λ O. right-size q O F }

  -- so it stands at the end of any objects from word 2 on, or behind it
  not-passed : (p mark : ℕ) (os : List ℕ) (H : Halt p) → Objects h first_object mark os → mark ≤ mark_of h → mark ≤ H.q
  not-passed p mark os H W l = go (dec_lt H.q mark)
    where
      go : Dec (H.q < mark) → mark ≤ H.q
      go (yes b) =
          let O = next-object h first_object H.q mark H.to.passed os H.to.objects W b in
          absurd (H.none (object-within h H.q mark (mark_of h) O l))
      go (no b) = omega arith

  one-halt : (p p' : ℕ) (H : Halt p) (H' : Halt p') → H.q ≡ H'.q
  one-halt p p' H H' =
      let T = H.to in
      let T' = H'.to in
      let a = not-passed p H'.q T'.passed H T'.objects (omega (arith, T'.below)) in
      let b = not-passed p' H.q T.passed H' T.objects (omega (arith, T.below)) in
      omega arith

  one-walk-fault : (p p' : ℕ) → WalkFault h p → WalkFault h p' → p ≡ p'
  one-walk-fault p p' F F' = go F F' (one-halt p p' (halt p F) (halt p' F'))
    where
      go : (F : WalkFault h p) (F' : WalkFault h p') → (halt p F).q ≡ (halt p' F').q → p ≡ p'
      go (header T F) (header T' F') e = e
      go (header T F) (size_word q' T' n F' f) e = absurd (n (rw e at F))
      go (size_word q T n F f) (header T' F') e = absurd (n (rw e F'))
      go (size_word q T n F f) (size_word q' T' n' F' f') e = omega arith

  walk-unsound : (p : ℕ) (os : List ℕ) → WalkFault h p → Objects h first_object (mark_of h) os → ⊥
  walk-unsound p os F W =
      let H = halt p F in
      omega (arith, not-passed p (mark_of h) os H W (omega arith), H.to.below)

  -- the walk's fault lies below the mark: a header that is right has a size word there
  walk-below : (p : ℕ) → WalkFault h p → p < mark_of h
  walk-below p (header T F) = T.below
  walk-below p (size_word q T n F e) = go (dec_lt (q + 1) (mark_of h))
    where
      go : Dec (q + 1 < mark_of h) → p < mark_of h
      go (yes l) = omega arith
      go (no l) = absurd (n (inr (omega arith)))

  -- so do the pointers
  pub pointer-below : (i : ℕ) (os : List ℕ) → first_object ≤ mark_of h → Objects h first_object (mark_of h) os → (i ≡ 1) ⊎ InPointerPart h os i → i < mark_of h
  pointer-below i os l W (inl e) = omega arith
  pointer-below i os l W (inr I) =
      let O = (object-of h first_object (mark_of h) os I.object W I.mem).1 in
      omega (arith, O.holds, O.ends, I.below)

  -- in a sound heap all of them are right
  pointer-right : (i : ℕ) (os : List ℕ) → Heap h os → (i ≡ 1) ⊎ InPointerPart h os i → Pointer os (word_at h i)
  pointer-right i os H (inl e) = rw e H.root
  pointer-right i os H (inr I) =
      let k = i - I.object in
      let e : i ≡ I.object + k = omega (arith, I.from) in
      rw e (H.inside I.object k I.mem (omega (arith, I.from)) (omega (arith, I.from, I.below)))

pub one-fault : OneFault
one-fault h p q (mark_word n e) (mark_word n' e') = omega arith
one-fault h p q (mark_word n e) (on_walk R F) = absurd (n R)
one-fault h p q (mark_word n e) (after_walk R os W L) = absurd (n R)
one-fault h p q (on_walk R F) (mark_word n e) = absurd (n R)
one-fault h p q (on_walk R F) (on_walk R' F') = one-walk-fault h p q F F'
one-fault h p q (on_walk R F) (after_walk R' os W L) = absurd (walk-unsound h p os F W)
one-fault h p q (after_walk R os W L) (mark_word n e) = absurd (n R)
one-fault h p q (after_walk R os W L) (on_walk R' F) = absurd (walk-unsound h q os F W)
one-fault h p q (after_walk R os W L) (after_walk R' os' W' L') =
    let e = same-objects h first_object (mark_of h) os' os W' W in
    let M : Lowest (λ i. BadPointer h os i ⊎ NonzeroFree h i) q = rw e at L' in
    omega (arith, L.1 q M.0, M.1 p L.0)

pub fault-not-sound : (h : List ℕ) (q : ℕ) → FirstFault h q → (os : List ℕ) → Heap h os → ⊥
fault-not-sound h q (mark_word n e) os H = n (H.low, H.high)
fault-not-sound h q (on_walk R F) os H = walk-unsound h q os F H.objects
fault-not-sound h q (after_walk R os' W L) os H =
    let e = same-objects h first_object (mark_of h) os' os W H.objects in
    go (rw e at L.0)
  where
    go : BadPointer h os q ⊎ NonzeroFree h q → ⊥
    go (inl B) = B.1 (pointer-right h q os H B.0)
    go (inr F) = F.2 (H.free q F.0)

pub fault-within : FaultWithin
fault-within h q (mark_word n e) t = omega arith
fault-within h q (on_walk R F) t = omega (arith, walk-below h q F)
fault-within h q (after_walk R os W L) t = go L.0
  where
    go : BadPointer h os q ⊎ NonzeroFree h q → q < length h
    go (inl B) = omega (arith, pointer-below h q os R.0 W B.0)
    go (inr F) = F.1
