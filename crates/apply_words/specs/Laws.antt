-- What a plain write leaves of the lists is what the model says.
use Rattle.std.specs.Prelude.{ℕ, zero, suc, ◌+◌, ◌≤◌, ◌≡◌, List, [], ◌∷◌, ◌++◌, length, set, take, drop, replicate}
use Rattle.std.proofs.Common.{ap, sym, subst, ◌∙◌, arith}
use Rattle.model.specs.Words.{word_at, cut}
use Rattle.model.specs.Control.{Machine}
use Rattle.model.specs.declared.Regs.{Regs}
use Rattle.plan_meaning.specs.declared.Into.{Into}
use Rattle.plan_meaning.specs.declared.Put.{Put}
use Rattle.plan_meaning.specs.Settled.{cut_only, main_set, ptr_set, heap_set}
use Rattle.laws.specs.Cuts.{cut-same, cut-above, length_cut}
use Rattle.plan_meaning.specs.Suits.{Pops, WriteFits}
use Rattle.apply_words.specs.Asks.{Plain, Retract, InMain, InPtr, Dropping, onwards, plain_write}

module _ {lh : ℕ} {main ptr : List ℕ} {r : Regs} {put : Put} (P : Plain lh main ptr r put) where
  -- what is asked of a write, where it goes being known
  pub fits-at : {i : Into} → put.into ≡ i → WriteFits i (length main) (length ptr) lh r put
  fits-at e = subst (λ (i : Into). WriteFits i (length main) (length ptr) lh r put) e P.fits

  -- no word goes
  pub main-kept : {n : ℕ} → Pops 0 n r put → main ≡ cut put.mtop main
  main-kept F = cut-above put.mtop r.mtop main (omega (arith, F.main)) P.main_top

  pub ptr-kept : {n : ℕ} → Pops n 0 r put → ptr ≡ cut put.ptop ptr
  ptr-kept F = cut-above put.ptop r.ptop ptr (omega (arith, F.ptr)) P.ptr_top

  -- the write is done, whatever the control stack is: the stacks and the heap then, the heap before
  abbrev Done : List ℕ → List ℕ → List ℕ → List ℕ → Type 0
  Done main' ptr' heap' heap =
      (ctl : List ℕ) → record { regs = onwards put r; main = main'; ptr = ptr'; ctl = ctl; heap = heap' }
      ≡ plain_write put.into put (record { regs = r; main = main; ptr = ptr; ctl = ctl; heap = heap })

  -- the stacks are cut, and a word is stored, or none: in which list is told by where it goes
  module _ {main' ptr' : List ℕ} (em : main' ≡ cut put.mtop main) (ep : ptr' ≡ cut put.ptop ptr) {i : Into} (e : put.into ≡ i) where
    write : {x : Put → Machine → Machine} → plain_write i ≡ x → (m : Machine) → x put m ≡ plain_write put.into put m
    write w m = ap (λ (x : Put → Machine → Machine). x put m) (sym (ap plain_write e ∙ w))

    pub plainly-cut : plain_write i ≡ cut_only → {heap : List ℕ} → Done main' ptr' heap heap
    plainly-cut w = λ ctl. rw (em, ep) (write w _)

    pub plainly-main : plain_write i ≡ main_set → {heap : List ℕ} → Done (set main' put.at put.word) ptr' heap heap
    plainly-main w = λ ctl. rw (em, ep) (write w _)

    pub plainly-ptr : plain_write i ≡ ptr_set → {heap : List ℕ} → Done main' (set ptr' put.at put.word) heap heap
    plainly-ptr w = λ ctl. rw (em, ep) (write w _)

    pub plainly-heap : plain_write i ≡ heap_set → (heap : List ℕ) → Done main' ptr' (set heap put.at put.word) heap
    plainly-heap w heap = λ ctl. rw (em, ep) (write w _)

-- a word that is put back lies in its stack, cut or not
pub cut-drops : {main ptr : List ℕ} {r : Regs} {put : Put} {main' ptr' : List ℕ} → Dropping main ptr r put → main' ≡ cut put.mtop main →
    ptr' ≡ cut put.ptop ptr → Retract put.into × InMain (length main') put × InPtr (length ptr') put
cut-drops D em ep = (D.retract, λ e. rw (em, length_cut) (D.in_main e), λ e. rw (ep, length_cut) (D.in_ptr e))

-- the words from t on zeroed, k of them; behind those all is 0 already
pub fill-cuts : (t k : ℕ) (l : List ℕ) → t + k ≤ length l → ((i : ℕ) → t + k ≤ i → word_at l i ≡ 0) → take t l ++ (replicate k 0 ++ drop k (drop t l)) ≡ cut t l
unfolding cut
fill-cuts zero zero l h z = sym (cut-same 0 l (λ i u. z i (omega arith)))
fill-cuts zero (suc k) [] h z = absurd (omega arith)
fill-cuts zero (suc k) (w ∷ l) h z = ap (λ (x : List ℕ). 0 ∷ x) (fill-cuts zero k l (omega arith) (λ i u. z (suc i) (omega arith)))
fill-cuts (suc t) k [] h z = absurd (omega arith)
fill-cuts (suc t) k (w ∷ l) h z = ap (λ (x : List ℕ). w ∷ x) (fill-cuts t k l (omega arith) (λ i u. z (suc i) (omega arith)))
