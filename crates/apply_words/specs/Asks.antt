-- What the functions for the stacks ask for, and what they come to in the model's terms.
use Rattle.std.specs.Prelude.{ℕ, ◌<◌, ◌≡◌, Bool, true, false, ◌⊎◌, List, length}
use Rattle.model.specs.Control.{Machine}
use Rattle.plan_meaning.specs.Settled.{cut_only, main_set, ptr_set, heap_set}
use Rattle.plan_meaning.specs.Suits.{Drops, WriteFits}
use Rattle.model.specs.declared.Regs.{Regs}
use Rattle.plan_meaning.specs.declared.Into.{Into}
use Rattle.plan_meaning.specs.declared.Into.TheVariants as into
use Rattle.plan_meaning.specs.declared.Put.{Put}
use Rattle.laws.specs.Cuts.{Topped}

-- a plain write: the stacks have their tops, and the write fits the lists
pub record Plain (lh : ℕ) (main ptr : List ℕ) (r : Regs) (put : Put) : Type 0 where
  pub main_top : Topped r.mtop main
  pub ptr_top : Topped r.ptop ptr
  pub fits : WriteFits put.into (length main) (length ptr) lh r put

-- a retract: 64, 60 or 62. The word set aside lies in its stack
abbrev pub Retract : Into → Type 0
Retract i = (i ≡ into.Drop) ⊎ ((i ≡ into.DropMain) ⊎ (i ≡ into.DropPointer))

abbrev pub InMain : ℕ → Put → Type 0
InMain lm put = put.into ≡ into.DropMain → put.at < lm

abbrev pub InPtr : ℕ → Put → Type 0
InPtr lp put = put.into ≡ into.DropPointer → put.at < lp

pub record Dropping (main ptr : List ℕ) (r : Regs) (put : Put) : Type 0 where
  pub retract : Retract put.into
  pub main_top : Topped r.mtop main
  pub ptr_top : Topped r.ptop ptr
  pub drops : Drops r put
  pub in_main : InMain (length main) put
  pub in_ptr : InPtr (length ptr) put

-- the registers after it, and the machine; what writes no word of the three lists only cuts
abbrev pub onwards : Put → Regs → Regs
onwards p r =
    record {
      place = p.place;
      frame = r.frame;
      handler = r.handler;
      mtop = p.mtop;
      ptop = p.ptop;
      ctop = r.ctop;
      state = r.state;
    }

abbrev pub plain_write : Into → Put → Machine → Machine
plain_write into.Nothing p m = cut_only p m
plain_write into.Pop p m = cut_only p m
plain_write into.Push p m = main_set p m
plain_write into.Main p m = main_set p m
plain_write into.Pointer p m = ptr_set p m
plain_write into.Heap p m = heap_set p m
plain_write into.Read p m = main_set p m
plain_write into.Drop p m = cut_only p m
plain_write into.DropMain p m = main_set p m
plain_write into.DropPointer p m = ptr_set p m
plain_write into.View p m = cut_only p m
plain_write into.Frame p m = cut_only p m
plain_write into.Return p m = cut_only p m
plain_write into.Handler p m = cut_only p m
plain_write into.Close p m = cut_only p m
plain_write into.ReadPointer p m = ptr_set p m
plain_write into.Store p m = heap_set p m
plain_write into.WordVector p m = cut_only p m
plain_write into.PtrVector p m = cut_only p m
plain_write into.StoreWord p m = heap_set p m
plain_write into.StorePointer p m = heap_set p m

-- done, or not: then all is as before
abbrev pub tried_on : Bool → Put → Regs → Regs
tried_on true p r = onwards p r
tried_on false p r = r

abbrev pub tried_write : Bool → Into → Put → Machine → Machine
tried_write true i p m = plain_write i p m
tried_write false i p m = m
