-- What a plan's writes ask of the lists that they go to: the word written lies in its list, and no more words go than its case lets go.
use Rattle.std.specs.Prelude.{ℕ, ◌+◌, ◌-◌, ◌<◌, ◌≤◌, true, ◌≡◌, List, length}
use Rattle.model.specs.File.{after, ins_at}
use Rattle.model.specs.Checker.{effect_of}
use Rattle.laws_file.specs.Codes.{is_real?}
use Rattle.model.specs.Heap.{mark_of}
use Rattle.model.specs.Control.{Machine, record_words, records}
use Rattle.model.specs.Moves.{mtop, ptop, main_word}
use Rattle.model.specs.declared.Regs.{Regs}
use Rattle.plan_meaning.specs.declared.Into.{Into}
use Rattle.plan_meaning.specs.declared.Into.TheVariants.{Nothing, Pop, Push, Main, Pointer, Heap, Read, Drop, DropMain, DropPointer, View, Frame, Return, Handler, Close}
use Rattle.plan_meaning.specs.declared.Into.TheVariants.{ReadPointer, Store, WordVector, PtrVector, StoreWord, StorePointer}
use Rattle.plan_meaning.specs.declared.Put.{Put}
use Rattle.plan_meaning.specs.declared.Plan.{Plan}
use Rattle.plan_meaning.specs.declared.Plan.TheVariants.{Write, OutOfRange, NilObject, NoSuchWord, HeapFull, NoRoom, VectorFault, Thrown, Real}

-- at most a words of the main stack go, and b of the pointer stack
pub record Pops (a b : ℕ) (r : Regs) (put : Put) : Type 0 where
  pub main : r.mtop ≤ put.mtop + a
  pub ptr : r.ptop ≤ put.ptop + b

-- words of both stacks go, or none
pub record Drops (r : Regs) (put : Put) : Type 0 where
  pub main : put.mtop ≤ r.mtop
  pub ptr : put.ptop ≤ r.ptop

-- a write into a list of the stacks or the heap, whose lengths are lm, lp and lh: the word lies in it, and so many words go at most, and where
-- that is asked at least one; of a retract only that none is added
abbrev pub WriteFits : Into → ℕ → ℕ → ℕ → Regs → Put → Type 0
WriteFits Nothing lm lp lh r put = Pops 0 0 r put
WriteFits Pop lm lp lh r put = (put.mtop < r.mtop) × Pops 1 0 r put
WriteFits Push lm lp lh r put = (put.at < lm) × Pops 0 0 r put
WriteFits Main lm lp lh r put = (put.at < lm) × (put.mtop < r.mtop) × Pops 1 0 r put
WriteFits Pointer lm lp lh r put = (put.at < lp) × Pops 0 1 r put
WriteFits Heap lm lp lh r put = (put.at < lh) × (put.ptop < r.ptop) × Pops 0 2 r put
WriteFits Read lm lp lh r put = (put.at < lm) × (put.ptop < r.ptop) × Pops 0 2 r put
WriteFits Drop lm lp lh r put = Drops r put
WriteFits DropMain lm lp lh r put = (put.at < lm) × Drops r put
WriteFits DropPointer lm lp lh r put = (put.at < lp) × Drops r put
WriteFits View lm lp lh r put = ⊥
WriteFits Frame lm lp lh r put = ⊥
WriteFits Return lm lp lh r put = ⊥
WriteFits Handler lm lp lh r put = ⊥
WriteFits Close lm lp lh r put = ⊥
WriteFits ReadPointer lm lp lh r put = (put.at < lp) × (put.mtop < r.mtop) × Pops 1 0 r put
WriteFits Store lm lp lh r put = (put.at < lh) × (put.mtop < r.mtop) × (put.ptop < r.ptop) × Pops 1 1 r put
WriteFits WordVector lm lp lh r put = ⊥
WriteFits PtrVector lm lp lh r put = ⊥
WriteFits StoreWord lm lp lh r put = (put.at < lh) × (put.mtop < r.mtop) × (put.ptop < r.ptop) × Pops 2 1 r put
WriteFits StorePointer lm lp lh r put = (put.at < lh) × (put.mtop < r.mtop) × (put.ptop < r.ptop) × Pops 1 2 r put

abbrev pub FitsIn : Into → Put → Machine → Type 0
FitsIn i put m = WriteFits i (length m.main) (length m.ptr) (length m.heap) m.regs put

-- 36: the words popped are there, and the heap has room for them
pub record Forms (put : Put) (m : Machine) : Type 0 where
  pub words : put.mtop ≤ mtop m
  pub pointers : put.at ≤ ptop m
  pub below : put.at < length m.ptr
  pub room : mark_of m.heap + (2 + ((ptop m - put.at) + (mtop m - put.mtop))) ≤ length m.heap

-- 80, 81: a main words and b pointers are there, and the heap has room for a vector of n elements
pub record VectorFits (a b n : ℕ) (put : Put) (m : Machine) : Type 0 where
  pub words : a ≤ mtop m
  pub pointers : b ≤ ptop m
  pub below : put.at < length m.ptr
  pub room : mark_of m.heap + (3 + n) ≤ length m.heap

-- 72: its operand is there, the base is that of words on the stack, and the record fits
pub record CallSuits (f : List ℕ) (put : Put) (m : Machine) : Type 0 where
  pub operand : m.regs.place + 2 < length f
  pub behind : after f m.regs.place ≡ m.regs.place + 3
  pub base : put.at ≤ mtop m
  pub room : m.regs.ctop + record_words ≤ length m.ctl

-- a plan's writes, by where they go
abbrev pub Suits : List ℕ → Into → Put → Machine → Type 0
Suits f Nothing put m = FitsIn Nothing put m
Suits f Pop put m = FitsIn Pop put m
Suits f Push put m = FitsIn Push put m
Suits f Main put m = FitsIn Main put m
Suits f Pointer put m = FitsIn Pointer put m
Suits f Heap put m = FitsIn Heap put m
Suits f Read put m = FitsIn Read put m
Suits f Drop put m = FitsIn Drop put m
Suits f DropMain put m = FitsIn DropMain put m
Suits f DropPointer put m = FitsIn DropPointer put m
Suits f View put m = Forms put m
Suits f Frame put m = CallSuits f put m
Suits f Return put m = Unit {0}
Suits f Handler put m = m.regs.ctop + record_words ≤ length m.ctl
Suits f Close put m = m.regs.handler ≡ records m
Suits f ReadPointer put m = FitsIn ReadPointer put m
Suits f Store put m = FitsIn Store put m
Suits f WordVector put m = VectorFits 3 0 (main_word m 2) put m
Suits f PtrVector put m = VectorFits 2 1 (main_word m 1) put m
Suits f StoreWord put m = FitsIn StoreWord put m
Suits f StorePointer put m = FitsIn StorePointer put m

-- 53, 150 to 153, 155, 156: the record is in the file, and p is the place behind its code; the words popped are there, and those pushed fit
pub record RealSuits (f : List ℕ) (p : ℕ) (m : Machine) : Type 0 where
  pub real : is_real? (ins_at f m.regs.place) ≡ true
  pub body : p ≡ m.regs.place + 1
  pub inside : after f m.regs.place ≤ length f
  pub pops : (effect_of f (ins_at f m.regs.place)).pop_main ≤ mtop m
  pub pushes : mtop m - (effect_of f (ins_at f m.regs.place)).pop_main + (effect_of f (ins_at f m.regs.place)).push_main ≤ length m.main

-- any plan; 162 has a word to pop
abbrev pub Suited : List ℕ → Machine → Plan → Type 0
Suited f m (Write put) = Suits f put.into put m
Suited f m OutOfRange = Unit {0}
Suited f m NilObject = Unit {0}
Suited f m NoSuchWord = Unit {0}
Suited f m HeapFull = Unit {0}
Suited f m NoRoom = Unit {0}
Suited f m VectorFault = Unit {0}
Suited f m Thrown = 1 ≤ mtop m
Suited f m (Real p) = RealSuits f p m
