-- What is asked of a machine and of a plan's writes before they are applied. A sound running state and its own plan give it all.
use Rattle.std.specs.Prelude.{ℕ, ◌*◌, ◌<◌, ◌≤◌, ◌≡◌, List, Bool, true, false, ◌⊎◌, length}
use Rattle.model.specs.File.{file_most}
use Rattle.model.specs.Calls.{main_most, ptr_most, ctl_most, heap_most}
use Rattle.model.specs.Control.{Machine, record_words, records}
use Rattle.plan_meaning.specs.Settled.{applied}
use Rattle.plan_meaning.specs.declared.Into.{Into}
use Rattle.plan_meaning.specs.declared.Into.TheVariants as into
use Rattle.plan_meaning.specs.declared.Put.{Put}
use Rattle.model.specs.declared.Regs.{Regs}
use Rattle.plan_meaning.specs.declared.Plan.{Plan}
use Rattle.plan_meaning.specs.declared.Plan.TheVariants.{Write}
use Rattle.laws.specs.Cuts.{Topped}
use Rattle.plan_meaning.specs.Suits.{Suits}
use Rattle.apply_words.specs.Asks.{Retract, Dropping}
use Rattle.apply_objects.specs.Asks.{MakesNew, Making}

-- the registers against the lists, in every running sound state
pub record Stands (f : List ℕ) (m : Machine) : Type 0 where
  -- the tops lie in the lists: bases, x and y do; above them all is 0
  pub main : Topped m.regs.mtop m.main
  pub ptr : Topped m.regs.ptop m.ptr
  pub ctl : Topped m.regs.ctop m.ctl
  -- refusals 1 and 10
  pub file_at_most : length f ≤ file_most
  pub main_at_most : length m.main ≤ main_most
  pub ptr_at_most : length m.ptr ≤ ptr_most
  pub ctl_at_most : length m.ctl ≤ ctl_most
  pub heap_at_most : length m.heap ≤ heap_most
  -- an instruction stands at the place
  pub place : m.regs.place < length f
  -- the records that the registers name are there
  pub whole : m.regs.ctop ≡ record_words * records m
  pub frame_some : 1 ≤ m.regs.frame
  pub frame : record_words * m.regs.frame ≤ m.regs.ctop
  pub handler : record_words * m.regs.handler ≤ m.regs.ctop

pub record Applies (f : List ℕ) (put : Put) (m : Machine) : Type 0 where
  pub stands : Stands f m
  pub suits : Suits f put.into put m

-- what is done at once or left for later: a retract, a new object, the return from the first frame
abbrev pub Late : Into → Regs → Type 0
Late i r = Retract i ⊎ (MakesNew i ⊎ ((i ≡ into.Return) × (r.frame ≡ 1)))

abbrev pub Later : Regs → Plan → Type 0
Later r plan = (put : Put) → plan ≡ Write put → Late put.into r

-- applied, or all as before
abbrev pub applied_if : Bool → List ℕ → Put → Machine → Machine
applied_if true f p m = applied f p m
applied_if false f p m = m

-- what is asked where an object is made: its words are there, the stacks have their tops, and the place of its index lies in the stack
pub record PutsNew (main ptr heap : List ℕ) (r : Regs) (put : Put) : Type 0 where
  pub making : Making main ptr heap r put
  pub main_top : Topped r.mtop main
  pub ptr_top : Topped r.ptop ptr
  pub below : put.at < length ptr

-- what is asked of the writes that are left
pub record Lately (put : Put) (m : Machine) : Type 0 where
  pub late : Late put.into m.regs
  pub ctl : Topped m.regs.ctop m.ctl
  pub new : MakesNew put.into → PutsNew m.main m.ptr m.heap m.regs put
  pub retract : Retract put.into → Dropping m.main m.ptr m.regs put
