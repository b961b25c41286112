-- `apply::put_new` meets its contract: the object is made of what is still on the stacks; then these are cut, and its index is stored.
use Rattle.apply.specs.Applied.{new_applied}
use Rattle.apply.proofs.put_new.Goals as goal

pub returns : goal.returns
returns c f ctl =
    new_applied f _ _ c.requires.making.new (c.make.ensures f ctl) c.cut_to.ensures c.cut_to-2.ensures
