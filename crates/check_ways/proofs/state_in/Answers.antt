-- `check_ways::state_in` meets its contract: three reads.
use mathlib.Core.Path.{refl}
use native.Mathlib.Omega.{arith}
use Rattle.check_ways.specs.Faults.{state_is}
use Rattle.check_ways.proofs.state_in.Goals as goal

pub returns : goal.returns
returns c =
    record {
      is = state_is _ _ _ _ _ c.requires.0 refl refl refl;
      main_small = omega arith;
      ptr_small = omega arith;
      inner_small = omega arith;
    }
