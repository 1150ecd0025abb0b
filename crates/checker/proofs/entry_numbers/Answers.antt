-- The numbers in their order.
use mathlib.Core.Path.{refl}
use Rattle.dirf.specs.Check.{entry_numbers}
use Rattle.checker.proofs.entry_numbers.Goals as goal

pub returns : goal.returns
unfolding entry_numbers
returns c = refl
