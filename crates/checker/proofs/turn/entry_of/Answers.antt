-- The numbers are small enough.
use native.Mathlib.Omega.{arith}
use Rattle.checker.specs.Turn.{entry_of}
use Rattle.checker.proofs.turn.entry_of.Goals as goal

pub overflow_cast-result : goal.overflow_cast-result
unfolding entry_of
overflow_cast-result c = let p = c.requires.safe in record { fits = omega (arith, p.near.near, p.fewer) }

pub overflow_cast-result-2 : goal.overflow_cast-result-2
unfolding entry_of
overflow_cast-result-2 c = record { fits = omega (arith, c.requires.short) }

pub returns : goal.returns
unfolding entry_of
returns c = simp c.above.ensures
