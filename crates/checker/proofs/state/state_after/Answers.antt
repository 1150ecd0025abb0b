-- Each field is what its function gives.
use native.Mathlib.Omega.{arith}
use Rattle.checker.specs.State.{state_after}
use Rattle.checker.proofs.state.state_after.Goals as goal

pub overflow_add-n : goal.overflow_add-n
unfolding state_after
overflow_add-n c = omega (arith, c.requires.1.0.fewer)

pub overflow_add-result : goal.overflow_add-result
unfolding state_after
overflow_add-result c = let p = c.requires.1 in omega (arith, p.0.near.near, p.0.fewer, p.1)

pub overflow_add-result-2 : goal.overflow_add-result-2
unfolding state_after
overflow_add-result-2 c = let p = c.requires.1 in omega (arith, p.0.near.near, p.0.fewer, p.1)

pub path_after-requires : goal.path_after-requires
unfolding state_after
path_after-requires c = c.requires.0

pub returns : goal.returns
unfolding state_after
returns c = simp (c.path_after.ensures, c.declarant_of.ensures)
