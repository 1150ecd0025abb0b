-- The answer is the answer for the open records down to the i-th.
use Prim.Native.Nat.{◌≤◌}
use mathlib.Core.Path.{◌≡◌}
use Rattle.checker.specs.State.{held_in}
use Rattle.checker.proofs.state.held_in.Given as goal

abbrev pub invariant-loop-i : goal.invariant-loop-i
invariant-loop-i l =
    (l.i ≤ l.initial.i) × (held_in l.below l.declarant l.opened l.k l.initial.i ≡ held_in l.below l.declarant l.opened l.k l.i)
