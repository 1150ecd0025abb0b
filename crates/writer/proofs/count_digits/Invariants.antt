-- The digits counted so far, and those of what is left.
use Prim.Native.Nat.{◌+◌, ◌≤◌}
use mathlib.Core.Path.{◌≡◌}
use lib.ListN.{length}
use Rattle.dirf.specs.Numbers.{decimal}
use Rattle.writer.proofs.count_digits.Given as goal

abbrev pub invariant-loop-x : goal.invariant-loop-x
invariant-loop-x l = (l.x ≤ l.v) × (l.n + length (decimal 20 l.x) ≡ length (decimal 20 l.v))

abbrev pub decreases-loop-x : goal.decreases-loop-x
decreases-loop-x l = l.x
