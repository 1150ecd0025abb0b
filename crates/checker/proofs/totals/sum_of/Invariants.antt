-- Byte by byte: what is read, and what is left, come to the whole sum, and nothing is ever over it.
use Rattle.std.proofs.Common.{◌<◌}
use Rattle.checker.proofs.totals.Sums.{Run}
use Rattle.checker.proofs.totals.sum_of.Given as goal

-- an amount is left
abbrev pub invariant-loop-b : goal.invariant-loop-b
invariant-loop-b l = Run l.n l.s l.sum l.one l.left l.b-index × (0 < l.left)
