-- The digits left to write, and behind them those written.
use Rattle.std.proofs.Common.{◌≡◌, ◌≤◌, ◌++◌, length, drop}
use Rattle.dirf.specs.Numbers.{decimal}
use Rattle.writer.proofs.put_digits.Given as goal

abbrev pub invariant-loop-i : goal.invariant-loop-i
invariant-loop-i l =
    ((l.x ≤ l.v) × ((l.i ≡ length (decimal 20 l.x)) × (l.i ≤ length l.out)))
    × (decimal 20 l.x ++ drop l.i l.out ≡ decimal 20 l.v ++ drop l.n l.initial.out)
