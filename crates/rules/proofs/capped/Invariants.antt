-- The value is that of what is left from byte i on, after the number so far.
use Rattle.std.proofs.Common.{◌≡◌, ◌<◌, ◌^◌, drop}
use Rattle.dirf.specs.Numbers.{value_of, value_after}
use Rattle.rules.proofs.capped.Given as goal

abbrev pub invariant-loop-b : goal.invariant-loop-b
invariant-loop-b l = (l.n < 10 ^ 18) × (value_of l.s ≡ value_after l.n (drop l.b-index l.s))
