-- what is summed so far, with what the rest will give, is the whole; each product is below 65,536
use Rattle.std.proofs.Common.{◌≡◌, ◌+◌, ◌*◌, ◌≤◌, length, drop}
use Rattle.dirf.specs.Digits.{weighted}
use Rattle.digits.proofs.weighted_sum.Given as goal

abbrev pub invariant-loop-weight : goal.invariant-loop-weight
invariant-loop-weight l = record {
  fits : l.sum ≤ length l.yielded * 65535;
  whole : weighted l.weights l.s ≡ l.sum + weighted (drop (length l.yielded) l.weights) (drop (length l.yielded) l.s);
}
