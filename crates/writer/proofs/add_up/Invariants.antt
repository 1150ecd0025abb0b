-- The lengths from i on are held against what is left of the total.
use Rattle.std.proofs.Common.{◌≡◌, drop}
use lib.Dec.{eqb}
use Rattle.dirf.specs.LineWriter.{sum}
use Rattle.writer.proofs.add_up.Given as goal

abbrev pub invariant-loop-n : goal.invariant-loop-n
invariant-loop-n l = eqb (sum l.lengths) l.total ≡ eqb (sum (drop l.n-index l.lengths)) l.left
