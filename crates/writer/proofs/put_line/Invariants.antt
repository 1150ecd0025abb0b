-- What is left of the line goes where the last field ended.
use Prim.Native.Nat.{◌+◌}
use mathlib.Core.Path.{◌≡◌}
use lib.ListN.{length, drop}
use lib.Seq.{sets}
use Rattle.dirf.specs.LineWriter.{cut, sum, line_of}
use Rattle.writer.proofs.Stores.{rest}
use Rattle.writer.proofs.put_line.Given as goal

abbrev pub invariant-loop-n : goal.invariant-loop-n
invariant-loop-n l =
    (l.from + sum (drop l.n-index l.lengths) ≡ length l.contents)
    × ((length l.out ≡ length l.initial.out)
    × ((l.at + length (rest l.lengths l.contents l.n-index l.from) ≡ length (line_of (cut l.lengths l.contents)))
    × (sets l.initial.out 0 (line_of (cut l.lengths l.contents)) ≡ sets l.out l.at (rest l.lengths l.contents l.n-index l.from))))
