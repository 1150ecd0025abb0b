-- As many bytes as the whole text has are all that is left.
use mathlib.Core.Path.{◌∙◌}
use native.Mathlib.Omega.{arith}
use lib.ListN.{length, drop, length-drop}
use lib.Seq.{take_all}
use Rattle.fields.specs.Places.{part_of}
use Rattle.checker.proofs.lines.tail.Goals as goal

pub returns : goal.returns
unfolding part_of
returns c =
    let a = c.args in
    c.part.ensures.0 ∙ take_all (length a.s.now) (drop a.start a.s.now) (simp length-drop (omega arith))
