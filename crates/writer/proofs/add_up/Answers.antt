-- The lengths from i on are held against what is left of the total.
use mathlib.Core.Path.{refl, sym, ◌∙◌}
use native.Mathlib.Omega.{arith}
use Rattle.writer.proofs.Lengths.{sum_past, sum_on, sum_end}
use Rattle.writer.proofs.add_up.Goals as goal

pub loop-n-init : goal.loop-n-init
loop-n-init c = refl

pub returns-in_default : goal.returns-in_default
returns-in_default c =
    let l = c.loop-n in
    sym (l.invariant ∙ sum_past _ l.n-index l.left (omega (arith, c.in_default.ensures)) c.loop-n-test.true)

pub loop-n-preserved : goal.loop-n-preserved
loop-n-preserved c =
    let l = c.loop-n in
    let e = c.in-Some.ensures in
    l.invariant ∙ sum_on _ l.n-index l.left e.0 c.loop-n-test.true ∙ rw e.1

pub returns : goal.returns
returns c = let l = c.loop-n in sym (l.invariant ∙ sum_end _ l.n-index l.left (omega arith))
