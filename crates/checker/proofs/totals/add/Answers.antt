-- The place of the kind, if it is lent.
use mathlib.Core.Path.{refl, sym}
use native.Mathlib.Omega.{arith}
use Rattle.checker.specs.Totals.{add_at}
use Rattle.checker.proofs.Lent.{add_past}
use Rattle.checker.proofs.totals.add.Goals as goal

pub returns-then-i-totals : goal.returns-then-i-totals
unfolding add_at
returns-then-i-totals c = refl

pub returns-else-i-totals : goal.returns-else-i-totals
unfolding add_at
returns-else-i-totals c = let a = c.args in sym (add_past a.totals.now a.k _ (omega arith))
