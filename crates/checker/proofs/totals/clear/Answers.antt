-- The places that are lent, up to the last kind, are 0.
use mathlib.Core.Path.{◌≡◌}
use native.Mathlib.Omega.{arith}
use lib.ListN.{length, take}
use lib.Seq.{length-take-le}
use Rattle.kinds.specs.Kinds.{kinds}
use Rattle.checker.specs.Totals.{totals_in}
use Rattle.checker.proofs.Lent.{zeros}
use Rattle.checker.proofs.totals.clear.Goals as goal

pub returns : goal.returns
unfolding totals_in
returns c =
    let t = c.args.totals.now in
    let few : length (take c.min-lent.result t) ≡ c.min-lent.result =
    length-take-le c.min-lent.result t (omega (arith, c.min-lent.ensures)) in
    rw (c.fill.ensures.after (λ y e. e), few, c.min-lent.ensures) (zeros 0 kinds t)
