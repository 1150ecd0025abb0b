-- The places along the lengths are what the walk from length i on makes of those noted so far.
use mathlib.Core.Path.{refl, sym, ap, ◌∙◌}
use native.Mathlib.Omega.{arith}
use lib.ListN.{drop_of_length-le}
use Rattle.fields.specs.Places.{no_places, add_place, along_from, places_along}
use Rattle.dirf.proofs.tests.Lists.{drop_on}
use Rattle.fields.proofs.places_along.Goals as goal

pub loop-len-init : goal.loop-len-init
unfolding places_along no_places
loop-len-init c =
    let n = c.none-places.ensures in
    (omega (arith, ap (λ p. p.count) n), rw n refl)

pub loop-len-preserved : goal.loop-len-preserved
unfolding add_place along_from
loop-len-preserved c =
    let l = c.loop-len in
    let e = c.add.ensures in (
      omega (arith, ap (λ p. p.count) e),
      l.invariant.1 ∙ ap (λ ns. along_from ns l.start l.places) (drop_on _ l.len-index 0 c.loop-len-test.true)
          ∙ cc (e, c.saturating_add-start.ensures),
    )

pub returns : goal.returns
unfolding along_from
returns c =
    let l = c.loop-len in
    sym (l.invariant.1 ∙ ap (λ ns. along_from ns l.start l.places) (drop_of_length-le _ c.loop-len-test.false))
