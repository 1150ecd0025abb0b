-- What stands at the place that `place_of` names is the field; where it names none there is nothing, at the line's end.
use mathlib.Core.Path.{refl, sym, ◌∙◌}
use native.Mathlib.Nat.{add-sub_cancel_left}
use native.Mathlib.Omega.{arith}
use lib.Seq.{drop-length, take-nil}
use Rattle.fields.specs.Places.{part_of}
use Rattle.fields.proofs.Spots.{placed, unplaced}
use Rattle.fields.proofs.field.Goals as goal

pub overflow_add-result : goal.overflow_add-result
overflow_add-result c = omega (arith, (placed _ _ _ (sym c.place_of.ensures ∙ c.in-Some.is)).inside)

pub slice_bounds-result-end : goal.slice_bounds-result-end
slice_bounds-result-end c = (placed _ _ _ (sym c.place_of.ensures ∙ c.in-Some.is)).inside

pub returns-in-Some : goal.returns-in-Some
unfolding part_of
returns-in-Some c =
    let p = placed _ _ _ (sym c.place_of.ensures ∙ c.in-Some.is) in
    (rw add-sub_cancel_left p.bytes, (refl, omega (arith, p.start)))

pub returns-in-None : goal.returns-in-None
returns-in-None c =
    let n = unplaced _ _ (sym c.place_of.ensures ∙ c.in-None.is) in
    (rw (drop-length, take-nil) (sym n.0), (refl, omega (arith, n.1)))
