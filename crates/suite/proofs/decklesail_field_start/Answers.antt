-- The place of the field, or the line's end.
use mathlib.Core.Path.{sym, ◌∙◌}
use Rattle.fields.proofs.Spots.{placed, unplaced}
use Rattle.suite.proofs.decklesail_field_start.Goals as goal

pub returns-in-Some : goal.returns-in-Some
returns-in-Some c = (placed _ _ _ (sym c.place_of.ensures ∙ c.in-Some.is)).start

pub returns-in-None : goal.returns-in-None
returns-in-None c = sym (unplaced _ _ (sym c.place_of.ensures ∙ c.in-None.is)).1
