-- The number of the edition that line 1 picks.
use mathlib.Core.Path.{ap, ◌∙◌}
use Rattle.dirf.specs.Editions.{year_of}
use Rattle.suite.proofs.decklesail_edition.Goals as goal

pub returns : goal.returns
returns c = c.year.ensures ∙ ap year_of c.edition_of.ensures
