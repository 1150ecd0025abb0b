-- Arm by arm.
use borrow.Author.Rules.{rules}
use Rattle.dirf.specs.Editions.{year_of}
use Rattle.suite.proofs.year.Goals as goal

pub returns-in-Of2025 : goal.returns-in-Of2025
unfolding year_of
returns-in-Of2025 c = search rules

pub returns-in-Of2022 : goal.returns-in-Of2022
unfolding year_of
returns-in-Of2022 c = search rules
