-- The edition that a value of the code names.
use Rattle.dirf.specs.Edition as dirf
use Rattle.dirf.specs.Editions.{EditionName, of2025, of2022, edition_named}
use Rattle.editions.specs.declared.Edition.{Edition}
use Rattle.editions.specs.declared.Edition.TheVariants as code

abbrev pub edition_says : Edition → EditionName
edition_says code.Of2025 = of2025
edition_says code.Of2022 = of2022

abbrev pub edition_said : Edition → dirf.Edition
edition_said e = edition_named (edition_says e)
