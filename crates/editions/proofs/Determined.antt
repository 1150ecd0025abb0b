-- The contract allows one result.
use mathlib.Core.Path.{◌≡◌, refl, sym, ap, ◌∙◌}
use native.Mathlib.Omega.{arith}
use Rattle.dirf.specs.Editions.{of2025, of2022, year_of}
use Rattle.fields.proofs.Determined.{One}
use Rattle.editions.specs.Editions.{edition_says}
use Rattle.editions.specs.declared.Edition.{Edition}
use Rattle.editions.specs.declared.Edition.TheVariants as code
use Rattle.editions.proofs.edition_of.Reads as edition-of

differ : of2025 ≡ of2022 → ⊥
unfolding year_of
differ e = omega (arith, ap year_of e)

-- a value of the code names one edition
says_one : (x y : Edition) → edition_says x ≡ edition_says y → x ≡ y
says_one code.Of2025 code.Of2025 e = refl
says_one code.Of2025 code.Of2022 e = absurd (differ e)
says_one code.Of2022 code.Of2025 e = absurd (differ (sym e))
says_one code.Of2022 code.Of2022 e = refl

pub edition_of_one : One edition-of.Post
edition_of_one κs a x y s t p q = says_one x y (p ∙ sym q)
