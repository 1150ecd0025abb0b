-- Which of the two editions a file has.
use Rattle.std.specs.Prelude.{ℕ, List, [], ◌∷◌, if◌then◌else◌}
use Rattle.dirf.specs.Bytes.{Text, same}
use Rattle.dirf.specs.Layout.{mark2022}
use Rattle.dirf.specs.Edition.{Edition, edition2025, edition2022}
use Rattle.dirf.specs.Lines.{Piece, pieces, fields, field}

pub data EditionName : Type 0 where
  of2025 : EditionName
  of2022 : EditionName

unfoldable pub edition_named : EditionName → Edition
edition_named of2025 = edition2025
edition_named of2022 = edition2022

-- an edition as a number
unfoldable pub year_of : EditionName → ℕ
year_of of2025 = 2025
year_of of2022 = 2022

-- line 1, right or wrong: all bytes before the first CR LF, or all that there are
unfoldable pub first_body : List Piece → Text
first_body [] = []
first_body (p ∷ ps) = p.body

unfoldable pub line1 : Text → Text
line1 file = first_body (pieces file)

-- 02, A4: "Field 6 of line 1 picks the edition; a mark of neither edition is judged by the 2025 rules as before."
unfoldable pub edition_name_of : Text → EditionName
edition_name_of file = if same (field 6 (fields (line1 file))) mark2022 then of2022 else of2025

unfoldable pub edition_of : Text → Edition
edition_of file = edition_named (edition_name_of file)

-- to compute with this file: `unfolding editions_opens`
unfoldable pub editions_opens : Unit {0}
unfolding edition_named year_of first_body line1 edition_name_of edition_of
editions_opens = tt
