-- The line that comes next, as the code reads it.
use Rattle.std.specs.Prelude.{ℕ, [], ◌∷◌, eqb, ltb, length, drop, if◌then◌else◌}
use Rattle.dirf.specs.Bytes.{Text}
use Rattle.dirf.specs.Limits.{line_limit, LF}
use Rattle.dirf.specs.Lines.{clean, unclean}
use Rattle.dirf.specs.FieldReader.{field_of}
use Rattle.dirf.specs.Edition.{Edition, kind_of}

-- what ends a line, given what stands behind its bytes: 0 for CR LF, else 5 or 6
unfoldable pub end_of : Text → ℕ
end_of [] = 5
end_of (b ∷ []) = if eqb b LF then 6 else 5
end_of (b ∷ c ∷ s) = if eqb b LF then 6 else (if eqb c LF then 0 else 6)

-- 4, 5 and 6, else 0
unfoldable pub number_at : Text → ℕ
number_at s = if ltb line_limit (length (clean s)) then 4 else end_of (unclean s)

-- what stands behind a line and the two bytes that end it
unfoldable pub after_line : Text → Text
after_line s = drop 2 (drop (length (clean s)) s)

-- the kind that line 3 names in an edition, whatever stands there
unfoldable pub third_kind : Edition → Text → ℕ
third_kind e file = kind_of e (field_of 1 (clean (after_line (after_line file))))
