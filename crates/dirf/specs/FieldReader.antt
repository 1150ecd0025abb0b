-- The field reader: field k of a line as a part of it.
use Rattle.std.specs.Prelude.{ℕ, ◌+◌, ◌-◌, Bool, ◌&&◌, List, [], ◌∷◌, leb, length, take, if◌then◌else◌}
use Rattle.dirf.specs.Bytes.{Text}
use Rattle.dirf.specs.Lines.{fields, field}

-- 01, "The field reader": "Fields count from 1": "a separate yes or no"
unfoldable pub field_there : ℕ → Text → Bool
field_there k line = leb 1 k && leb k (length (fields line))

-- "the part of the caller's own line between its bars; where there is no such field, the empty part at the line's end": its bytes,
unfoldable pub field_of : ℕ → Text → Text
field_of k line = field k (fields line)

-- the bytes that fields take up, each with its bar
unfoldable pub width_of : List Text → ℕ
width_of [] = 0
width_of (c ∷ cs) = length c + 1 + width_of cs

-- its start, behind the fields before it,
unfoldable pub field_start : ℕ → Text → ℕ
field_start k line = if field_there k line then width_of (take (k - 1) (fields line)) else length line

-- and its length
unfoldable pub field_length : ℕ → Text → ℕ
field_length k line = length (field_of k line)

-- to compute with this file: `unfolding reader_opens`
unfoldable pub reader_opens : Unit {0}
unfolding field_there field_of width_of field_start field_length
reader_opens = tt
