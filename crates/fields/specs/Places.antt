-- Where the fields of a line stand: starts and lengths, by value.
use Rattle.std.specs.Prelude.{ℕ, zero, suc, ◌+◌, ◌-◌, min, List, [], ◌∷◌, eqb, length, get_or, take, drop, set, replicate, Option, Some, None, if◌then◌else◌}
use Rattle.dirf.specs.Bytes.{Text}
use Rattle.dirf.specs.Limits.{bar}
use Rattle.dirf.specs.FieldReader.{field_there, field_start, field_length}
use Rattle.dirf.specs.Keys.{key_of}
use Rattle.dirf.specs.Lines.{clean}
use Rattle.fields.specs.declared.Place.{Place}
use Rattle.fields.specs.declared.Places.{Places}
use Rattle.fields.specs.declared.Scanned.{Scanned}
use Rattle.fields.specs.declared.Cells.{Cells}

-- the part of a text at a place; past the end there is nothing
unfoldable pub part_of : Text → ℕ → ℕ → Text
part_of s start len = take len (drop start s)

-- the place of field k, if there is one: its start, its length
unfoldable pub place_of : Text → ℕ → Option Place
place_of line k =
    if field_there k line then Some (record { start = field_start k line; len = field_length k line }) else None

-- no record has more fields than this
abbrev pub most_fields : ℕ
most_fields = 15

abbrev pub no_place : Place
no_place = record { start = 0; len = 0 }

-- no field yet
unfoldable pub no_places : Places
no_places = record { count = 0; first = replicate most_fields no_place }

-- one field more; past the fifteenth only the count goes on
unfoldable pub add_place : Places → ℕ → ℕ → Places
add_place p start len = record { count = p.count + 1; first = set p.first p.count (record { start = start; len = len }) }

-- from byte `at` on, in a field that began at `start`
unfoldable pub places_from : Text → ℕ → ℕ → Places → Places
places_from [] start at p = p
places_from (b ∷ s) start at p =
    if eqb b bar then places_from s (at + 1) (at + 1) (add_place p start (at - start)) else places_from s start (at + 1) p

-- the places of the fields of a line
unfoldable pub places_of : Text → Places
places_of line = places_from line 0 0 no_places

-- the bytes of a text before the first CR or LF, or before its end: how many there are, and where their fields stand
unfoldable pub scan_of : Text → Scanned
scan_of s = record { len = length (clean s); places = places_of (clean s) }

-- fields one after another from `at` on, of these lengths; no start is past the last 64-bit number
unfoldable pub along_from : List ℕ → ℕ → Places → Places
along_from [] at p = p
along_from (n ∷ ns) at p = along_from ns (min (at + n) 18446744073709551615) (add_place p at n)

unfoldable pub places_along : List ℕ → Places
places_along ns = along_from ns 0 no_places

-- what stands at the places, field by field: cell i, from 0
unfoldable pub cell_at : Text → Places → ℕ → Text
cell_at s p i = let at = get_or p.first i no_place in part_of s at.start at.len

unfoldable pub cells_from : Text → Places → ℕ → ℕ → List Text
cells_from s p i zero = []
cells_from s p i (suc n) = cell_at s p i ∷ cells_from s p (suc i) n

unfoldable pub cells_at : Text → Places → List Text
cells_at s p = cells_from s p 0 (min most_fields p.count)

abbrev pub cells_of : Cells → List Text
cells_of c = cells_at c.bytes.now c.places.now

-- the key of a kind, out of fields 2 and 3
unfoldable pub key_parts : ℕ → Text → Text → List Text
key_parts k second third = key_of k ([] ∷ second ∷ third ∷ [])

-- how many bytes stand before the first bar, or before the end
unfoldable pub bar_in : Text → ℕ
bar_in [] = 0
bar_in (b ∷ s) = if eqb b bar then 0 else suc (bar_in s)
