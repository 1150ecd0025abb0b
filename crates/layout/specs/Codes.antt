-- A row of five bytes, as the code has it.
use Rattle.std.specs.Prelude.{ℕ, List, ◌&&◌, ltb, if◌then◌else◌}
use Rattle.dirf.specs.Row.{Row as FieldRow}
use Rattle.kinds.specs.Kinds.{kinds}
use Rattle.layout.specs.Tables.{byte_in, row_of}
use Rattle.fields.specs.Places.{most_fields}
use Rattle.layout.specs.declared.Row.{Row}

-- no row
abbrev pub no_codes : Row
no_codes = record { format = 0; fill = 0; size = 0; need = 0; holds = 0 }

-- row i, from 0, of kind k in a table
unfoldable pub row_codes : List ℕ → ℕ → ℕ → Row
row_codes t k i =
    if ltb k kinds && ltb i most_fields
    then record {
      format = byte_in t k i 0;
      fill = byte_in t k i 1;
      size = byte_in t k i 2;
      need = byte_in t k i 3;
      holds = byte_in t k
          i 4;
    }
    else no_codes

-- the field row that five bytes say
unfoldable pub row_said : Row → FieldRow
row_said r = row_of r.format r.fill r.size r.need r.holds

-- to compute what five bytes of a table are: `unfolding codes_open`
unfoldable pub codes_open : Unit {0}
unfolding row_codes byte_in
codes_open = tt
