-- The search: one CPF under one IDREC, from one beneficiary to the next by the fifth number of their entries. It takes every file and
-- every table of numbers; what it means for an accepted file with its own table is in `Theorems/Found`.
use Rattle.std.specs.Prelude.{ℕ, zero, suc, ◌+◌, ◌-◌, ◌*◌, ◌/◌, Bool, ◌&&◌, List, eqb, ltb, leb, length, get_or, take, drop, if◌then◌else◌}
use Rattle.dirf.specs.Bytes.{Text, is_in, same, less}
use Rattle.dirf.specs.Kinds.{IDREC, companies, is_beneficiary}
use Rattle.dirf.specs.Limits.{numbers_an_entry}
use Rattle.dirf.specs.FieldReader.{field_of}

-- the whole entries of a table of numbers, and the numbers of the entry of line n, from 1, in the table's order
unfoldable pub entries_in : List ℕ → ℕ
entries_in t = length t / numbers_an_entry

unfoldable pub number_in : List ℕ → ℕ → ℕ → ℕ
number_in t n j = get_or t (numbers_an_entry * (n - 1) + j) 0

abbrev pub kind_in : List ℕ → ℕ → ℕ
kind_in t n = number_in t n 0

abbrev pub start_in : List ℕ → ℕ → ℕ
start_in t n = number_in t n 1

abbrev pub length_in : List ℕ → ℕ → ℕ
length_in t n = number_in t n 2

abbrev pub last_in : List ℕ → ℕ → ℕ
last_in t n = number_in t n 4

-- 02, A6: "points outside the file or the table or has its last line before itself": none of these
unfoldable pub is_within : Text → List ℕ → ℕ → Bool
is_within file t n = leb (start_in t n + length_in t n) (length file) && leb n (last_in t n) && leb (last_in t n) (entries_in t)

-- the key of a beneficiary: field 2 of its line
unfoldable pub key_in : Text → List ℕ → ℕ → Text
key_in file t n = field_of 2 (take (length_in t n) (drop (start_in t n) file))

pub record Searched : Type 0 where
  pub number : ℕ
  pub line : ℕ
  pub count : ℕ

-- "Refusals: 27, with line and count 0"
abbrev pub no_way : Searched
no_way = record { number = 27; line = 0; count = 0 }

-- it stops at a line, 0 where nothing is found, after so many entries: "Not found is line 0."
abbrev pub stops_at : ℕ → ℕ → Searched
stops_at n looked = record { number = 0; line = n; count = looked }

-- at a key that isn't smaller: at line n if it is equal
unfoldable pub stops_by : ℕ → Text → Text → ℕ → Searched
stops_by n found key looked = stops_at (if same found key then n else 0) looked

-- "goes from one beneficiary to the next by that number, stops at the first key that isn't smaller, at the first company or at the
-- IDREC's last line, and reports how many beneficiary entries it looked at, the stopping one included": from line n on, with so many
-- looked at. Each step goes forward, so there are no more steps than entries.
unfoldable pub search_from : Text → List ℕ → Text → ℕ → ℕ → ℕ → ℕ → Searched
search_from file t key end zero n looked = stops_at 0 looked
search_from file t key end (suc steps) n looked =
    if ltb end n then stops_at 0 looked
    else (if is_beneficiary (kind_in t n) && is_within file t n
    then (if is_in (kind_in t n) companies then stops_at 0 (looked + 1)
    else (if less (key_in file t n) key then search_from file t key end steps (last_in t n + 1) (looked + 1)
    else stops_by n (key_in file t n) key (looked + 1)))
    else no_way)

-- "the line asked for is no IDREC entry"
unfoldable pub is_idrec : List ℕ → ℕ → Bool
is_idrec t n = leb 1 n && leb n (entries_in t) && eqb (kind_in t n) IDREC

unfoldable pub search_in : Text → List ℕ → ℕ → Text → Searched
search_in file t n key =
    if is_idrec t n && is_within file t n then search_from file t key (last_in t n) (entries_in t) (n + 1) 0 else no_way

-- to compute with this file: `unfolding search_opens`
unfoldable pub search_opens : Unit {0}
unfolding entries_in number_in is_within key_in stops_by search_from is_idrec search_in
search_opens = tt
