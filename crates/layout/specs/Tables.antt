-- The tables as they are lent: what they hold, and what they say of whoever reads them.
use Rattle.std.specs.Prelude.{ℕ, ◌+◌, ◌*◌, ◌-◌, min, Bool, true, false, ◌&&◌, not, List, [], ◌∷◌, ◌++◌, map, eqb, ltb, length, get_or}
use Rattle.std.specs.Prelude.{take, drop, replicate, if◌then◌else◌}
use Rattle.dirf.specs.Bytes.{Text, bytes, is_in, lookup}
use Rattle.dirf.specs.Kinds.{is_later}
use Rattle.dirf.specs.Row.{Row, row, Format, C, N, D, Fill, fixed, variable, Need, obligatory, optional}
use Rattle.dirf.specs.Row.{Holds, identifier, amount, months, ddd, telephone, cpf, cnpj, cpf_or_cnpj, plain, one_of, s_or_n}
use Rattle.dirf.specs.Layout.{mark2022, relation}
use Rattle.dirf.specs.Edition.{Edition, kind_in, name_of, rows_of}
use Rattle.dirf.specs.Tree.{suits}
use Rattle.fields.specs.Places.{most_fields}
pub use Rattle.kinds.specs.Kinds.{tab, kinds}

-- nothing stands below a kind from this number on: no row for it in the tables of what stands below what
abbrev pub holders : ℕ
holders = 68

-- and a kind from this number on stands below nothing: no column
abbrev pub columns : ℕ
columns = 69

-- a slot of the table of identifiers: the length, then seven bytes
abbrev pub slot : ℕ
slot = 8

-- the identifier in slot k of a table
unfoldable pub name_in : List ℕ → ℕ → Text
name_in t k = if ltb k kinds then take (min 7 (get_or t (k * slot) 0)) (drop (k * slot + 1) t) else []

-- where it stands there
unfoldable pub name_start : ℕ → ℕ
name_start k = if ltb k kinds then k * slot + 1 else 0

-- a kind that a table names and that is not left for later
unfoldable pub base_in : List ℕ → ℕ → Bool
base_in t k = ltb 0 (length (name_in t k)) && not (is_later k)

-- a record's line in the table of field rows: the number of its fields, then fifteen rows of five bytes
abbrev pub row_bytes : ℕ
row_bytes = 5

abbrev pub record_bytes : ℕ
record_bytes = 76

-- the letters of a row: format C, N, D; fill F, V; the size; need S, N; what the field holds
unfoldable pub format_of : ℕ → Format
format_of b = if eqb b 78 then N else (if eqb b 68 then D else C)

unfoldable pub fill_of : ℕ → Fill
fill_of b = if eqb b 70 then fixed else variable

unfoldable pub need_of : ℕ → Need
need_of b = if eqb b 83 then obligatory else optional

unfoldable pub holds_of : ℕ → Holds
holds_of b =
    lookup plain
    ((105, identifier) ∷
    (97, amount) ∷
    (109, months) ∷
    (100, ddd) ∷
    (116, telephone) ∷
    (99, cpf) ∷
    (106, cnpj) ∷
    (101, cpf_or_cnpj) ∷
    (115, s_or_n) ∷
    (121, one_of (bytes "2025" ∷ [])) ∷
    (122, one_of (bytes "2024" ∷ [])) ∷
    (114, one_of (bytes "R6GP3ZA" ∷ [])) ∷
    (111, one_of (bytes "2022" ∷ [])) ∷
    (112, one_of (bytes "2021" ∷ bytes "2022" ∷ [])) ∷
    (113, one_of (mark2022 ∷ [])) ∷
    (49, one_of (bytes "0" ∷ bytes "1" ∷ [])) ∷
    (50, one_of (bytes "1" ∷ bytes "2" ∷ [])) ∷
    (51, one_of (bytes "1" ∷ bytes "2" ∷ bytes "3" ∷ [])) ∷
    (56, one_of (bytes "0" ∷ bytes "1" ∷ bytes "2" ∷ bytes "3" ∷ bytes "4" ∷ bytes "8" ∷ [])) ∷
    (107, relation) ∷
    [])
    b

-- the row that five bytes say
unfoldable pub row_of : ℕ → ℕ → ℕ → ℕ → ℕ → Row
row_of f g n o h = row (format_of f) (fill_of g) n (need_of o) (holds_of h)

-- how many fields a table gives to kind k
unfoldable pub count_in : List ℕ → ℕ → ℕ
count_in t k = if ltb k kinds then min most_fields (get_or t (k * record_bytes) 0) else 0

-- byte j of row i, from 0, of kind k
unfoldable pub byte_in : List ℕ → ℕ → ℕ → ℕ → ℕ
byte_in t k i j = get_or t (k * record_bytes + 1 + i * row_bytes + j) 0

unfoldable pub row_in : List ℕ → ℕ → ℕ → Row
row_in t k i = row_of (byte_in t k i 0) (byte_in t k i 1) (byte_in t k i 2) (byte_in t k i 3) (byte_in t k i 4)

-- the field rows of kind k, as a table has them
unfoldable pub rows_in : List ℕ → ℕ → List Row
rows_in t k = tab (row_in t k) 0 (count_in t k)

-- Y in the row of h, at k
unfoldable pub yes_in : List (List ℕ) → ℕ → ℕ → Bool
yes_in t h k = ltb h holders && ltb k columns && eqb (get_or (get_or t h []) k 0) 89

-- may a record of kind k stand directly below one of kind h, which belongs to one of kind u, by the table of the declarant d?
unfoldable pub holds_in : List (List ℕ) → ℕ → ℕ → ℕ → ℕ → Bool
holds_in t d h u k = yes_in t h k && suits d h u k

-- the tables of an edition
unfoldable pub slot_of : Text → List ℕ
slot_of s = length s ∷ (s ++ replicate (7 - length s) 0)

unfoldable pub concat : List (List ℕ) → List ℕ
concat [] = []
concat (x ∷ xs) = x ++ concat xs

unfoldable pub name_table : Edition → List ℕ
name_table e = concat (tab (λ k. slot_of (name_of e k)) 0 kinds)

unfoldable pub yes : Bool → ℕ
yes true = 89
yes false = 46

-- of a declarant
unfoldable pub below_table : Edition → ℕ → List (List ℕ)
below_table e d = tab (λ h. tab (λ k. yes (is_in k (lookup [] (e.below d) h))) 0 columns) 0 holders

-- the five bytes of a row
unfoldable pub format_byte : Format → ℕ
format_byte C = 67
format_byte N = 78
format_byte D = 68

unfoldable pub fill_byte : Fill → ℕ
fill_byte fixed = 70
fill_byte variable = 86

unfoldable pub need_byte : Need → ℕ
need_byte obligatory = 83
need_byte optional = 78

unfoldable pub holds_byte : Holds → ℕ
holds_byte identifier = 105
holds_byte amount = 97
holds_byte months = 109
holds_byte ddd = 100
holds_byte telephone = 116
holds_byte cpf = 99
holds_byte cnpj = 106
holds_byte cpf_or_cnpj = 101
holds_byte plain = 46
holds_byte (one_of vs) =
    kind_in
    ((115, bytes "SN") ∷ (121, bytes "2025") ∷ (122, bytes "2024") ∷ (114, bytes "R6GP3ZA") ∷ (111, bytes "2022") ∷
    (112, bytes "20212022") ∷ (113, mark2022) ∷ (49, bytes "01") ∷ (50, bytes "12") ∷ (51, bytes "123") ∷ (56, bytes "012348") ∷
    (107, bytes "0304060810") ∷ [])
    (concat vs)

unfoldable pub row_bytes_of : Row → List ℕ
row_bytes_of r = format_byte r.format ∷ fill_byte r.fill ∷ r.size ∷ need_byte r.need ∷ holds_byte r.holds ∷ []

unfoldable pub record_of : List Row → List ℕ
record_of rows = length rows ∷ (concat (map row_bytes_of rows) ++ replicate ((most_fields - length rows) * row_bytes) 46)

unfoldable pub row_table : Edition → List ℕ
row_table e = concat (tab (λ k. record_of (rows_of e k)) 0 kinds)

-- to compute what a lookup says of any table: `unfolding lookups_open`; what an edition's tables are: `unfolding tables_open`
unfoldable pub lookups_open : Unit {0}
unfolding name_in name_start count_in yes_in
lookups_open = tt

unfoldable pub tables_open : Unit {0}
unfolding slot_of concat name_table yes below_table format_byte fill_byte need_byte holds_byte row_bytes_of record_of row_table
tables_open = tt
