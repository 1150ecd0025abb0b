-- Document 01's marked examples, M1 to M12, as one list of questions and answers.
use Rattle.std.specs.Prelude.{ℕ, ◌≡◌, true, List, [], ◌∷◌, ◌++◌, length, get_or, take, drop, set}
use Rattle.dirf.specs.Bytes.{Text, bytes, every, same}
use Rattle.dirf.specs.Limits.{LF, line_end, desk_entries}
use Rattle.dirf.specs.Row.{Row, row, N, fixed, optional, plain}
use Rattle.dirf.specs.Layout.{respo_rows, decpf_rows}
use Rattle.dirf.specs.Fields.{field_order}
use Rattle.dirf.specs.Rules.{Found, keeps, breaks, ask_field}
use Rattle.dirf.specs.Check.{answer_to}
use Rattle.dirf.specs.Amounts.{read_amount}

-- lines, each with its line end
unfoldable pub file_of : List Text → Text
file_of [] = []
file_of (l ∷ ls) = l ++ line_end ++ file_of ls

-- 01, "The desk program": the input that prints `0 6 0 6`
abbrev pub desk_lines : List Text
desk_lines =
    bytes "Dirf|2025|2024|N||R6GP3ZA|" ∷
    bytes "RESPO|11144477735|ANA LIMA|11|33334444||||" ∷
    bytes "DECPF|11144477735|ANA LIMA|N|N|N|S|N|||N|||||" ∷
    bytes "SCP|11222333000181|SCP SERRA|" ∷
    bytes "BPFSCP|11144477735|ANA LIMA||" ∷
    bytes "FIMDirf|" ∷
    []

-- a field's row out of a field table
abbrev pub row_at : List Row → ℕ → Row
row_at rows k = get_or (row N fixed 1 optional plain ∷ rows) k (row N fixed 1 optional plain)

-- a file checked by the desk program; a field read as an amount; a field asked the rules of its row
pub data Question : Type 0 where
  file : Text → Question
  amount : Text → Question
  field_as : Row → Text → Question

unfoldable pub number_found : Found → List ℕ
number_found keeps = 0 ∷ []
number_found (breaks number field) = number ∷ []

-- number, line, field, entries; number and value; number
unfoldable pub answer : Question → List ℕ
answer (file s) = let v = answer_to s desk_entries in v.number ∷ v.line ∷ v.field ∷ length v.table ∷ []
answer (amount s) = (read_amount s).number ∷ (read_amount s).value ∷ []
answer (field_as r s) = number_found (ask_field 0 field_order [] r s)

abbrev pub marked : List (Question × List ℕ)
marked =
    -- M1 empty input: 1 1 0 0
    (file [], 1 ∷ 1 ∷ 0 ∷ 0 ∷ []) ∷
    -- M2 the file above
    (file (file_of desk_lines), 0 ∷ 6 ∷ 0 ∷ 6 ∷ []) ∷
    -- M3 its first five lines: 1 6 0 5
    (file (file_of (take 5 desk_lines)), 1 ∷ 6 ∷ 0 ∷ 5 ∷ []) ∷
    -- M4 the file and one LF: 2 7 0 6
    (file (file_of desk_lines ++ (LF ∷ [])), 2 ∷ 7 ∷ 0 ∷ 6 ∷ []) ∷
    -- M5 DIRF in line 1: 9 1 1 0
    (file (file_of (set desk_lines 0 (bytes "DIRF|2025|2024|N||R6GP3ZA|"))), 9 ∷ 1 ∷ 1 ∷ 0 ∷ []) ∷
    -- M6 last line FIMDirf, no bar: 8 6 0 5
    (file (file_of (set desk_lines 5 (bytes "FIMDirf"))), 8 ∷ 6 ∷ 0 ∷ 5 ∷ []) ∷
    -- M7 DECPF field 8 S: 19 3 9 2
    (file (file_of (set desk_lines 2 (bytes "DECPF|11144477735|ANA LIMA|N|N|N|S|S|||N|||||"))), 19 ∷ 3 ∷ 9 ∷ 2 ∷ []) ∷
    -- M8 line 5 twice: 20 6 2 5
    (file (file_of (take 5 desk_lines ++ drop 4 desk_lines)), 20 ∷ 6 ∷ 2 ∷ 5 ∷ []) ∷
    -- M9 amount 0: 16; 1: one centavo
    (amount (bytes "0"), 16 ∷ 0 ∷ []) ∷
    (amount (bytes "1"), 0 ∷ 1 ∷ []) ∷
    -- M10 thirteen nines read; fourteen: 15
    (amount (bytes "9999999999999"), 0 ∷ 9999999999999 ∷ []) ∷
    (amount (bytes "99999999999999"), 15 ∷ 0 ∷ []) ∷
    -- M11 20240229 is a date; 20230229 is 17: field 9 of DECPF
    (field_as (row_at decpf_rows 9) (bytes "20240229"), 0 ∷ []) ∷
    (field_as (row_at decpf_rows 9) (bytes "20230229"), 17 ∷ []) ∷
    -- M12 DDD 01: 16: field 4 of RESPO
    (field_as (row_at respo_rows 4) (bytes "01"), 16 ∷ []) ∷
    []

-- every question has the answer beside it
abbrev pub MarkedHold : Type 0
MarkedHold = every (λ m. same (answer m.0) m.1) marked ≡ true
