-- What is found in a record's fields, as the code answers it.
use Rattle.std.specs.Prelude.{ℕ, ◌≤◌, ◌≡◌, Bool, true, Result, Ok, Err, List, [], ◌∷◌, length}
use Rattle.dirf.specs.Bytes.{Text, every, is_in, lookup}
use Rattle.dirf.specs.Row.{Row as FieldRow}
use Rattle.dirf.specs.Fields.{right_byte}
use Rattle.dirf.specs.Rules.{Found, keeps, breaks, first}
use Rattle.dirf.specs.Order.{contents}
use Rattle.dirf.specs.Amounts.{Reading}
use Rattle.layout.specs.Tables.{format_of}
use Rattle.layout.specs.declared.Row.{Row}
use Rattle.refusals.specs.declared.Refusal.{Refusal}
use Rattle.refusals.specs.Numbers.{number_for}

-- 0 where a rule is kept
unfoldable pub number_of : Found → ℕ
number_of keeps = 0
number_of (breaks number field) = number

-- 13 to 18 and 26 field by field, then 19: of a kind, its identifier, its rows and the fields' contents
unfoldable pub contents_found : ℕ → Text → List FieldRow → List Text → Found
contents_found k name rows cells = first contents (record { kind = k; name = name; rows = rows; cells = cells })

-- the only byte of a text, 0 where it has none or more
unfoldable pub only_byte : Text → ℕ
only_byte [] = 0
only_byte (b ∷ []) = b
only_byte (b ∷ c ∷ s) = 0

-- what `valid` asks where the printed values are of one byte each, and where none are printed
unfoldable pub letter_of : ℕ → Text → Bool
letter_of h s =
    lookup true
    ((115, is_in (only_byte s) (83 ∷ 78 ∷ [])) ∷
    (49, is_in (only_byte s) (48 ∷ 49 ∷ [])) ∷
    (50, is_in (only_byte s) (49 ∷ 50 ∷ [])) ∷
    (51, is_in (only_byte s) (49 ∷ 50 ∷ 51 ∷ [])) ∷
    (56, is_in (only_byte s) (48 ∷ 49 ∷ 50 ∷ 51 ∷ 52 ∷ 56 ∷ [])) ∷
    [])
    h

-- a field that is filled, and whose bytes are of the right kind
pub record FilledRight (s : Text) (r : Row) : Type 0 where
  pub filled : 1 ≤ length s
  pub bytes : every (right_byte (format_of r.format)) s ≡ true

-- 01: "Where an answer is an enum, a definition gives this paper's number and values for each of its cases." A value has number 0, and
-- the readers "refuse with 14, 15 or 16 .., value 0". What is read is a number of some unit
abbrev pub reading_said : {A : Type 0} → (A → ℕ) → Result A Refusal → Reading
reading_said value (Ok a) = record { number = 0; value = value a }
reading_said value (Err r) = record { number = number_for r; value = 0 }
