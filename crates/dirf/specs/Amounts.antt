-- Amounts in centavos and month counts in tenths of a month: their readers and writers. One definition over the size serves both.
use Rattle.std.specs.Prelude.{ℕ, Bool, List, [], ◌∷◌, ltb, length}
use Rattle.dirf.specs.Bytes.{Text}
use Rattle.dirf.specs.Limits.{amount_size, month_size, largest}
use Rattle.dirf.specs.Row.{Row, row, N, variable, optional, amount, months}
use Rattle.dirf.specs.Numbers.{value_of, decimal}
use Rattle.dirf.specs.Fields.{field_order}
use Rattle.dirf.specs.Rules.{Found, keeps, breaks, Rule, gives, ask_field, first}
use Rattle.dirf.specs.Written.{Written, writes}

-- 01, "Fields": "Amounts (N, variable, 13)", "Month counts (.. N, variable, 4)"; "zero is written as the empty field"
abbrev pub amount_row : Row
amount_row = row N variable amount_size optional amount

abbrev pub month_row : Row
month_row = row N variable month_size optional months

-- what a reader answers
pub record Reading : Type 0 where
  pub number : ℕ
  pub value : ℕ

unfoldable pub read_as : Found → Text → Reading
read_as keeps s = record { number = 0; value = value_of s }
read_as (breaks number field) s = record { number = number; value = 0 }

-- 01: "give 0 for the empty field and refuse with 14, 15 or 16 in that order, value 0": the rules of a field, asked of its row
unfoldable pub read_number : Row → Text → Reading
read_number r s = read_as (ask_field 0 field_order [] r s) s

unfoldable pub read_amount : Text → Reading
read_amount s = read_number amount_row s

unfoldable pub read_months : Text → Reading
read_months s = read_number month_row s

-- what a writer is asked to write: a number of so many digits at the most, into so many bytes
pub record Figure : Type 0 where
  pub size : ℕ
  pub value : ℕ
  pub room : ℕ

unfoldable pub digits_of : Figure → Text
digits_of f = decimal f.size f.value

-- 15 "for a number over the limit"
unfoldable pub over_the_limit : Figure → Bool
over_the_limit f = ltb (largest f.size) f.value

-- 24 "for too little room"
unfoldable pub too_little_room : Figure → Bool
too_little_room f = ltb f.room (length (digits_of f))

-- 01: "24 for too little room and 15 for a number over the limit, tried before 24"
unfoldable pub figure_order : List (Rule Figure)
figure_order = gives 15 0 over_the_limit ∷ gives 24 0 too_little_room ∷ []

unfoldable pub write_number : ℕ → ℕ → ℕ → Written
write_number size value room =
    let f : Figure = record { size = size; value = value; room = room } in
    writes (first figure_order f) (digits_of f)

unfoldable pub write_amount : ℕ → ℕ → Written
write_amount value room = write_number amount_size value room

unfoldable pub write_months : ℕ → ℕ → Written
write_months value room = write_number month_size value room

-- to compute with this file: `unfolding amounts_opens`
unfoldable pub amounts_opens : Unit {0}
unfolding read_as read_number read_amount read_months digits_of over_the_limit too_little_room figure_order write_number write_amount
    write_months
amounts_opens = tt
