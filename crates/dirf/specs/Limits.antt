-- Every limit and every fixed byte, named once.
use Rattle.std.specs.Prelude.{ℕ, ◌^◌, ◌-◌, [], ◌∷◌}
use Rattle.dirf.specs.Bytes.{Text}

-- 01, "Lines and limits": "A line is 0 to 1,024 bytes followed by CR LF."
abbrev pub line_limit : ℕ
line_limit = 1024

-- 01, "Lines and limits": "At most 65,536 lines."
abbrev pub lines_limit : ℕ
lines_limit = 65536

-- 01, "Lines and limits": "The table has four 32-bit numbers a record"; 02, A6: "Room in refusal 7 is now five numbers an entry"
abbrev pub numbers_an_entry : ℕ
numbers_an_entry = 5

-- 01, "Lines and limits": "Every field, the last included, ends with byte 124, the bar."
abbrev pub bar : ℕ
bar = 124

abbrev pub CR : ℕ
CR = 13

abbrev pub LF : ℕ
LF = 10

abbrev pub line_end : Text
line_end = CR ∷ LF ∷ []

-- 01, "Fields": "years 1900 to 2099 (house range)"
abbrev pub first_year : ℕ
first_year = 1900

abbrev pub last_year : ℕ
last_year = 2099

-- 01, "Fields": "Amounts (N, variable, 13) are centavos", "Month counts (N, variable, 4) are tenths of a month"
abbrev pub amount_size : ℕ
amount_size = 13

abbrev pub month_size : ℕ
month_size = 4

-- 000, 3.19: the twelve months and the thirteenth salary; no value record has more amounts
abbrev pub amounts_a_line : ℕ
amounts_a_line = 13

-- the largest number of so many digits: 9,999,999,999,999 centavos, 9,999 tenths of a month
abbrev pub largest : ℕ → ℕ
largest size = 10 ^ size - 1

-- 01, "The desk program": "Over 65,536 bytes it prints `25 0 0 0`. Its table has 3,000 entries."
abbrev pub desk_bytes : ℕ
desk_bytes = 65536

abbrev pub desk_entries : ℕ
desk_entries = 3000
