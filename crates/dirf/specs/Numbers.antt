-- Numbers in decimal digits, and dates.
use Rattle.std.specs.Prelude.{ℕ, zero, suc, ◌+◌, ◌-◌, ◌*◌, ◌/◌, ◌%◌, Bool, ◌&&◌, ◌||◌, not, [], ◌∷◌, ◌++◌, eqb, leb, get_or, take, drop}
use Rattle.std.specs.Prelude.{if◌then◌else◌}
use Rattle.dirf.specs.Bytes.{Text}
use Rattle.dirf.specs.Limits.{first_year, last_year}

-- the number that digits write, after the digits that wrote `high`
unfoldable pub value_after : ℕ → Text → ℕ
value_after high [] = high
value_after high (b ∷ s) = value_after (high * 10 + (b - 48)) s

unfoldable pub value_of : Text → ℕ
value_of s = value_after 0 s

-- the last digits of a number, `size` of them at the most, with no zero in front: zero has none
unfoldable pub decimal : ℕ → ℕ → Text
decimal zero v = []
decimal (suc size) v = if eqb v 0 then [] else decimal size (v / 10) ++ ((48 + v % 10) ∷ [])

-- 01, "Fields": "Gregorian calendar"
unfoldable pub is_leap : ℕ → Bool
is_leap y = eqb (y % 4) 0 && (not (eqb (y % 100) 0) || eqb (y % 400) 0)

-- the days of a month, from January; a number that is no month has none
unfoldable pub days_in : ℕ → ℕ → ℕ
days_in y m = get_or (0 ∷ 31 ∷ (if is_leap y then 29 else 28) ∷ 31 ∷ 30 ∷ 31 ∷ 30 ∷ 31 ∷ 31 ∷ 30 ∷ 31 ∷ 30 ∷ 31 ∷ []) m 0

-- 01, "Fields": "D: year, month, day; years 1900 to 2099 (house range)"
unfoldable pub is_day : ℕ → ℕ → ℕ → Bool
is_day y m d = leb first_year y && leb y last_year && leb 1 d && leb d (days_in y m)

unfoldable pub is_date : Text → Bool
is_date s = is_day (value_of (take 4 s)) (value_of (take 2 (drop 4 s))) (value_of (drop 6 s))

-- to compute with this file: `unfolding numbers_opens`
unfoldable pub numbers_opens : Unit {0}
unfolding value_after value_of decimal is_leap days_in is_day is_date
numbers_opens = tt
