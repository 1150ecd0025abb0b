-- Plain words of mathematics that the statements use: membership, places in a list, check digits, dates, smaller keys.
use Rattle.std.specs.Prelude.{ℕ, suc, ◌+◌, ◌%◌, ◌≤◌, ◌<◌, ◌≡◌, true, ◌⊎◌, ◌≢◌, length, get_or, take, drop}
use mathlib.Core.List.{List, [], ◌∷◌, ◌++◌, Memᴰ}
use Rattle.dirf.specs.Bytes.{Text}
use Rattle.dirf.specs.Row.{Format, C, N, D, Fill, fixed, variable}
use Rattle.dirf.specs.Row.{Holds, identifier, amount, months, ddd, telephone, cpf, cnpj, cpf_or_cnpj, plain, one_of}
use Rattle.dirf.specs.Lines.{Piece}
use Rattle.dirf.specs.Numbers.{value_of}
use Rattle.dirf.specs.Digits.{weighted}

infix 4 ◌∈◌
abbrev pub ◌∈◌ : {A : Type 0} → A → List A → Type 0
x ∈ xs = Memᴰ x xs

-- the n-th element of a list, from 1, is x
pub data Nth {A : Type 0} : List A → ℕ → A → Type 0 where
  this : {x : A} {xs : List A} → Nth (x ∷ xs) 1 x
  next : {x y : A} {xs : List A} {n : ℕ} → Nth xs n y → Nth (x ∷ xs) (suc n) y

-- a line with its CR LF, as a piece of a file
abbrev pub whole_line : Text → Piece
whole_line s = record { body = s; ended = true }

-- no byte of a text is CR or LF
abbrev pub NoLineEnd : Text → Type 0
NoLineEnd s = (b : ℕ) → b ∈ s → (b ≢ 13) × (b ≢ 10)

-- 01, "Fields": "C: every byte but the bar (and, by the line rule, CR and LF). N and D: digits 0 to 9 only."
abbrev pub RightByte : Format → ℕ → Type 0
RightByte C b = (b ≢ 124) × (b ≢ 13) × (b ≢ 10)
RightByte N b = (48 ≤ b) × (b ≤ 57)
RightByte D b = (48 ≤ b) × (b ≤ 57)

-- 01, "Fields": "Fixed: exactly the size. Variable: 1 to the size."
abbrev pub Fills : Fill → ℕ → ℕ → Type 0
Fills fixed size n = n ≡ size
Fills variable size n = (1 ≤ n) × (n ≤ size)

-- 01, number 15: "the 8 or 9 and 11 or 14 rules included"
abbrev pub SizeHeld : Holds → ℕ → Type 0
SizeHeld identifier n = Unit {0}
SizeHeld amount n = Unit {0}
SizeHeld months n = Unit {0}
SizeHeld ddd n = Unit {0}
SizeHeld telephone n = (n ≡ 8) ⊎ (n ≡ 9)
SizeHeld cpf n = Unit {0}
SizeHeld cnpj n = Unit {0}
SizeHeld cpf_or_cnpj n = (n ≡ 11) ⊎ (n ≡ 14)
SizeHeld plain n = Unit {0}
SizeHeld (one_of vs) n = Unit {0}

-- 01, number 16: "in an amount, month count or DDD"
pub data TakesNoZero : Holds → Type 0 where
  an_amount : TakesNoZero amount
  a_month_count : TakesNoZero months
  a_ddd : TakesNoZero ddd

-- 01, "Fields": "Valid values are those the sources print"; field 1 holds the record's own identifier
abbrev pub Valid : Text → Holds → Text → Type 0
Valid name identifier s = s ≡ name
Valid name amount s = Unit {0}
Valid name months s = Unit {0}
Valid name ddd s = Unit {0}
Valid name telephone s = Unit {0}
Valid name cpf s = Unit {0}
Valid name cnpj s = Unit {0}
Valid name cpf_or_cnpj s = Unit {0}
Valid name plain s = Unit {0}
Valid name (one_of vs) s = s ∈ vs

-- 02, A1: "remainder below 2 gives 0, else 11 minus it", for the remainders from 0 to 10
abbrev pub digit_given : ℕ → ℕ
digit_given rest = get_or (0 ∷ 0 ∷ 9 ∷ 8 ∷ 7 ∷ 6 ∷ 5 ∷ 4 ∷ 3 ∷ 2 ∷ 1 ∷ []) rest 0

-- digits, and behind them the one that their weights give
abbrev pub with_digit : List ℕ → Text → Text
with_digit weights s = s ++ ((48 + digit_given (weighted weights s % 11)) ∷ [])

-- a number is its first digits with both check digits that they give, the second with a weight put in front
abbrev pub RightDigits : ℕ → List ℕ → Text → Type 0
RightDigits front weights s = s ≡ with_digit (front ∷ weights) (with_digit weights (take (length weights) s))

-- "CPF weights 10 down to 2, then 11 down to 2"
abbrev pub RightCPF : Text → Type 0
RightCPF s = RightDigits 11 (10 ∷ 9 ∷ 8 ∷ 7 ∷ 6 ∷ 5 ∷ 4 ∷ 3 ∷ 2 ∷ []) s

-- "CNPJ 5 4 3 2 9 8 7 6 5 4 3 2, then with a 6 put in front"
abbrev pub RightCNPJ : Text → Type 0
RightCNPJ s = RightDigits 6 (5 ∷ 4 ∷ 3 ∷ 2 ∷ 9 ∷ 8 ∷ 7 ∷ 6 ∷ 5 ∷ 4 ∷ 3 ∷ 2 ∷ []) s

-- "each filled CPF and CNPJ field, field 5 of PROC and RRA included"
abbrev pub DigitsHeld : Holds → Text → Type 0
DigitsHeld identifier s = Unit {0}
DigitsHeld amount s = Unit {0}
DigitsHeld months s = Unit {0}
DigitsHeld ddd s = Unit {0}
DigitsHeld telephone s = Unit {0}
DigitsHeld cpf s = RightCPF s
DigitsHeld cnpj s = RightCNPJ s
DigitsHeld cpf_or_cnpj s = RightCPF s ⊎ RightCNPJ s
DigitsHeld plain s = Unit {0}
DigitsHeld (one_of vs) s = Unit {0}

-- 01, "Fields": "Gregorian calendar"
abbrev pub Leap : ℕ → Type 0
Leap y = (y % 4 ≡ 0) × ((y % 100 ≢ 0) ⊎ (y % 400 ≡ 0))

-- day d is in month m of year y
pub data InMonth (y m d : ℕ) : Type 0 where
  long_month : m ∈ (1 ∷ 3 ∷ 5 ∷ 7 ∷ 8 ∷ 10 ∷ 12 ∷ []) → d ≤ 31 → InMonth y m d
  short_month : m ∈ (4 ∷ 6 ∷ 9 ∷ 11 ∷ []) → d ≤ 30 → InMonth y m d
  february : m ≡ 2 → d ≤ 28 → InMonth y m d
  leap_february : m ≡ 2 → Leap y → d ≤ 29 → InMonth y m d

-- 01, "Fields": "D: year, month, day; years 1900 to 2099 (house range)"
pub record Date (s : Text) : Type 0 where
  pub year : (1900 ≤ value_of (take 4 s)) × (value_of (take 4 s) ≤ 2099)
  pub day : 1 ≤ value_of (drop 6 s)
  pub month : InMonth (value_of (take 4 s)) (value_of (take 2 (drop 4 s))) (value_of (drop 6 s))

-- 01, "Order": "Keys compare byte by byte, a proper beginning first; an empty key is the least."
pub data Smaller (a b : Text) : Type 0 where
  beginning : (c : ℕ) (t : Text) → b ≡ a ++ (c ∷ t) → Smaller a b
  at_byte : (s : Text) (x y : ℕ) (t u : Text) → a ≡ s ++ (x ∷ t) → b ≡ s ++ (y ∷ u) → x < y → Smaller a b

-- a key of one or two fields: at the first field in which they differ
pub data SmallerKey : List Text → List Text → Type 0 where
  shorter : {c : Text} {cs : List Text} → SmallerKey [] (c ∷ cs)
  at_field : {b c : Text} {bs cs : List Text} → Smaller b c → SmallerKey (b ∷ bs) (c ∷ cs)
  same_field : {b c : Text} {bs cs : List Text} → b ≡ c → SmallerKey bs cs → SmallerKey (b ∷ bs) (c ∷ cs)
