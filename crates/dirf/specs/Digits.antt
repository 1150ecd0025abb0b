-- The check digits of a CPF and of a CNPJ: the public modulo 11 rule, over a list of weights.
use Rattle.std.specs.Prelude.{ℕ, ◌+◌, ◌-◌, ◌*◌, ◌%◌, Bool, ◌&&◌, List, [], ◌∷◌, eqb, ltb, length, get_or, if◌then◌else◌}
use Rattle.dirf.specs.Bytes.{Text}

-- 02, A1: "CPF weights 10 down to 2, then 11 down to 2"
abbrev pub weights_of_CPF : List ℕ
weights_of_CPF = 10 ∷ 9 ∷ 8 ∷ 7 ∷ 6 ∷ 5 ∷ 4 ∷ 3 ∷ 2 ∷ []

abbrev pub front_of_CPF : ℕ
front_of_CPF = 11

-- "CNPJ 5 4 3 2 9 8 7 6 5 4 3 2, then with a 6 put in front"
abbrev pub weights_of_CNPJ : List ℕ
weights_of_CNPJ = 5 ∷ 4 ∷ 3 ∷ 2 ∷ 9 ∷ 8 ∷ 7 ∷ 6 ∷ 5 ∷ 4 ∷ 3 ∷ 2 ∷ []

abbrev pub front_of_CNPJ : ℕ
front_of_CNPJ = 6

-- the sum of the digits, each times its weight
unfoldable pub weighted : List ℕ → Text → ℕ
weighted [] s = 0
weighted (w ∷ ws) [] = 0
weighted (w ∷ ws) (b ∷ s) = w * (b - 48) + weighted ws s

-- "remainder below 2 gives 0, else 11 minus it"
unfoldable pub check_digit : ℕ → ℕ
check_digit sum = if ltb (sum % 11) 2 then 0 else 11 - sum % 11

-- the digit behind those that have a weight is the one that they give
unfoldable pub digit_right : List ℕ → Text → Bool
digit_right weights s = eqb (get_or s (length weights) 0) (48 + check_digit (weighted weights s))

-- as many digits as there are weights, then the digit that these give, then the one that they give with a weight put in front
unfoldable pub digits_right : ℕ → List ℕ → Text → Bool
digits_right front weights s = eqb (length s) (length weights + 2) && digit_right weights s && digit_right (front ∷ weights) s

abbrev pub right_CPF : Text → Bool
right_CPF s = digits_right front_of_CPF weights_of_CPF s

abbrev pub right_CNPJ : Text → Bool
right_CNPJ s = digits_right front_of_CNPJ weights_of_CNPJ s

-- to compute with this file: `unfolding digits_opens`
unfoldable pub digits_opens : Unit {0}
unfolding weighted check_digit digit_right digits_right
digits_opens = tt
