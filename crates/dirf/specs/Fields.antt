-- The rules of one field, 13 to 18 and 26. Each is asked of the record's identifier, the field's row and the field's bytes.
use Rattle.std.specs.Prelude.{ℕ, Bool, true, false, ◌&&◌, ◌||◌, not, List, [], ◌∷◌, eqb, leb, length}
use Rattle.dirf.specs.Bytes.{Text, every, some, is_in, same, is_digit, is_empty, begins_with}
use Rattle.dirf.specs.Limits.{bar, CR, LF}
use Rattle.dirf.specs.Row.{Row, Format, C, N, D, Fill, fixed, variable, Need, obligatory, optional, Holds, identifier}
use Rattle.dirf.specs.Row.{amount, months, ddd, telephone, cpf, cnpj, cpf_or_cnpj, plain, one_of}
use Rattle.dirf.specs.Numbers.{is_date}
use Rattle.dirf.specs.Digits.{right_CPF, right_CNPJ}

unfoldable pub is_obligatory : Need → Bool
is_obligatory obligatory = true
is_obligatory optional = false

-- 01, "Fields": "C: every byte but the bar (and, by the line rule, CR and LF). N and D: digits 0 to 9 only."
unfoldable pub right_byte : Format → ℕ → Bool
right_byte C b = not (is_in b (bar ∷ CR ∷ LF ∷ []))
right_byte N b = is_digit b
right_byte D b = is_digit b

-- 01, "Fields": "Fixed: exactly the size. Variable: 1 to the size."
unfoldable pub fills_to : Fill → ℕ → ℕ → Bool
fills_to fixed size n = eqb n size
fills_to variable size n = leb 1 n && leb n size

-- 01, number 15: "the 8 or 9 and 11 or 14 rules included"
unfoldable pub size_held : Holds → ℕ → Bool
size_held identifier n = true
size_held amount n = true
size_held months n = true
size_held ddd n = true
size_held telephone n = is_in n (8 ∷ 9 ∷ [])
size_held cpf n = true
size_held cnpj n = true
size_held cpf_or_cnpj n = is_in n (11 ∷ 14 ∷ [])
size_held plain n = true
size_held (one_of vs) n = true

-- 01, number 16: "a zero in front in an amount, month count or DDD"
unfoldable pub takes_no_zero : Holds → Bool
takes_no_zero identifier = false
takes_no_zero amount = true
takes_no_zero months = true
takes_no_zero ddd = true
takes_no_zero telephone = false
takes_no_zero cpf = false
takes_no_zero cnpj = false
takes_no_zero cpf_or_cnpj = false
takes_no_zero plain = false
takes_no_zero (one_of vs) = false

unfoldable pub dated : Format → Bool
dated C = false
dated N = false
dated D = true

-- 01, "Fields": "Valid values are those the sources print", the record's own identifier in field 1
unfoldable pub valid : Text → Holds → Text → Bool
valid name identifier s = same name s
valid name amount s = true
valid name months s = true
valid name ddd s = true
valid name telephone s = true
valid name cpf s = true
valid name cnpj s = true
valid name cpf_or_cnpj s = true
valid name plain s = true
valid name (one_of vs) s = some (same s) vs

-- 02, A1: "each filled CPF and CNPJ field, field 5 of PROC and RRA included, has right check digits"
unfoldable pub digits_held : Holds → Text → Bool
digits_held identifier s = true
digits_held amount s = true
digits_held months s = true
digits_held ddd s = true
digits_held telephone s = true
digits_held cpf s = right_CPF s
digits_held cnpj s = right_CNPJ s
digits_held cpf_or_cnpj s = right_CPF s || right_CNPJ s
digits_held plain s = true
digits_held (one_of vs) s = true

abbrev pub FieldTest : Type 0
FieldTest = Text → Row → Text → Bool

-- 01, "Fields": "Empty means missing, or zero in an amount or month count; an empty field that isn't obligatory passes 14 to 18."
unfoldable pub filled : Text → Bool
filled s = not (is_empty s)

-- 13
unfoldable pub obligatory_field_empty : FieldTest
obligatory_field_empty name r s = is_obligatory r.need && is_empty s

-- 14
unfoldable pub byte_of_the_wrong_kind : FieldTest
byte_of_the_wrong_kind name r s = not (every (right_byte r.format) s)

-- 15
unfoldable pub wrong_size : FieldTest
wrong_size name r s = filled s && not (fills_to r.fill r.size (length s) && size_held r.holds (length s))

-- 16
unfoldable pub zero_in_front : FieldTest
zero_in_front name r s = takes_no_zero r.holds && begins_with 48 s

-- 17
unfoldable pub no_such_date : FieldTest
no_such_date name r s = filled s && dated r.format && not (is_date s)

-- 18
unfoldable pub not_a_valid_value : FieldTest
not_a_valid_value name r s = filled s && not (valid name r.holds s)

-- 26
unfoldable pub wrong_check_digits : FieldTest
wrong_check_digits name r s = filled s && not (digits_held r.holds s)

-- a number, and when it is given for a field
abbrev pub FieldRule : Type 0
FieldRule = ℕ × FieldTest

-- 01, "Numbers given, and their order": 13 to 18 of one field, in the table's order; 02, A1: "26, after 18 for the same field"
unfoldable pub field_order : List FieldRule
field_order =
    (13, obligatory_field_empty) ∷
    (14, byte_of_the_wrong_kind) ∷
    (15, wrong_size) ∷
    (16, zero_in_front) ∷
    (17, no_such_date) ∷
    (18, not_a_valid_value) ∷
    (26, wrong_check_digits) ∷
    []

-- to compute with this file: `unfolding fields_opens`
unfoldable pub fields_opens : Unit {0}
unfolding is_obligatory right_byte fills_to size_held takes_no_zero dated valid digits_held filled obligatory_field_empty
    byte_of_the_wrong_kind
    wrong_size zero_in_front no_such_date not_a_valid_value wrong_check_digits field_order
fields_opens = tt
