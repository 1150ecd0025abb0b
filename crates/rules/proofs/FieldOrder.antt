-- 13 to 18 and 26 of one field, in the order in which the code asks them.
use Rattle.std.specs.Prelude.{if◌then◌else◌}
use Prim.Native.Nat.{ℕ, ◌≤◌}
use mathlib.Core.Path.{◌≡◌, refl, ◌∙◌}
use mathlib.Core.Bool.{Bool, true, false, ◌&&◌, not, and-true, and-false}
use mathlib.Core.List.{[], ◌∷◌}
use native.Mathlib.Omega.{arith}
use native.Mathlib.Nat.{le_trans}
use lib.Dec.{eqb, leb, ltb}
use lib.ListN.{length, get_or}
use borrow.Author.Tests.{not-false, le-leb}
use Rattle.dirf.specs.Bytes.{Text, every, is_digit, is_empty, begins_with}
use Rattle.dirf.specs.Row.{Row, N}
use Rattle.dirf.specs.Numbers.{is_date}
use Rattle.dirf.specs.Fields.{is_obligatory, right_byte, fills_to, size_held, takes_no_zero, dated, valid, digits_held, filled, field_order}
use Rattle.dirf.specs.Fields.{obligatory_field_empty, byte_of_the_wrong_kind, wrong_size, zero_in_front, no_such_date, not_a_valid_value}
use Rattle.dirf.specs.Fields.{wrong_check_digits}
use Rattle.dirf.specs.Rules.{Found, keeps, given, or_else, ask_field}
use Rattle.dirf.proofs.tests.Lists.{listed}
use Rattle.dirf.proofs.rules.Asked.{field_kept, field_passes, nothing_found}
use Rattle.dirf.proofs.back.KeptFields.{within_size}
use Rattle.layout.specs.declared.Row.{Row as Codes}
use Rattle.layout.specs.Tables.{need_of, row_of}
use Rattle.layout.specs.Codes.{row_said}
use Rattle.rules.specs.Findings.{number_of, FilledRight}
use Rattle.rules.proofs.Every.{every_all}

step : (n f : ℕ) (t : Bool) (later : Found) → number_of (or_else (given n f t) later) ≡ (if t then n else number_of later)
unfolding number_of given or_else
step n f true later = refl
step n f false later = refl

-- 15 kept, 16 broken, 17 broken: of a filled field
abbrev pub right_size : Row → Text → Bool
right_size r s = fills_to r.fill r.size (length s) && size_held r.holds (length s)

abbrev pub zero_first : Row → Text → Bool
zero_first r s = takes_no_zero r.holds && begins_with 48 s

abbrev pub no_date : Row → Text → Bool
no_date r s = dated r.format && not (is_date s)

-- the number by what the tests of a filled field answer
unfoldable pub ruled : Bool → Bool → Bool → Bool → Bool → Bool → ℕ
ruled bytes size zero date value digits =
    if not bytes then 14 else (if not size then 15 else (if zero then 16 else (if date then 17 else (if not value then 18
    else (if not digits then 26 else 0)))))

module _ (name : Text) (r : Row) where
  pub empty_number : (s : Text) → length s ≡ 0 → number_of (ask_field 0 field_order name r s) ≡ (if is_obligatory r.need then 13 else 0)
  unfolding ask_field field_order obligatory_field_empty byte_of_the_wrong_kind wrong_size zero_in_front no_such_date not_a_valid_value
      wrong_check_digits filled is_empty every begins_with number_of
  empty_number [] e = simp (and-false, and-true, step)
  empty_number (b ∷ s) e = absurd (omega arith)

  pub filled_number : (s : Text) → (length s ≡ 0 → ⊥)
      → number_of (ask_field 0 field_order name r s)
      ≡ ruled (every (right_byte r.format) s) (right_size r s) (zero_first r s) (no_date r s) (valid name r.holds s)
      (digits_held r.holds s)
  unfolding ask_field field_order obligatory_field_empty byte_of_the_wrong_kind wrong_size zero_in_front no_such_date not_a_valid_value
      wrong_check_digits filled is_empty number_of ruled
  filled_number [] h = absurd (h refl)
  filled_number (b ∷ s) h = simp (and-false, step)

  pub nothing : (s : Text) → number_of (ask_field 0 field_order name r s) ≡ 0 → ask_field 0 field_order name r s ≡ keeps
  unfolding every field_order number_of
  nothing s e = nothing_found number_of (λ n f. refl) (ask_field 0 field_order name r s)
      (field_passes (ltb 0) 0 field_order name r s refl) e

-- what is kept by a number of so many digits
pub kept_digits : (r : Row) (s : Text) → r.format ≡ N → r.size ≤ 18 → ask_field 0 field_order [] r s ≡ keeps
    → (every is_digit s ≡ true) × (length s ≤ 18)
unfolding byte_of_the_wrong_kind right_byte field_order
kept_digits r s n l k =
    let digits = not-false (every (right_byte r.format) s) (field_kept 0 [] r s 14 byte_of_the_wrong_kind (search listed) k) in
    (rw n at digits, le_trans (within_size [] r s (field_kept 0 [] r s 15 wrong_size (search listed) k)) l)

pub front_lem : (b : ℕ) (s : Text) → begins_with b s ≡ (leb 1 (length s) && eqb (get_or s 0 0) b)
unfolding begins_with
front_lem b [] = refl
front_lem b (d ∷ s) = rw (le-leb 1 (length (d ∷ s)) (omega arith))

-- the number by the tests that are left, of a field that is filled with right bytes
pub filled_is : (name : Text) (r : Row) (s : Text) → (length s ≡ 0 → ⊥) → every (right_byte r.format) s ≡ true
    → number_of (ask_field 0 field_order name r s)
    ≡ ruled true (right_size r s) (zero_first r s) (no_date r s) (valid name r.holds s) (digits_held r.holds s)
unfolding ruled
filled_is name r s filled bytes = filled_number name r s filled ∙ rw bytes

-- the same, where a row is given by its codes
pub codes_filled : (name : Text) (row : Codes) (s : Text) → FilledRight s row
    → number_of (ask_field 0 field_order name (row_said row) s)
    ≡ (let r = row_said row in ruled true (right_size r s) (zero_first r s) (no_date r s) (valid name r.holds s) (digits_held r.holds s))
unfolding row_said row_of
codes_filled name row s f = filled_is name (row_said row) s (λ e. omega (arith, f.filled)) f.bytes

-- to compute what the codes of a row say
unfoldable pub codes_open : Unit {0}
unfolding is_obligatory need_of row_of row_said ruled
codes_open = tt

pub ruleset field_rules = (empty_number, filled_number, every_all)
