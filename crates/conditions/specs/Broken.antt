-- The conditions of a kind, as the code answers them.
use Rattle.std.specs.Prelude.{ℕ, Bool, ◌&&◌, not, Option, Some, None, List, eqb, ltb, length, if◌then◌else◌}
use Rattle.dirf.specs.Bytes.{Text, bytes, same}
use Rattle.dirf.specs.Lines.{field}
use Rattle.dirf.specs.Conditions.{condition_order}
use Rattle.dirf.specs.Rules.{Found, keeps, breaks, ask_conditions}

-- the field that is named, where a rule is broken
unfoldable pub field_of : Found → Option ℕ
field_of keeps = None
field_of (breaks number field) = Some field

-- the field that the first broken condition of a kind names
unfoldable pub broken_field : ℕ → List Text → Option ℕ
broken_field k cells = field_of (ask_conditions 19 condition_order k cells)

-- of a declaration of special situation: field 10 is 1, and 11 is not S
unfoldable pub death_unstated : List Text → Bool
death_unstated cells = same (field 10 cells) (bytes "1") && not (same (field 11 cells) (bytes "S"))

-- a lawyer's number is there, and has not so many digits
unfoldable pub other_digits : ℕ → ℕ → Bool
other_digits number digits = not (eqb number 0) && not (eqb number digits)

-- where the lawyer's kind means so many digits in field 5 and up to so many bytes in 6: the lower one that does not agree
unfoldable pub lawyers_field : ℕ → ℕ → List Text → Option ℕ
lawyers_field digits most cells =
    if other_digits (length (field 5 cells)) digits then Some 5
    else (if ltb most (length (field 6 cells)) then Some 6 else None)
