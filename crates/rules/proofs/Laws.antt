-- What callers need of what is found in a record's fields.
use Prim.Native.Nat.{ℕ}
use mathlib.Core.Path.{◌≡◌, refl, ap}
use mathlib.Core.List.{List}
use Rattle.dirf.specs.Bytes.{Text}
use Rattle.dirf.specs.Row.{Row}
use Rattle.dirf.specs.Fields.{field_order}
use Rattle.dirf.specs.Conditions.{condition_order}
use Rattle.dirf.specs.Rules.{Found, keeps, breaks, or_else, ask_fields, ask_conditions, ask, first}
use Rattle.rules.specs.Findings.{contents_found}

pub or_keeps : (x : Found) → or_else x keeps ≡ x
unfolding or_else
or_keeps keeps = refl
or_keeps (breaks n f) = refl

module _ (k : ℕ) (name : Text) (rows : List Row) (cells : List Text) where
  -- 13 to 18 and 26 field by field, then 19
  pub in_parts : contents_found k name rows cells
      ≡ or_else (ask_fields 1 field_order name rows cells) (ask_conditions 19 condition_order k cells)
  unfolding first ask contents_found
  in_parts = ap (or_else (ask_fields 1 field_order name rows cells)) (or_keeps (ask_conditions 19 condition_order k cells))
