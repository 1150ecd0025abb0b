-- A contract allows one result: any two results that it allows for the same arguments are equal.
use mathlib.Core.Path.{sym, ◌∙◌}
use Rattle.fields.proofs.Determined.{One}
use Rattle.conditions.proofs as conditions

pub broken_field_one : One conditions.broken_field.Reads.Post
broken_field_one κs a x y s t p q = p ∙ sym q
