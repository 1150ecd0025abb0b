-- The contract allows one result.
use mathlib.Core.Path.{sym, ◌∙◌}
use Rattle.fields.proofs.Determined.{One}
use Rattle.identifiers.proofs.kind_of.Reads as kind-of

pub kind_of_one : One kind-of.Post
kind_of_one κs a x y s t p q = p ∙ sym q
