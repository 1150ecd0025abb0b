-- A contract allows one result: any two results that it allows for the same arguments are equal.
use mathlib.Core.Path.{sym, ◌∙◌}
use Rattle.fields.proofs.Determined.{One}
use Rattle.kinds.proofs as kinds

pub is_later_one : One kinds.is_later.Reads.Post
is_later_one κs a x y s t p q = p ∙ sym q

pub opens_nothing_one : One kinds.opens_nothing.Reads.Post
opens_nothing_one κs a x y s t p q = p ∙ sym q

pub stands_once_one : One kinds.stands_once.Reads.Post
stands_once_one κs a x y s t p q = p ∙ sym q

pub suits_one : One kinds.suits.Reads.Post
suits_one κs a x y s t p q = p ∙ sym q

pub first_amount_one : One kinds.first_amount.Reads.Post
first_amount_one κs a x y s t p q = p ∙ sym q

pub amount_count_one : One kinds.amount_count.Reads.Post
amount_count_one κs a x y s t p q = p ∙ sym q
