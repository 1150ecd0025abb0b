-- A contract allows one result: any two results that it allows for the same arguments are equal.
use mathlib.Core.Path.{sym, ◌∙◌}
use Rattle.fields.proofs.Determined.{One, OneWith, both_one}
use Rattle.suite.proofs.decklesail_check_number.Reads as check-number
use Rattle.suite.proofs.decklesail_check_line.Reads as check-line
use Rattle.suite.proofs.decklesail_check_field.Reads as check-field
use Rattle.suite.proofs.decklesail_total.Reads as total
use Rattle.suite.proofs.decklesail_totals.Reads as totals
use Rattle.suite.proofs.decklesail_edition.Reads as edition
use Rattle.suite.proofs.decklesail_field_there.Reads as field-there
use Rattle.suite.proofs.decklesail_field_start.Reads as field-start
use Rattle.suite.proofs.decklesail_field_length.Reads as field-length
use Rattle.suite.proofs.decklesail_amount_number.Reads as amount-number
use Rattle.suite.proofs.decklesail_amount_value.Reads as amount-value

-- each contract is one equation for the result
pub check_number_one : One check-number.Post
check_number_one κs a x y s t p q = p ∙ sym q

pub check_line_one : One check-line.Post
check_line_one κs a x y s t p q = p ∙ sym q

pub check_field_one : One check-field.Post
check_field_one κs a x y s t p q = p ∙ sym q

pub edition_one : One edition.Post
edition_one κs a x y s t p q = p ∙ sym q

pub field_there_one : One field-there.Post
field_there_one κs a x y s t p q = p ∙ sym q

pub field_start_one : One field-start.Post
field_start_one κs a x y s t p q = p ∙ sym q

pub field_length_one : One field-length.Post
field_length_one κs a x y s t p q = p ∙ sym q

pub amount_number_one : One amount-number.Post
amount_number_one κs a x y s t p q = p ∙ sym q

pub amount_value_one : One amount-value.Post
amount_value_one κs a x y s t p q = p ∙ sym q

pub total_one : One total.Post
total_one κs a x y s t p q = p ∙ sym q

-- and of totals, what is lent too
pub totals_one : OneWith totals.Post (λ κs s. s.1.1.0.now)
totals_one κs a x y s t p q = both_one p q
