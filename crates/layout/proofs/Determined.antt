-- A contract allows one result: any two results that it allows for the same arguments are equal.
use mathlib.Core.Path.{sym, ◌∙◌}
use Rattle.fields.proofs.Determined.{One, OnePlace, by_parts}
use Rattle.layout.proofs as layout

pub name_table_one : One layout.name_table.Reads.Post
name_table_one κs a x y s t p q = p ∙ sym q

pub row_table_one : One layout.row_table.Reads.Post
row_table_one κs a x y s t p q = p ∙ sym q

pub pf_table_one : One layout.pf_table.Reads.Post
pf_table_one κs a x y s t p q = p ∙ sym q

pub pj_table_one : One layout.pj_table.Reads.Post
pj_table_one κs a x y s t p q = p ∙ sym q

pub field_count_one : One layout.field_count.Reads.Post
field_count_one κs a x y s t p q = p ∙ sym q

pub row_at_one : One layout.row_at.Reads.Post
row_at_one κs a x y s t p q = p ∙ sym q

pub may_hold_one : One layout.may_hold.Reads.Post
may_hold_one κs a x y s t p q = p ∙ sym q

pub is_base_one : One layout.is_base.Reads.Post
is_base_one κs a x y s t p q = p ∙ sym q

pub name_one : OnePlace layout.name.Reads.Post
name_one κs a x y s t p q = by_parts x y p q
