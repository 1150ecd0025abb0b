-- The count says which of fields 2 and 3 the keys are made of.
use mathlib.Core.Path.{◌≡◌, sym, ◌∙◌}
use mathlib.Core.Bool.{and-false, or-false}
use native.Mathlib.Omega.{arith}
use lib.ListN.{length}
use Rattle.dirf.specs.Bytes.{is_in}
use Rattle.dirf.specs.Kinds.{reimbursements}
use Rattle.dirf.specs.FieldReader.{field_of}
use Rattle.dirf.specs.Keys.{key_fields, key_less}
use Rattle.dirf.proofs.tests.Bools.{by_answer}
use Rattle.fields.proofs.Keys.{key_parts_lem, at_most_two, plain_key}
use Rattle.fields.proofs.PlaceLaws.{key_of_cells}
use Rattle.fields.proofs.key_less.Goals as goal

pub returns-in-2 : goal.returns-in-2
unfolding field_of key_less
returns-in-2 c =
    let k = c.args.k in
    let n = sym c.key_count.ensures ∙ c.in-2.is in
    let plain = plain_key k (λ one. omega (arith, n, one)) in
    simp (key_of_cells, key_parts_lem, plain, n, c.then_less.ensures, c.field-in-2.ensures.0, c.field.ensures.0)

pub returns-in-1 : goal.returns-in-1
unfolding field_of key_less
returns-in-1 c =
    let k = c.args.k in
    let n = sym c.key_count.ensures ∙ c.in-1.is in
    by_answer (is_in k reimbursements)
    (λ r. simp (key_of_cells, key_parts_lem, r, c.one_less.ensures, c.field-in-1.ensures.0))
    (λ r. simp (key_of_cells, key_parts_lem, r, n, c.one_less.ensures, c.field-in-1.ensures.0, and-false, or-false))

pub returns-in_default : goal.returns-in_default
unfolding field_of key_less
returns-in_default c =
    let k = c.args.k in
    let n : length (key_fields k) ≡ 0 = omega (arith, at_most_two k) in
    let plain = plain_key k (λ one. omega (arith, n, one)) in
    simp (key_of_cells, key_parts_lem, plain, n)
