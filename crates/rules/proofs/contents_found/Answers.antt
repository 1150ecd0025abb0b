-- Field by field, and then the conditions.
use Prim.Native.Nat.{◌<◌}
use mathlib.Core.Path.{◌≡◌, refl, sym, ◌∙◌}
use native.Mathlib.Omega.{arith}
use lib.ListN.{length}
use Rattle.dirf.specs.Fields.{field_order}
use Rattle.dirf.specs.Rules.{keeps, or_else}
use Rattle.dirf.proofs.tests.Says.{below_or}
use Rattle.fields.specs.Places.{cells_of}
use Rattle.fields.proofs.PlaceLaws.{cells_length}
use Rattle.layout.specs.Tables.{count_in, rows_in}
use Rattle.layout.proofs.Laws.{count_bound}
use Rattle.rules.proofs.Findings.{fields_from, fields_end, found_here, none_here, past_rows}
use Rattle.rules.proofs.Laws.{in_parts}
use Rattle.rules.proofs.contents_found.Goals as goal

pub loop-i-init : goal.loop-i-init
loop-i-init c = refl

pub overflow_cast-field : goal.overflow_cast-field
overflow_cast-field c = omega (arith, c.field_count.ensures, count_bound c.args.rows.now c.args.k)

pub returns-in-Err : goal.returns-in-Err
unfolding or_else
returns-in-Err c =
    let a = c.args in
    let i = c.loop-i.i in
    let cells = cells_of a.cells in
    let row : i < count_in a.rows.now a.k = omega (arith, c.field_count.ensures) in
    let cell : i < length cells = omega (arith, cells_length a.cells.bytes.now a.cells.places.now, count_bound a.rows.now a.k) in
    let e = c.in-Err.ensures ∙ rw (c.row_at.ensures, c.field.ensures) in
    let found = found_here a.rows.now a.k a.name.now cells i row cell c.in-Err.refusal e in
    rw c.at.ensures (sym (in_parts _ _ _ _ ∙ rw (c.loop-i.invariant ∙ sym found)))

pub loop-i-preserved : goal.loop-i-preserved
loop-i-preserved c =
    let a = c.args in
    let i = c.loop-i.i in
    let cells = cells_of a.cells in
    let row : i < count_in a.rows.now a.k = omega (arith, c.field_count.ensures) in
    let cell : i < length cells = omega (arith, cells_length a.cells.bytes.now a.cells.places.now, count_bound a.rows.now a.k) in
    let e = c.in_default.ensures ∙ rw (c.row_at.ensures, c.field.ensures) in
    c.loop-i.invariant ∙ none_here a.rows.now a.k a.name.now cells i row cell e

pub returns : goal.returns
unfolding or_else
returns c =
    let a = c.args in
    let i = c.loop-i.i in
    let cells = cells_of a.cells in
    let past : fields_from a.rows.now a.k a.name.now cells i ≡ keeps =
    below_or (count_in a.rows.now a.k) i
    (λ h.
    fields_end field_order a.name.now (rows_in a.rows.now a.k) cells i
    (omega (arith, cells_length a.cells.bytes.now a.cells.places.now, c.field_count.ensures)))
    (λ h. past_rows a.rows.now a.k a.name.now cells i h) in
    c.conditions_found.ensures ∙ sym (in_parts _ _ _ _ ∙ rw (c.loop-i.invariant ∙ past))
