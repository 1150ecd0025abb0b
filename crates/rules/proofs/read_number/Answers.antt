-- The rules of the row refuse, or they are kept and the digits have a value.
use mathlib.Core.Path.{◌≡◌, sym}
use mathlib.Core.List.{[]}
use borrow.Author.Rules.{rules}
use Rattle.std.specs.Prelude.{Err}
use Rattle.dirf.specs.Amounts.{read_as, read_number}
use Rattle.layout.specs.Tables.{row_of}
use Rattle.layout.specs.Codes.{row_said}
use Rattle.rules.proofs.FieldOrder.{nothing, kept_digits}
use Rattle.rules.proofs.Readings.{refused}
use Rattle.rules.proofs.read_number.Goals as goal

pub returns-in_err-field_rule : goal.returns-in_err-field_rule
unfolding read_number
returns-in_err-field_rule c =
    let r = c.in_err-field_rule.field-0.0 in
    let e : c.from_residual.result ≡ Err r = search rules in
    rw e (refused _ c.args.s.now r c.in_err-field_rule.ensures)

pub value-requires : goal.value-requires
unfolding row_of row_said
value-requires c =
    let row = row_said c.args.row in
    let kept = nothing [] row c.args.s.now (sym c.in_ok-field_rule.ensures) in
    kept_digits row c.args.s.now c.requires.0 c.requires.2 kept

pub returns : goal.returns
unfolding read_as read_number
returns c =
    let kept = nothing _ _ _ (sym c.in_ok-field_rule.ensures) in
    rw (kept, c.value.ensures)
