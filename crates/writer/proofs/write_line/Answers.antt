-- The first refusal; where there is none, the line.
use mathlib.Core.Path.{◌≡◌, refl, ◌∙◌}
use native.Mathlib.Omega.{arith}
use borrow.Author.Rules.{rules}
use Rattle.std.specs.Prelude.{Err}
use Rattle.dirf.specs.Written.{writes, output_after}
use Rattle.writer.specs.Answers.{answered}
use Rattle.writer.proofs.Refusals.{by_edition}
use Rattle.writer.proofs.LineAnswer.{line_refused, line_written_lem, added_up, has_room, line_stored}
use Rattle.writer.proofs.write_line.Goals as goal

pub returns-in_err-found-clause-said : goal.returns-in_err-found-clause-said
unfolding writes answered
returns-in_err-found-clause-said c =
    let asked = by_edition _ _ c.name_table.ensures c.row_table.ensures _ (omega (arith, c.well_formed)) in
    let b = c.in_err-found.field-0.0 in
    let e : c.from_residual.result ≡ Err b = search rules in
    let w = line_refused _ _ _ _ _ (c.in_err-found.ensures ∙ asked) in
    rw (e, w)

pub returns-in_err-found-clause-output : goal.returns-in_err-found-clause-output
unfolding writes output_after
returns-in_err-found-clause-output c =
    let asked = by_edition _ _ c.name_table.ensures c.row_table.ensures _ (omega (arith, c.well_formed)) in
    let w = line_refused _ _ _ _ _ (c.in_err-found.ensures ∙ asked) in
    rw w

pub put_line-requires : goal.put_line-requires
put_line-requires c =
    let asked = by_edition _ _ c.name_table.ensures c.row_table.ensures _ (omega (arith, c.well_formed)) in
    let none = c.in_ok-found.ensures ∙ asked in
    (added_up _ _ _ _ _ none, has_room _ _ _ _ _ none)

pub returns-clause-said : goal.returns-clause-said
unfolding writes answered
returns-clause-said c =
    let asked = by_edition _ _ c.name_table.ensures c.row_table.ensures _ (omega (arith, c.well_formed)) in
    let w = line_written_lem _ _ _ _ _ (c.in_ok-found.ensures ∙ asked) in
    rw (w, c.put_line.ensures.0)

pub returns-clause-output : goal.returns-clause-output
unfolding writes output_after
returns-clause-output c =
    let asked = by_edition _ _ c.name_table.ensures c.row_table.ensures _ (omega (arith, c.well_formed)) in
    let none = c.in_ok-found.ensures ∙ asked in
    let w = line_written_lem _ _ _ _ _ none in
    rw w (c.put_line.ensures.1 ∙ line_stored _ _ _ _ _ none c.args.out.now refl)
