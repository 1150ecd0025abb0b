-- 4, 5 or 6 stops the turn.
use mathlib.Core.Path.{◌≡◌, ap}
use borrow.Author.Rules.{rules}
use Rattle.std.specs.Prelude.{Err}
use Rattle.fields.specs.Places.{scan_of}
use Rattle.fields.specs.declared.Scanned.{Scanned}
use Rattle.refusals.specs.Numbers.{whole}
use Rattle.refusals.proofs.Numbers.{not_0}
use Rattle.checker.specs.Turn.{line_step}
use Rattle.checker.proofs.turn.Tables.lined.Goals as goal

pub number_at-requires : goal.number_at-requires
unfolding scan_of
number_at-requires c = ap (λ (x : Scanned). x.len) c.scan-scanned.ensures

pub returns-in_err-number_at : goal.returns-in_err-number_at
unfolding line_step
returns-in_err-number_at c =
    let r = c.in_err-number_at.field-0.0 in
    let e : c.from_residual.result ≡ Err (whole r) = search rules in
    rw (e, ← c.tail-rest.ensures, ← c.in_err-number_at.ensures, not_0 r)

pub returns : goal.returns
unfolding line_step scan_of
returns c =
    simp (c.recorded.ensures, c.part.ensures.0, c.scan-scanned.ensures, ← c.tail-rest.ensures, ← c.in_ok-number_at.ensures)
