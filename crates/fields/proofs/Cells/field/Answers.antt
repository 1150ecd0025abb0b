-- The places say whether there is a field k, and where it stands.
use mathlib.Core.Path.{◌∙◌}
use native.Mathlib.Omega.{arith}
use Rattle.fields.specs.Places.{cell_at}
use Rattle.fields.proofs.PlaceLaws.{field_at, no_field}
use Rattle.fields.proofs.Cells.field.Goals as goal
use Rattle.fields.proofs.Cells.field.Goals.{then-k-eq0-via-then-k-eq0, then-k-eq0-via-else-k-eq0+then-self-k}
use Rattle.fields.proofs.Cells.field.Goals.{then-k-eq0-via-else-k-eq0+else-self-k+then-k-gt-MOST_FIELDS}

pub returns-then-k-eq0 : goal.returns-then-k-eq0
returns-then-k-eq0 c =
    elim c.then-k-eq0.branch [
      | then-k-eq0-via-then-k-eq0 w ↦ no_field _ _ _ (λ h. omega arith)
      | then-k-eq0-via-else-k-eq0+then-self-k w ↦ no_field _ _ _ (λ h. omega arith)
      | then-k-eq0-via-else-k-eq0+else-self-k+then-k-gt-MOST_FIELDS w ↦ no_field _ _ _ (λ h. omega arith)
    ]

pub returns : goal.returns
unfolding cell_at
returns c = c.part.ensures.0 ∙ field_at _ _ c.args.k (omega arith)
