-- The kind by the identifier, the place by the kind.
use Rattle.std.specs.Prelude.{unwrap_or}
use Prim.Native.Nat.{◌<◌}
use mathlib.Core.Path.{sym, ap, subst, ◌∙◌}
use Rattle.kinds.specs.Kinds.{kinds}
use Rattle.layout.proofs.Laws.{kind_small}
use Rattle.layout.proofs.Editions.{laid_out_lem}
use Rattle.identifiers.proofs.Found.{found_number}
use Rattle.checker.specs.Turn.{record_of}
use Rattle.checker.proofs.turn.Tables.record_of.Goals as goal

pub held_at-requires : goal.held_at-requires
unfolding record_of
held_at-requires c = c.requires

pub returns : goal.returns
unfolding record_of
returns c =
    let h = c.held_at.ensures in
    let k = c.unwrap_or-k.ensures ∙ ap (λ o. unwrap_or o 0) c.kind_of.ensures ∙ found_number _ in (
      simp (h.0, k, c.field.ensures.0),
      (subst (λ x. x < kinds) (sym k) (kind_small _ (laid_out_lem _) _), h.1),
    )
