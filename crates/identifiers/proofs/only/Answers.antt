-- Where one identifier is left, its kind or none is the kind.
use Rattle.std.specs.Bool.{then_some}
use Rattle.std.proofs.Math.Seq.{take-length}
use mathlib.Core.Path.{ap, ◌∙◌}
use Rattle.identifiers.proofs.Names.{whole, found_left}
use Rattle.identifiers.proofs.only.Goals as goal

pub returns : goal.returns
returns c =
    let name = c.args.name.now in
    c.then_some.ensures
    ∙ ap (λ b. then_some b c.args.k) (c.starts_with.ensures.value ∙ cc (take-length name, whole name c.args.s.now c.requires.left.long))
    ∙ found_left c.requires.left c.requires.there
