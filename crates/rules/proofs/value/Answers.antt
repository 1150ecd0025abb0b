use mathlib.Core.Path.{◌∙◌}
use Rattle.rules.proofs.Values.{uncapped}
use Rattle.rules.proofs.value.Goals as goal

pub returns : goal.returns
returns c = c.capped.ensures ∙ uncapped c.args.s.now c.requires.0 c.requires.1
