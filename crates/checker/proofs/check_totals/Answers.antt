-- Every entry of the verdict has room.
use mathlib.Core.Path.{◌∙◌}
use Rattle.dirf.specs.Check.{answer_to}
use Rattle.dirf.specs.Totals.{total_of}
use Rattle.dirf.proofs.files.Files.{files}
use Rattle.checker.proofs.Table.{all_within}
use Rattle.checker.proofs.check_totals.Goals as goal

pub returns : goal.returns
unfolding answer_to total_of
returns c =
    let w = c.judged.ensures in
    record { answer = w.judged.answer; entries = w.judged.entries ∙ all_within _ _ (files.counts _ _).fits; totals = w.totals }
