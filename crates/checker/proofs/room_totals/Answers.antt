-- No entry is written.
use Rattle.dirf.specs.Check.{answer_to}
use Rattle.dirf.specs.Totals.{total_of}
use Rattle.checker.proofs.room_totals.Goals as goal

pub returns : goal.returns
unfolding answer_to total_of
returns c = let w = c.judged.ensures in record { answer = w.judged.answer; totals = w.totals }
