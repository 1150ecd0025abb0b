use mathlib.Core.Path.{ap}
use Rattle.checker.specs.Answers.{answer_of}
use Rattle.checker.specs.declared.Answer.{Answer}
use Rattle.suite.proofs.decklesail_totals.Goals as goal

pub returns : goal.returns
unfolding answer_of
returns c =
    let w = c.room_totals.ensures in
    record { number = ap (λ (a : Answer). a.number) w.answer; totals = w.totals }
