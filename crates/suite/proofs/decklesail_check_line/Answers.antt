-- One number of the check's answer.
use mathlib.Core.Path.{ap}
use Rattle.checker.specs.Answers.{answer_of}
use Rattle.suite.proofs.decklesail_check_line.Goals as goal

pub returns : goal.returns
unfolding answer_of
returns c = ap (λ a. a.line) c.check_room.ensures
