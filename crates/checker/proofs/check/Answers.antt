-- The check with totals, of which none is lent.
use Rattle.checker.proofs.check.Goals as goal

pub returns : goal.returns
returns c = record { answer = c.check_totals.ensures.answer; entries = c.check_totals.ensures.entries }
