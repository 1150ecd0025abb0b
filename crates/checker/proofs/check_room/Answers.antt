-- The check with totals, of which none is lent.
use Rattle.checker.proofs.check_room.Goals as goal

pub returns : goal.returns
returns c = c.room_totals.ensures.answer
