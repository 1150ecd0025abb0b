-- A field of a date has digits alone.
use Rattle.dirf.specs.Fields.{right_byte}
use Rattle.layout.specs.Tables.{format_of}
use Rattle.rules.proofs.no_such_date.Goals as goal

pub is_date-requires : goal.is_date-requires
unfolding right_byte format_of
is_date-requires c = rw c.if-format-eq68.true at c.requires
