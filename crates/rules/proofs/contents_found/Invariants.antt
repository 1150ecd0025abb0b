-- Nothing is found in the fields before field i + 1.
use Rattle.std.proofs.Common.{◌≡◌}
use Rattle.fields.specs.Places.{cells_of}
use Rattle.rules.proofs.Findings.{fields_from}
use Rattle.rules.proofs.contents_found.Given as goal

abbrev pub invariant-loop-i : goal.invariant-loop-i
invariant-loop-i l = fields_from l.rows l.k l.name (cells_of l.cells) 0 ≡ fields_from l.rows l.k l.name (cells_of l.cells) l.i
