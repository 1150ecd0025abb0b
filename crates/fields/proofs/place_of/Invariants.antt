-- Field k of the line is field `before` of what begins at byte `start`.
use Rattle.std.proofs.Common.{◌≡◌, ◌≤◌, length}
use Rattle.fields.specs.Places.{place_of}
use Rattle.fields.proofs.Spots.{sought}
use Rattle.fields.proofs.place_of.Given as goal

abbrev pub invariant-loop-before : goal.invariant-loop-before
invariant-loop-before l = (l.start ≤ length l.line) × (place_of l.line l.k ≡ sought l.line l.start l.before)
