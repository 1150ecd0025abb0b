-- The places along the lengths are what the walk from length i on makes of those noted so far.
use Rattle.std.proofs.Common.{◌≡◌, ◌≤◌, drop}
use Rattle.fields.specs.Places.{along_from, places_along}
use Rattle.fields.proofs.places_along.Given as goal

-- a place a length
abbrev pub invariant-loop-len : goal.invariant-loop-len
invariant-loop-len l =
    (l.places.count ≤ l.len-index) × (places_along l.lengths ≡ along_from (drop l.len-index l.lengths) l.start l.places)
