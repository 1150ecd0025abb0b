-- The places of the line are what the walk from byte i on makes of those noted so far.
use Rattle.std.proofs.Common.{◌≡◌, ◌+◌, ◌≤◌, length, drop}
use Rattle.dirf.specs.Lines.{clean}
use Rattle.fields.specs.Places.{places_from, places_of}
use Rattle.fields.proofs.scan.Given as goal

-- no more fields than bytes, so that their number fits
abbrev pub invariant-loop-i : goal.invariant-loop-i
invariant-loop-i l =
    ((l.start ≤ l.i) × (l.places.count ≤ l.i))
    × ((length (clean l.s) ≡ l.i + length (clean (drop l.i l.s)))
    × (places_of (clean l.s) ≡ places_from (clean (drop l.i l.s)) l.start l.i l.places))
