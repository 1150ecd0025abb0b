-- The places along a list of lengths: one at a time, and what stands there in a text that the lengths add up to.
use Prim.Native.Nat.{ℕ, ◌+◌, ◌≤◌, min}
use mathlib.Core.Path.{◌≡◌, refl, ◌∙◌}
use mathlib.Core.List.{List, [], ◌∷◌, ◌++◌, append_assoc, append-nil}
use native.Mathlib.Omega.{arith}
use lib.ListN.{length, drop}
use lib.Seq.{drop-drop}
use Rattle.dirf.specs.Bytes.{Text}
use Rattle.dirf.specs.LineWriter.{cut, sum}
use Rattle.fields.specs.declared.Places.{Places}
use Rattle.fields.specs.Places.{part_of, most_fields, no_places, add_place, along_from, places_along, cells_from, cells_at}
use Rattle.fields.proofs.PlaceLaws.{Fifteen, fifteen_more, cells_more}

-- from byte `at` on: the cells so far, then the rest of the text cut; no start is capped inside a text
module _ (text : Text) (small : length text ≤ 18446744073709551615) where
  cells_along : (ns : List ℕ) (at : ℕ) (p : Places) → at + sum ns ≡ length text → Fifteen p → p.count + length ns ≤ most_fields
      → cells_at text (along_from ns at p) ≡ cells_at text p ++ cut ns (drop at text)
  unfolding along_from sum cut add_place part_of
  cells_along [] at p e f h = rw append-nil
  cells_along (n ∷ ns) at p e f h =
      let m : min (at + n) 18446744073709551615 ≡ at + n = omega arith in
      rw (m, drop-drop)
      (cells_along ns (at + n) (add_place p at n) (omega arith) (fifteen_more text p at n f) (omega arith)
      ∙ rw (cells_more text p at n f (omega arith), append_assoc))

  pub along_cells : (ns : List ℕ) → sum ns ≡ length text → length ns ≤ most_fields → cells_at text (places_along ns) ≡ cut ns text
  unfolding places_along no_places cells_at cells_from
  along_cells ns e h = cells_along ns 0 no_places (omega arith) refl (omega arith)
