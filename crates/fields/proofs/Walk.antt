-- The walk over a line's bytes, up to a CR, an LF or the end, that notes the places of its fields.
use Prim.Native.Nat.{ℕ, ◌+◌, ◌-◌, ◌≤◌, ◌<◌}
use mathlib.Core.Path.{◌≡◌}
use mathlib.Core.Bool.{true, false}
use mathlib.Core.List.{[], ◌∷◌}
use lib.ListN.{length, get_or, drop, drop_of_length-le}
use borrow.Author.Tests.{eq-eqb, ne_eqb}
use Rattle.dirf.specs.Bytes.{Text}
use Rattle.dirf.specs.Limits.{bar}
use Rattle.dirf.specs.Lines.{is_line_end, clean}
use Rattle.dirf.proofs.tests.Lists.{drop_on}
use Rattle.fields.specs.declared.Places.{Places}
use Rattle.fields.specs.Places.{add_place, places_from}

module _ (s : Text) (i : ℕ) where
  -- what is left of the line
  pub clean_on : is_line_end (get_or s i 0) ≡ false → i < length s → clean (drop i s) ≡ get_or s i 0 ∷ clean (drop (i + 1) s)
  unfolding clean
  clean_on e h = rw (drop_on s i 0 h, e)

  pub clean_stop : is_line_end (get_or s i 0) ≡ true → i < length s → clean (drop i s) ≡ []
  unfolding clean
  clean_stop e h = rw (drop_on s i 0 h, e)

  pub clean_end : length s ≤ i → clean (drop i s) ≡ []
  unfolding clean
  clean_end h = rw (drop_of_length-le s h)

  -- the places noted so far, and those to come
  module _ (start : ℕ) (p : Places) where
    pub walk_bar : is_line_end (get_or s i 0) ≡ false → get_or s i 0 ≡ bar → i < length s
        → places_from (clean (drop i s)) start i p ≡ places_from (clean (drop (i + 1) s)) (i + 1) (i + 1) (add_place p start (i - start))
    unfolding places_from
    walk_bar n e h = rw (clean_on n h, eq-eqb (get_or s i 0) bar e, places_from)

    pub walk_on : is_line_end (get_or s i 0) ≡ false → (get_or s i 0 ≡ bar → ⊥) → i < length s
        → places_from (clean (drop i s)) start i p ≡ places_from (clean (drop (i + 1) s)) start (i + 1) p
    unfolding places_from
    walk_on n e h = rw (clean_on n h, ne_eqb (get_or s i 0) bar e, places_from)
