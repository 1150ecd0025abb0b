-- The search, a step at a time: what it comes to from the line behind one that is done.
use Prim.Native.Nat.{ℕ, zero, suc, ◌+◌, ◌≤◌, ◌<◌}
use mathlib.Core.Path.{◌≡◌, refl}
use mathlib.Core.Bool.{true, false, ◌&&◌}
use mathlib.Core.List.{List}
use native.Mathlib.Omega.{arith}
use lib.Dec.{leb}
use lib.ListN.{length}
use borrow.Author.Tests.{lt-ltb, le-ltb, leb-true}
use Rattle.dirf.specs.Bytes.{Text, is_in, less}
use Rattle.dirf.specs.Kinds.{companies, is_beneficiary}
use Rattle.dirf.specs.Search.{entries_in, kind_in, start_in, length_in, last_in, is_within, key_in, no_way, stops_at, stops_by, search_from}
use Rattle.dirf.proofs.tests.Bools.{and_left, and_right}

module _ (file : Text) (t : List ℕ) (key : Text) (end at count : ℕ) where
  abbrev n : ℕ
  n = at + 1

  pub ended : (steps : ℕ) → end ≤ at → search_from file t key end steps n count ≡ stops_at 0 count
  unfolding search_from
  ended zero h = refl
  ended (suc steps) h = rw (lt-ltb end n (omega arith))

  -- where steps are left for all lines up to the end
  module _ (on : at < end) where
    pub refused : (steps : ℕ) → end ≤ at + steps → (is_beneficiary (kind_in t n) && is_within file t n) ≡ false
        → search_from file t key end steps n count ≡ no_way
    unfolding search_from
    refused zero h not = absurd (omega arith)
    refused (suc steps) h not = rw (le-ltb end n (omega arith), not)

    module _ (yes : (is_beneficiary (kind_in t n) && is_within file t n) ≡ true) where
      pub company : (steps : ℕ) → end ≤ at + steps → is_in (kind_in t n) companies ≡ true
          → search_from file t key end steps n count ≡ stops_at 0 (count + 1)
      unfolding search_from
      company zero h is = absurd (omega arith)
      company (suc steps) h is = rw (le-ltb end n (omega arith), yes, is)

      pub stopped : (steps : ℕ) → end ≤ at + steps → is_in (kind_in t n) companies ≡ false → less (key_in file t n) key ≡ false
          → search_from file t key end steps n count ≡ stops_by n (key_in file t n) key (count + 1)
      unfolding search_from
      stopped zero h is not = absurd (omega arith)
      stopped (suc steps) h is not = rw (le-ltb end n (omega arith), yes, is, not)

      ends : is_within file t n ≡ true → leb n (last_in t n) ≡ true
      unfolding is_within
      ends q =
          let inside = leb (start_in t n + length_in t n) (length file) in
          and_right inside (leb n (last_in t n)) (and_left (inside && leb n (last_in t n)) (leb (last_in t n) (entries_in t)) q)

      -- each step goes forward
      pub forward : n ≤ last_in t n
      forward = leb-true n (last_in t n) (ends (and_right (is_beneficiary (kind_in t n)) (is_within file t n) yes))

      pub goes : (steps : ℕ) → is_in (kind_in t n) companies ≡ false → less (key_in file t n) key ≡ true
          → search_from file t key end (suc steps) n count ≡ search_from file t key end steps (last_in t n + 1) (count + 1)
      unfolding search_from
      goes steps is smaller = rw (le-ltb end n (omega arith), yes, is, smaller)

      pub goes_on : (steps : ℕ) → end ≤ at + steps → is_in (kind_in t n) companies ≡ false → less (key_in file t n) key ≡ true
          → (left : ℕ) × (end ≤ last_in t n + left)
          × (search_from file t key end steps n count ≡ search_from file t key end left (last_in t n + 1) (count + 1))
      goes_on zero h is smaller = absurd (omega arith)
      goes_on (suc steps) h is smaller = (steps, omega (arith, forward), goes steps is smaller)
