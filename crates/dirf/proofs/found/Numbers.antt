-- A table of numbers that begins with the entries of a file: each number of an entry is where the search reads it.
use Prim.Native.Nat.{ℕ, zero, suc, ◌+◌, ◌-◌, ◌*◌, ◌≤◌, ◌<◌}
use mathlib.Core.Path.{◌≡◌, refl, sym, ap, ap₂, ◌∙◌}
use mathlib.Core.List.{List, [], ◌∷◌}
use native.Mathlib.Omega.{arith}
use lib.ListN.{length, get_or, take, length-take, get_or-append}
use lib.Seq.{get_or-take, get_or-append-add}
use Rattle.dirf.specs.Limits.{numbers_an_entry}
use Rattle.dirf.specs.Check.{Entry, last_at, entry_numbers, numbers_from, numbers_of}
use Rattle.dirf.specs.Search.{entries_in, number_in, kind_in, start_in, length_in, last_in}
use Rattle.dirf.specs.Theorems.Whose.{no_entry, entry_at, kind_at, IsLine}
use Rattle.dirf.specs.Theorems.Entries.{start_at, length_at}

module _ (f : ℕ → ℕ) where
  pub length_from : (n : ℕ) (es : List Entry) → length (numbers_from f n es) ≡ numbers_an_entry * length es
  unfolding numbers_from entry_numbers
  length_from n [] = refl
  length_from n (x ∷ es) = omega (arith, length_from (suc n) es)

  -- number j of entry i, from 0
  number_from : (n : ℕ) (es : List Entry) (i j : ℕ) → i < length es → j < numbers_an_entry
      → get_or (numbers_from f n es) (numbers_an_entry * i + j) 0 ≡ get_or (entry_numbers (get_or es i no_entry) (f (n + i))) j 0
  unfolding numbers_from entry_numbers
  number_from n [] i j few small = absurd (omega arith)
  number_from n (x ∷ es) zero j few small =
      let at : numbers_an_entry * 0 + j ≡ j = omega arith in
      let same : n ≡ n + 0 = omega arith in
      ap (λ k. get_or (numbers_from f n (x ∷ es)) k 0) at
      ∙ get_or-append (entry_numbers x (f n)) (numbers_from f (suc n) es) 0 j small
      ∙ ap (λ m. get_or (entry_numbers x (f m)) j 0) same
  number_from n (x ∷ es) (suc i) j few small =
      let at : numbers_an_entry * suc i + j ≡ 5 + (numbers_an_entry * i + j) = omega arith in
      let same : suc n + i ≡ n + suc i = omega arith in
      ap (λ k. get_or (numbers_from f n (x ∷ es)) k 0) at
      ∙ get_or-append-add (entry_numbers x (f n)) (numbers_from f (suc n) es) (numbers_an_entry * i + j) 0
      ∙ number_from (suc n) es i j (omega arith) small
      ∙ ap (λ m. get_or (entry_numbers (get_or es i no_entry) (f m)) j 0) same

module _ (t : List Entry) (numbers : List ℕ) (own : take (numbers_an_entry * length t) numbers ≡ numbers_of t) where
  -- all of them are there
  pub entries_few : length t ≤ entries_in numbers
  unfolding entries_in numbers_of
  entries_few = omega (arith, ap length own, length-take (numbers_an_entry * length t) numbers, length_from (last_at t) 1 t)

  module _ (m : ℕ) (l : IsLine t m) where
    number_at_lem : (j : ℕ) → j < numbers_an_entry → number_in numbers m j ≡ get_or (entry_numbers (entry_at t m) (last_at t m)) j 0
    unfolding number_in numbers_of
    number_at_lem j small =
        let i = m - 1 in
        let this : suc i ≡ m = omega (arith, l.0) in
        let one : 1 + i ≡ m = omega (arith, l.0) in
        let few : i < length t = omega (arith, l.0, l.1) in
        sym (get_or-take (numbers_an_entry * length t) numbers (numbers_an_entry * i + j) 0 (omega arith))
        ∙ ap (λ ns. get_or ns (numbers_an_entry * i + j) 0) own
        ∙ number_from (last_at t) 1 t i j few small
        ∙ ap₂ (λ a b. get_or (entry_numbers (entry_at t a) (last_at t b)) j 0) this one

    pub kind_in_lem : kind_in numbers m ≡ kind_at t m
    unfolding entry_numbers
    kind_in_lem = number_at_lem 0 (omega arith)

    pub start_in_lem : start_in numbers m ≡ start_at t m
    unfolding entry_numbers
    start_in_lem = number_at_lem 1 (omega arith)

    pub length_in_lem : length_in numbers m ≡ length_at t m
    unfolding entry_numbers
    length_in_lem = number_at_lem 2 (omega arith)

    pub last_in_lem : last_in numbers m ≡ last_at t m
    unfolding entry_numbers
    last_in_lem = number_at_lem 4 (omega arith)
