-- What a caller needs of the places of a line's fields: how many there are, and what stands at each.
use Rattle.std.specs.Prelude.{if◌then◌else◌}
use Prim.Native.Nat.{ℕ, zero, suc, ◌+◌, ◌-◌, ◌≤◌, ◌<◌, min}
use mathlib.Core.Path.{◌≡◌, refl, sym, ap, ◌∙◌}
use mathlib.Core.List.{List, [], ◌∷◌, ◌++◌, map, append_assoc, append-nil}
use native.Mathlib.Nat.{add-zero, zero-add}
use native.Mathlib.Numerals.{sub-one}
use native.Mathlib.Omega.{arith}
use lib.Dec.{eqb}
use lib.ListN.{length, get_or, get_or-eq_default, drop, length-drop, length-set}
use lib.Seq.{drop-drop, get_or-set_same, get_or-set_other}
use Rattle.dirf.specs.Bytes.{Text}
use Rattle.dirf.specs.Limits.{bar}
use Rattle.dirf.specs.Lines.{more, fields, field}
use Rattle.dirf.specs.Keys.{fewer_digits_first, key_of}
use Rattle.dirf.proofs.tests.Bools.{if_cases, by_answer}
use Rattle.fields.specs.declared.Place.{Place}
use Rattle.fields.specs.declared.Places.{Places}
use Rattle.fields.specs.Places.{part_of, most_fields, no_place, no_places, add_place, places_from, places_of, cell_at, cells_from, cells_at}
use Rattle.fields.specs.Places.{key_parts}
use Rattle.fields.specs.Places.{bar_in}
use Rattle.fields.proofs.Bars.{cut, uncut}
use Rattle.fields.proofs.Keys.{by_kind}

length_more : (b : ℕ) (cs : List Text) → length (more b cs) ≡ length cs
unfolding more
length_more b [] = refl
length_more b (c ∷ cs) = refl

count_from : (s : Text) (start at : ℕ) (p : Places) → (places_from s start at p).count ≡ p.count + length (fields s)
unfolding places_from add_place fields
count_from [] start at p = omega arith
count_from (b ∷ s) start at p =
    if_cases (λ (q : Places). q.count ≡ p.count + length (fields (b ∷ s))) (eqb b bar)
    (λ e. rw (e, fields) (omega (arith, count_from s (at + 1) (at + 1) (add_place p start (at - start)))))
    (λ e. rw (e, fields, length_more) (count_from s start (at + 1) p))

pub places_count : (line : Text) → (places_of line).count ≡ length (fields line)
unfolding places_of no_places
places_count line = count_from line 0 0 no_places ∙ zero-add (length (fields line))

module _ (s : Text) (p : Places) where
  length_from : (i n : ℕ) → length (cells_from s p i n) ≡ n
  unfolding cells_from
  length_from i zero = refl
  length_from i (suc n) = ap suc (length_from (suc i) n)

  pub cells_length : length (cells_at s p) ≡ min most_fields p.count
  unfolding cells_at
  cells_length = length_from 0 (min most_fields p.count)

  from_at : (i n j : ℕ) (d : Text) → j < n → get_or (cells_from s p i n) j d ≡ cell_at s p (i + j)
  unfolding cells_from
  from_at i zero j d h = absurd (omega arith)
  from_at i (suc n) zero d h = rw add-zero
  from_at i (suc n) (suc j) d h = from_at (suc i) n j d (omega arith) ∙ ap (cell_at s p) (omega arith)

  pub cell_at_lem : (i : ℕ) (d : Text) → i < min most_fields p.count → get_or (cells_at s p) i d ≡ cell_at s p i
  unfolding cells_at
  cell_at_lem i d h = from_at 0 (min most_fields p.count) i d h ∙ ap (cell_at s p) (zero-add i)

  -- field k is what stands at its place, and there is none past the last
  pub field_at : (k : ℕ) → (1 ≤ k) × (k ≤ min most_fields p.count) → cell_at s p (k - 1) ≡ field k (cells_at s p)
  unfolding field
  field_at zero h = absurd (omega arith)
  field_at (suc i) h = rw sub-one (sym (cell_at_lem i [] (omega arith)))

  pub no_field : (k : ℕ) → (1 ≤ k → min most_fields p.count < k) → [] ≡ field k (cells_at s p)
  unfolding field
  no_field zero h = refl
  no_field (suc i) h = sym (get_or-eq_default (cells_at s p) [] (omega (arith, cells_length, h (omega arith))))

  -- one cell more at the end
  from_more : (i n : ℕ) → cells_from s p i (suc n) ≡ cells_from s p i n ++ (cell_at s p (i + n) ∷ [])
  unfolding cells_from
  from_more i zero = rw add-zero
  from_more i (suc n) = let m : suc i + n ≡ i + suc n = omega arith in rw (from_more (suc i) n, m)

-- the list of places has fifteen entries
abbrev pub Fifteen : Places → Type 0
Fifteen p = length p.first ≡ most_fields

abbrev place : ℕ → ℕ → Place
place start len = record { start = start; len = len }

-- a place added leaves the cells before it as they are, and is the last
module _ (line : Text) (p : Places) (a b : ℕ) where
  from_kept : (i n : ℕ) → i + n ≤ p.count → cells_from line (add_place p a b) i n ≡ cells_from line p i n
  unfolding cells_from cell_at add_place
  from_kept i zero h = refl
  from_kept i (suc n) h =
      let o : i ≡ p.count → ⊥ = omega arith in
      let l = from_kept (suc i) n (omega arith) in
      rw (get_or-set_other p.first p.count i (place a b) no_place o, l)

  pub fifteen_more : Fifteen p → Fifteen (add_place p a b)
  unfolding add_place
  fifteen_more f = rw length-set f

  pub cells_more : Fifteen p → p.count < most_fields → cells_at line (add_place p a b) ≡ cells_at line p ++ (part_of line a b ∷ [])
  unfolding cells_at cell_at add_place
  cells_more f h =
      let n : min most_fields (p.count + 1) ≡ suc p.count = omega arith in
      let m : min most_fields p.count ≡ p.count = omega arith in
      rw (
        n,
        m,
        from_more line (add_place p a b) 0 p.count,
        from_kept 0 p.count (omega arith),
        zero-add,
        get_or-set_same p.first p.count (place a b) no_place (omega arith),
      )

-- from byte `at` on, in a field that began at `start`: the cells so far, then those of the fields from `start` on
module _ (line : Text) where
  walk_cells : (s : Text) (start at : ℕ) (p : Places) → drop at line ≡ s → (start ≤ at) × (at ≤ length line)
      → at + bar_in s ≡ start + bar_in (drop start line) → Fifteen p → p.count + length (fields (drop start line)) ≤ most_fields
      → cells_at line (places_from s start at p) ≡ cells_at line p ++ fields (drop start line)
  unfolding places_from bar_in add_place
  walk_cells [] start at p d h q f k =
      let n : length line - at ≡ 0 = sym (length-drop at line) ∙ ap length d in
      rw (uncut line start at (omega arith) (omega arith) (omega arith), append-nil)
  walk_cells (b ∷ s) start at p d h q f k =
      let n : length line - at ≡ suc (length s) = sym (length-drop at line) ∙ ap length d in
      let d' : drop (at + 1) line ≡ s = sym (drop-drop 1 at line) ∙ ap (drop 1) d in
      if_cases (λ r. cells_at line r ≡ cells_at line p ++ fields (drop start line)) (eqb b bar)
      (λ e.
      let q : at ≡ start + bar_in (drop start line) = rw (e, add-zero) at q in
      let c = cut line start at (omega arith) q (omega arith) in
      let k = rw c at k in
      let g = fifteen_more line p start (at - start) f in
      walk_cells s (at + 1) (at + 1) (add_place p start (at - start)) d' (omega arith) (rw d') g (omega arith)
      ∙ rw (cells_more line p start (at - start) f (omega arith), c, append_assoc))
      (λ e. let q = rw e at q in walk_cells s start (at + 1) p d' (omega arith) (omega arith) f k)

pub places_cells : (line : Text) → length (fields line) ≤ most_fields → cells_at line (places_of line) ≡ fields line
unfolding places_of no_places cells_at cells_from
places_cells line h =
    walk_cells line line 0 0 no_places refl (omega arith) refl refl (omega arith)

-- the key of a record is made of its fields 2 and 3
pub key_of_cells : (k : ℕ) (cells : List Text) → key_of k cells ≡ key_parts k (field 2 cells) (field 3 cells)
unfolding key_of key_parts field
key_of_cells k cells =
    let both : List Text = [] ∷ field 2 cells ∷ field 3 cells ∷ [] in
    by_kind
    (λ r fs.
    (if r then fewer_digits_first (field 2 cells) else map (λ f. field f cells) fs)
    ≡ (if r then fewer_digits_first (field 2 cells) else map (λ f. field f both) fs))
    refl (λ r. by_answer r (λ e. rw e) (λ e. rw e)) refl k
