-- What stands at a place is the field, and where there is no field, nothing.
use Prim.Native.Nat.{ℕ, suc, ◌+◌, ◌-◌, ◌≤◌}
use mathlib.Core.Path.{◌≡◌, sym, ap, ◌∙◌}
use mathlib.Core.List.{[], ◌∷◌}
use native.Mathlib.Omega.{arith}
use lib.Dec.{eqb}
use lib.ListN.{length, get_or, take, drop, replicate, length-replicate, get_or-replicate, get_or-eq_default}
use lib.Seq.{get_or-set_other}
use Rattle.dirf.specs.Bytes.{Text}
use Rattle.dirf.specs.Limits.{bar}
use Rattle.dirf.specs.Lines.{fields, field}
use Rattle.dirf.proofs.tests.Bools.{if_cases}
use Rattle.dirf.proofs.tests.Says.{below_or}
use Rattle.fields.specs.Places.{part_of, most_fields, no_place, no_places, add_place, places_from, places_of, cell_at}
use Rattle.fields.specs.declared.Places.{Places}
use Rattle.fields.proofs.PlaceLaws.{places_count, places_cells, cell_at_lem}

-- past the last place there is nothing
abbrev Ended : Places → Type 0
Ended p = (i : ℕ) → p.count ≤ i → (get_or p.first i no_place).len ≡ 0

one_more : (p : Places) (start len : ℕ) → Ended p → Ended (add_place p start len)
unfolding add_place
one_more p start len w i l =
    ap (λ q. q.len) (get_or-set_other p.first p.count i record { start = start; len = len } no_place (λ e. omega arith))
    ∙ w i (omega arith)

ended_from : (s : Text) (start at : ℕ) (p : Places) → Ended p → Ended (places_from s start at p)
unfolding places_from
ended_from [] start at p w = w
ended_from (b ∷ s) start at p w =
    if_cases Ended (eqb b bar) (λ _. ended_from s (at + 1) (at + 1) (add_place p start (at - start)) (one_more p start (at - start) w))
    (λ _. ended_from s start (at + 1) p w)

nothing : (n i : ℕ) → get_or (replicate n no_place) i no_place ≡ no_place
nothing n i =
    below_or n i (get_or-replicate n i no_place no_place) (λ h. get_or-eq_default (replicate n no_place) no_place (simp length-replicate h))

past : (line : Text) → Ended (places_of line)
unfolding places_of no_places
past line = ended_from line 0 0 no_places (λ i _. ap (λ q. q.len) (nothing most_fields i))

-- field i + 1 of a line, at its place
pub cell_is : (line : Text) (i : ℕ) → length (fields line) ≤ most_fields → cell_at line (places_of line) i ≡ field (suc i) (fields line)
unfolding field cell_at part_of
cell_is line i h =
    let p = places_of line in
    below_or (length (fields line)) i
    (λ l. sym (cell_at_lem line p i [] (omega (arith, places_count line))) ∙ ap (λ cs. get_or cs i []) (places_cells line h))
    (λ l.
    ap (λ n. take n (drop (get_or p.first i no_place).start line)) (past line i (omega (arith, places_count line)))
    ∙ sym (get_or-eq_default (fields line) [] l))
