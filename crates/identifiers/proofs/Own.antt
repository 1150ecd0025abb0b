-- The kind that an identifier names has that identifier.
use Prim.Native.Nat.{ℕ}
use mathlib.Core.Path.{◌≡◌, refl, ◌∙◌}
use mathlib.Core.Bool.{true, false, true≢false}
use mathlib.Core.List.{List, [], ◌∷◌}
use lib.Dec.{eqb}
use Rattle.dirf.specs.Bytes.{Text, every, same, lookup, bytes_opens}
use Rattle.dirf.specs.Edition.{kind_in, kind_of, name_of, edition2025, edition2022}
use Rattle.dirf.specs.Editions.{EditionName, of2025, of2022, edition_named}
use Rattle.dirf.proofs.tests.Bools.{and_left, and_right, by_answer}
use Rattle.dirf.proofs.tests.Says.{same_says}

own_in : (all ns : List (ℕ × Text)) → every (λ n. same (lookup [] all n.0) n.1) ns ≡ true → (s : Text)
    → eqb (kind_in ns s) 0 ≡ false → lookup [] all (kind_in ns s) ≡ s
unfolding kind_in every
own_in all [] own s known = absurd (true≢false known)
own_in all (n ∷ ns) own s known =
    let first = same (lookup [] all n.0) n.1 in
    by_answer (same n.1 s)
    (λ q. rw q ((same_says (lookup [] all n.0) n.1).0 (and_left first _ own) ∙ (same_says n.1 s).0 q))
    (λ q. rw q (own_in all ns (and_right first _ own) s (rw q at known)))

pub own_name : (n : EditionName) (s : Text) → eqb (kind_of (edition_named n) s) 0 ≡ false
    → name_of (edition_named n) (kind_of (edition_named n) s) ≡ s
unfolding bytes_opens kind_of name_of edition2025 edition2022 edition_named
own_name of2025 = own_in edition2025.names edition2025.names refl
own_name of2022 = own_in edition2022.names edition2022.names refl
