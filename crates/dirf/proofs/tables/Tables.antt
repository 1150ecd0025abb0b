-- What one computed test over a table says of every kind.
use Prim.Native.Nat.{ℕ}
use mathlib.Core.Path.{◌≡◌, ap, ◌∙◌}
use mathlib.Core.Bool.{Bool, true}
use mathlib.Core.List.{List, [], ◌∷◌}
use lib.Dec.{eqb}
use borrow.Author.Tests.{eqb-true}
use Rattle.dirf.specs.Bytes.{Text, every, is_in, lookup, same}
use Rattle.dirf.specs.Edition.{rows_in, kind_in}
use Rattle.dirf.proofs.tests.Bools.{and_left, and_right, if_cases}
use Rattle.dirf.proofs.tests.Says.{is_in_says}
use Rattle.dirf.proofs.tests.Lists.{every_in}

-- what holds of the rows of each group, and of no rows, holds of the rows of every kind
pub in_group : {A : Type 0} (test : List A → Bool) → test [] ≡ true → (gs : List (List ℕ × List A)) → every (λ g. test g.1) gs ≡ true
    → (k : ℕ) → test (rows_in gs k) ≡ true
unfolding every rows_in
in_group test none [] all k = none
in_group test none (g ∷ gs) all k =
    if_cases (λ rs. test rs ≡ true) (is_in k g.0) (λ _. and_left (test g.1) _ all)
    (λ _. in_group test none gs (and_right (test g.1) _ all) k)

-- what holds of each kind with the rows of its group, and of every number with no rows, holds of every number
pub in_rows : {A : Type 0} (test : ℕ → List A → Bool) → ((k : ℕ) → test k [] ≡ true) → (gs : List (List ℕ × List A))
    → every (λ g. every (λ k. test k g.1) g.0) gs ≡ true → (k : ℕ) → test k (rows_in gs k) ≡ true
unfolding every rows_in
in_rows test none [] all k = none k
in_rows test none (g ∷ gs) all k =
    if_cases (λ rs. test k rs ≡ true) (is_in k g.0)
    (λ q. every_in (λ k. test k g.1) ((is_in_says k g.0).0 q) (and_left (every (λ k. test k g.1) g.0) _ all))
    (λ _. in_rows test none gs (and_right (every (λ k. test k g.1) g.0) _ all) k)

-- what holds of every row of a table, and of no row, holds of what is looked up
pub in_table : {A : Type 0} (test : ℕ → A → Bool) (none : A) → ((h : ℕ) → test h none ≡ true) → (t : List (ℕ × A))
    → every (λ r. test r.0 r.1) t ≡ true → (h : ℕ) → test h (lookup none t h) ≡ true
unfolding lookup every
in_table test none past [] e h = past h
in_table test none past (r ∷ t) e h =
    if_cases (λ x. test h x ≡ true) (eqb h r.0)
    (λ q. ap (λ x. test x r.1) (eqb-true h r.0 q) ∙ and_left (test r.0 r.1) _ e)
    (λ _. in_table test none past t (and_right (test r.0 r.1) _ e) h)

-- what holds of the number of every kind that is named, and of 0, holds of the kind that a text names
pub in_names : (test : ℕ → Bool) → test 0 ≡ true → (ns : List (ℕ × Text)) → every (λ n. test n.0) ns ≡ true → (s : Text)
    → test (kind_in ns s) ≡ true
unfolding kind_in every
in_names test none [] all s = none
in_names test none (n ∷ ns) all s =
    if_cases (λ k. test k ≡ true) (same n.1 s) (λ _. and_left (test n.0) _ all)
    (λ _. in_names test none ns (and_right (test n.0) _ all) s)
