-- What stands deeper than the declarant has a parent.
use Prim.Native.Nat.{ℕ, ◌≤◌, ◌<◌}
use mathlib.Core.Path.{◌≡◌, refl, ap}
use mathlib.Core.Bool.{true}
use mathlib.Core.Logic.{⊎_elim}
use mathlib.Core.List.{List, []}
use native.Mathlib.Omega.{arith}
use lib.Dec.{eqb, ltb}
use lib.ListN.{length, get_or}
use borrow.Author.Tests.{eqb-true, ltb-true, ltb-false}
use Rattle.dirf.specs.Bytes.{every, is_in, bytes_opens}
use Rattle.dirf.specs.Kinds.{FIMDirf, kinds_opens}
use Rattle.dirf.specs.Edition.{Edition}
use Rattle.dirf.specs.Tree.{Rec, opening, place, in_order, is_placed, may_stand}
use Rattle.dirf.specs.Theorems.Belongs.{level}
use Rattle.dirf.proofs.tests.Bools.{and_left, and_right, or_cases, if_cases}
use Rattle.dirf.proofs.tests.Says.{is_in_says}
use Rattle.dirf.proofs.tests.Lists.{every_at}
use Rattle.dirf.proofs.tree.Levels.{level_in}

pub opening_level : (k n : ℕ) → is_in k (get_or opening n []) ≡ true → level k ≡ 0
unfolding bytes_opens kinds_opens opening level
opening_level k n i =
    level_in 0 (every_at (every (λ k. eqb (level k) 0)) opening n [] refl refl) ((is_in_says k (get_or opening n [])).0 i)

FIMDirf-level : level FIMDirf ≡ 0
unfolding bytes_opens kinds_opens level
FIMDirf-level = refl

-- what stands deeper than the declarant stands after line 3, below an open record
pub has_parent : (e : Edition) (before : List Rec) (k : ℕ) → 0 < level k → may_stand e before k ≡ true
    → (3 ≤ length before) × (0 < length (place e before k).up) × (in_order (place e before k).last k ≡ true)
unfolding opening is_placed may_stand
has_parent e before k deep =
    if_cases (λ t. t ≡ true → (3 ≤ length before) × (0 < length (place e before k).up) × (in_order (place e before k).last k ≡ true))
    (ltb (length before) 3)
    (λ _ i. absurd (omega (arith, opening_level k (length before) i)))
    (λ after i.
    ⊎_elim (λ f. absurd (omega (arith, ap level (eqb-true k FIMDirf f), FIMDirf-level)))
    (λ p. (
      ltb-false (length before) 3 after,
      ltb-true 0 (length (place e before k).up) (and_left _ (in_order (place e before k).last k) p),
      and_right (ltb 0 (length (place e before k).up)) _ p,
    ))
    (or_cases (eqb k FIMDirf) (is_placed (place e before k) k) i))
