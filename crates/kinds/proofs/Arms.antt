-- An arm of a range in a `match` on a number: what it is told of the number, and one computed test over the numbers that may reach
-- it, give its answer.
use Rattle.std.specs.Prelude.{if◌then◌else◌}
use Prim.Native.Nat.{ℕ, ◌-◌, ◌≤◌, ◌<◌}
use mathlib.Core.Path.{◌≡◌, sym}
use mathlib.Core.Bool.{false}
use mathlib.Core.List.{List}
use native.Mathlib.Omega.{arith}
use lib.ListN.{replicate}
use Rattle.dirf.specs.Bytes.{some, is_in}
use Rattle.dirf.proofs.tests.Says.{below_or}
use Rattle.fields.proofs.Arms.{NoneOf, none_in}
use Rattle.kinds.specs.Kinds.{tab}
use Rattle.kinds.proofs.Tab.{tab_all}

-- f at the numbers that may reach the arm, and v at the others
unfoldable pub seen : {A : Type 0} → (ℕ → A) → A → List (List ℕ) → ℕ → A
seen f v kss x = if some (is_in x) kss then v else f x

module _ {A : Type 0} (f : ℕ → A) (v : A) (kss : List (List ℕ)) (lo hi : ℕ)
    (all : tab (seen f v kss) lo (hi - lo) ≡ replicate (hi - lo) v) where
  -- a number from `lo` to before `hi`
  pub within : {x : ℕ} → lo ≤ x → x < hi → some (is_in x) kss ≡ false → v ≡ f x
  unfolding seen
  within {x} h k e = sym (rw e at (tab_all (seen f v kss) v lo (hi - lo) all x h (omega arith)))

  pub between : {x : ℕ} → (lo ≤ x) × ((x < hi) × NoneOf kss x) → v ≡ f x
  between {x} (h, (k, n)) = within h k (none_in kss x n)

  -- a number from `lo` on, where all from `hi` on are alike
  pub from : ((x : ℕ) → hi ≤ x → v ≡ f x) → {x : ℕ} → (lo ≤ x) × NoneOf kss x → v ≡ f x
  from past {x} (h, n) = below_or hi x (λ l. between (h, (l, n))) (past x)
