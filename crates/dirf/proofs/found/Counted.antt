-- How many lines pass a test: of a stretch in which none does, or the first alone.
use Prim.Native.Nat.{ℕ, zero, suc, ◌+◌, ◌≤◌, ◌<◌}
use mathlib.Core.Path.{◌≡◌}
use mathlib.Core.Bool.{Bool, true, false}
use native.Mathlib.Omega.{arith}
use Rattle.dirf.specs.Theorems.Found.{how_many}
use Rattle.dirf.proofs.tests.Says.{below_or}

module _ (test : ℕ → Bool) where
  pub none_more : (a b : ℕ) → a ≤ b → ((j : ℕ) → a < j → j ≤ b → test j ≡ false) → how_many test b ≡ how_many test a
  unfolding how_many
  none_more a zero h none = let z : a ≡ 0 = omega arith in rw z
  none_more a (suc b) h none =
      below_or (suc b) a
      (λ less. rw (none (suc b) less (omega arith)) (omega (arith, none_more a b (omega arith) (λ j x y. none j x (omega arith)))))
      (λ more. let z : a ≡ suc b = omega arith in rw z)

  pub one_more : (a : ℕ) → test (suc a) ≡ true → how_many test (suc a) ≡ how_many test a + 1
  unfolding how_many
  one_more a passes = rw passes

  pub no_fewer : (a b : ℕ) → a ≤ b → how_many test a ≤ how_many test b
  unfolding how_many
  no_fewer a zero h = let z : a ≡ 0 = omega arith in rw z (omega arith)
  no_fewer a (suc b) h =
      below_or (suc b) a (λ less. omega (arith, no_fewer a b (omega arith)))
      (λ more. let z : a ≡ suc b = omega arith in rw z (omega arith))
