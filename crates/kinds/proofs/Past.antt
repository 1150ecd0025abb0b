-- A number past the kinds is none that a table names: one computed test over the table's own numbers.
use Prim.Native.Nat.{ℕ, ◌≤◌, ◌<◌}
use mathlib.Core.Path.{◌≡◌, refl}
use mathlib.Core.Bool.{Bool, true, false}
use mathlib.Core.List.{List, [], ◌∷◌}
use native.Mathlib.Omega.{arith}
use lib.Dec.{eqb, ltb}
use borrow.Author.Tests.{ltb-true, ne_eqb}
use Rattle.dirf.specs.Bytes.{every, some, is_in, lookup}
use Rattle.dirf.specs.Row.{Row}
use Rattle.dirf.specs.Edition as edition
use Rattle.dirf.proofs.tests.Bools.{and_left, and_right}
use Rattle.dirf.proofs.tests.Says.{below_or}
use Rattle.kinds.specs.Kinds.{kinds}

-- a kind, 0 included, or past the kinds
pub by_kind : {P : Type 0} (k : ℕ) → (k < kinds → P) → (kinds ≤ k → P) → P
by_kind k = below_or kinds k

module _ {A : Type 0} (test : A → Bool) (x : A) (xs : List A) (all : every test (x ∷ xs) ≡ true) where
  pub every_first : test x ≡ true
  unfolding every
  every_first = and_left (test x) (every test xs) all

  pub every_rest : every test xs ≡ true
  unfolding every
  every_rest = and_right (test x) (every test xs) all

module _ (n k : ℕ) (past : n ≤ k) where
  other : (x : ℕ) → ltb x n ≡ true → eqb k x ≡ false
  other x e = let l = ltb-true x n e in ne_eqb k x (λ q. omega arith)

  pub some_past : {A : Type 0} (f : A → ℕ) (xs : List A) → every (λ x. ltb (f x) n) xs ≡ true → some (λ x. eqb k (f x)) xs ≡ false
  unfolding some
  some_past f [] e = refl
  some_past f (x ∷ xs) e =
      rw (other (f x) (every_first (λ x. ltb (f x) n) x xs e))
      (some_past f xs (every_rest (λ x. ltb (f x) n) x xs e))

  pub is_in_past : (xs : List ℕ) → every (λ x. ltb x n) xs ≡ true → is_in k xs ≡ false
  unfolding is_in
  is_in_past xs e = some_past (λ x. x) xs e

  pub lookup_past : {A : Type 0} (d : A) (rs : List (ℕ × A)) → every (λ r. ltb r.0 n) rs ≡ true → lookup d rs k ≡ d
  unfolding lookup
  lookup_past d [] e = refl
  lookup_past d (r ∷ rs) e =
      rw (other r.0 (every_first (λ r. ltb r.0 n) r rs e))
      (lookup_past d rs (every_rest (λ r. ltb r.0 n) r rs e))

  pub rows_past : (gs : List (List ℕ × List Row)) → every (λ g. every (λ x. ltb x n) g.0) gs ≡ true → edition.rows_in gs k ≡ []
  unfolding edition.rows_in
  rows_past [] e = refl
  rows_past (g ∷ gs) e =
      rw (is_in_past g.0 (every_first (λ g. every (λ x. ltb x n) g.0) g gs e))
      (rows_past gs (every_rest (λ g. every (λ x. ltb x n) g.0) g gs e))
