-- The arms of a `match` on a number: what an arm is told of the others.
use Prim.Native.Nat.{ℕ}
use mathlib.Core.Path.{◌≡◌, refl}
use mathlib.Core.Bool.{false}
use mathlib.Core.Logic.{inl, inr}
use mathlib.Core.List.{List, [], ◌∷◌}
use types.Run.{OneOf}
use borrow.Author.Tests.{ne_eqb}
use Rattle.dirf.specs.Bytes.{some, is_in}

-- an arm is told that the number is in none of the others, in this shape: the last arm of single numbers first
abbrev pub NoneOf : List (List ℕ) → ℕ → Type 0
NoneOf [] x = Unit {0}
NoneOf (ks ∷ kss) x = NoneOf kss x × (OneOf ks x → ⊥)

pub not_in : (ks : List ℕ) (x : ℕ) → (OneOf ks x → ⊥) → is_in x ks ≡ false
unfolding is_in some
not_in [] x n = refl
not_in (k ∷ []) x n = rw (ne_eqb x k n)
not_in (k ∷ k' ∷ ks) x n = rw (ne_eqb x k (λ e. n (inl e))) (not_in (k' ∷ ks) x (λ o. n (inr o)))

pub none_in : (kss : List (List ℕ)) (x : ℕ) → NoneOf kss x → some (is_in x) kss ≡ false
unfolding some
none_in [] x n = refl
none_in (ks ∷ kss) x n = rw (not_in ks x n.1) (none_in kss x n.0)
