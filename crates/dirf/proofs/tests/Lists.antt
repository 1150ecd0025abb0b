-- Membership in lists: what holds of each element, and what the tests `every` and `some` say.
use Prim.Native.Nat.{ℕ, zero, suc, ◌+◌, ◌<◌}
use mathlib.Core.Path.{◌≡◌, refl, sym, ◌∙◌, subst⁻¹}
use mathlib.Core.Bool.{Bool, true, false, ◌&&◌, and_assoc, false≢true}
use mathlib.Core.List.Memᴰ
use mathlib.Core.List.{List, [], ◌∷◌, ◌++◌}
use native.Mathlib.Numerals.{add-one}
use lib.ListN.{length, get_or, drop}
use lib.Seq.{drop-cons}
use Rattle.dirf.specs.Bytes.{every, is_in}
use Rattle.dirf.specs.Theorems.Plain.{◌∈◌}
use Rattle.dirf.proofs.tests.Bools.{and_left, and_right, unless_true}
use Rattle.dirf.proofs.tests.Says.{every_says, is_in_says}

-- `search listed` finds an element in a list that is written out, wherever it stands there
pub ruleset listed = (Memᴰ.head, Memᴰ.tail)

-- something holds of each element of a list that is written out
infixr 5 ◌also◌
pub data Each {A : Type 0} (P : A → Type 0) : List A → Type 0 where
  none : Each P []
  ◌also◌ : {x : A} {xs : List A} → P x → Each P xs → Each P (x ∷ xs)

pub of_each : {A : Type 0} {P : A → Type 0} {xs : List A} → Each P xs → (x : A) → x ∈ xs → P x
of_each none x m = elim m [ ]
of_each {P} (p also ps) x (Memᴰ.head e) = subst⁻¹ P e p
of_each (p also ps) x (Memᴰ.tail m) = of_each ps x m

-- the tests over a list, of one that is in it
module _ {A : Type 0} (test : A → Bool) where
  pub every_in : {x : A} {xs : List A} → x ∈ xs → every test xs ≡ true → test x ≡ true
  every_in {x} {xs} m e = (every_says test (λ y. (λ q. q, λ q. q)) xs).0 e x m

  -- the element at any place, or the one that stands for all others
  pub every_at : (xs : List A) (n : ℕ) (other : A) → test other ≡ true → every test xs ≡ true → test (get_or xs n other) ≡ true
  unfolding every
  every_at [] n other o all = o
  every_at (x ∷ xs) zero other o all = and_left (test x) (every test xs) all
  every_at (x ∷ xs) (suc n) other o all = every_at xs n other o (and_right (test x) (every test xs) all)

-- what is left of a list from one of its elements on
pub drop_on : {A : Type 0} (s : List A) (i : ℕ) (d : A) → i < length s → drop i s ≡ get_or s i d ∷ drop (i + 1) s
drop_on s i d h = rw add-one (drop-cons s i d h)

pub every_append : {A : Type 0} (test : A → Bool) (xs ys : List A) → every test (xs ++ ys) ≡ (every test xs && every test ys)
unfolding every
every_append test [] ys = refl
every_append test (x ∷ xs) ys = rw (every_append test xs ys) (sym (and_assoc (test x) (every test xs) (every test ys)))

-- a number that fails a test which every number of a list passes
pub outside : (test : ℕ → Bool) (ks : List ℕ) → every test ks ≡ true → (x : ℕ) → test x ≡ false → is_in x ks ≡ false
outside test ks all x e = unless_true (is_in x ks) (λ i. false≢true (sym e ∙ every_in test ((is_in_says x ks).0 i) all))
