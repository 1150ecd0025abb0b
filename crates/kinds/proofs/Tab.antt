-- A list that a function fills, read at a place.
use Prim.Native.Nat.{ℕ, zero, suc, ◌+◌, ◌-◌, ◌≤◌, ◌<◌}
use mathlib.Core.Path.{◌≡◌, refl, sym, ap, ◌∙◌}
use mathlib.Core.List.{[]}
use native.Mathlib.Nat.{add-zero, zero-add, add-suc, suc-add, le_of_suc-le-suc, not-suc-le-zero}
use native.Mathlib.Omega.{arith}
use lib.ListN.{length, get_or, replicate, get_or-replicate}
use Rattle.kinds.specs.Kinds.{tab}

module _ {ℓ} {A : Type ℓ} (f : ℕ → A) where
  pub tab_from : (d : A) (n i k : ℕ) → k < n → get_or (tab f i n) k d ≡ f (i + k)
  tab_from d zero i k h = absurd (not-suc-le-zero h)
  tab_from d (suc n) i zero h = ap f (sym (add-zero i))
  tab_from d (suc n) i (suc k) h = tab_from d n (suc i) k (le_of_suc-le-suc h) ∙ ap f (suc-add i k ∙ sym (add-suc i k))

  pub tab_at : (d : A) (n k : ℕ) → k < n → get_or (tab f 0 n) k d ≡ f k
  tab_at d n k h = tab_from d n 0 k h ∙ ap f (zero-add k)

  pub tab_length : (n i : ℕ) → length (tab f i n) ≡ n
  tab_length zero i = refl
  tab_length (suc n) i = ap suc (tab_length n (suc i))

  -- f is v at each number from i on, n of them, by one computed test
  pub tab_all : (v : A) (i n : ℕ) → tab f i n ≡ replicate n v → (x : ℕ) → i ≤ x → x < i + n → f x ≡ v
  tab_all v i n all x from below =
      let k : x ≡ i + (x - i) = omega arith in
      let h : x - i < n = omega arith in
      ap f k ∙ sym (tab_from v n i (x - i) h) ∙ ap (λ l. get_or l (x - i) v) all ∙ get_or-replicate n (x - i) v v h

module _ {ℓ} {A : Type ℓ} (f g : ℕ → A) where
  pub tab_same : ((x : ℕ) → f x ≡ g x) → (i n : ℕ) → tab f i n ≡ tab g i n
  tab_same e i zero = refl
  tab_same e i (suc n) = rw (e i, tab_same e (suc i) n)

  -- the same at each of the first n numbers, by one computed test
  pub tab_each : (n : ℕ) → tab f 0 n ≡ tab g 0 n → (k : ℕ) → k < n → f k ≡ g k
  tab_each n all k h = sym (tab_at f (f k) n k h) ∙ ap (λ l. get_or l k (f k)) all ∙ tab_at g (f k) n k h

-- a table of rows, read at a row and a place in it
pub tab2_at {ℓ} : {A : Type ℓ} (f : ℕ → ℕ → A) (d : A) (n m h k : ℕ) → h < n → k < m
    → get_or (get_or (tab (λ h. tab (f h) 0 m) 0 n) h []) k d ≡ f h k
tab2_at f d n m h k a b = ap (λ l. get_or l k d) (tab_at (λ h. tab (f h) 0 m) [] n h a) ∙ tab_at (f h) d m k b
