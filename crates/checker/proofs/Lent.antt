-- Totals in a lent list: equal where they are equal kind by kind, and one of them with so much more.
use Prim.Native.Nat.{ℕ, zero, suc, ◌+◌, ◌≤◌, ◌<◌, min}
use mathlib.Core.Path.{◌≡◌, refl, sym, ap, ap₂, ◌∙◌}
use mathlib.Core.Logic.{◌≢◌}
use mathlib.Core.List.{List, [], ◌∷◌, ◌++◌}
use native.Mathlib.Omega.{arith}
use native.Mathlib.Nat.{zero-add, add-zero}
use lib.ListN.{replicate, drop, length, get_or, set, length-set, get_or-eq_default}
use lib.Seq.{set_out}
use Rattle.dirf.proofs.tests.Says.{below_or}
use Rattle.kinds.specs.Kinds.{kinds}
use Rattle.checker.specs.Totals.{put_from, totals_in, add_at}

pub from_length : (f : ℕ → ℕ) (k n : ℕ) (t : List ℕ) → length (put_from f k n t) ≡ length t
unfolding put_from
from_length f k zero t = refl
from_length f k (suc n) [] = refl
from_length f k (suc n) (x ∷ t) = ap suc (from_length f (suc k) n t)

pub totals_length : (f : ℕ → ℕ) (t : List ℕ) → length (totals_in f t) ≡ length t
unfolding totals_in
totals_length f t = from_length f 0 kinds t

-- one place more, while there is one; and where there is none, no more change anything
pub put_next : (f : ℕ → ℕ) (k n : ℕ) (t : List ℕ) → n < length t → set (put_from f k n t) n (f (k + n)) ≡ put_from f k (suc n) t
unfolding put_from
put_next f k n [] h = absurd (omega arith)
put_next f k zero (x ∷ t) h = let z : k + 0 ≡ k = omega arith in rw z
put_next f k (suc n) (x ∷ t) h =
    let z : k + suc n ≡ suc k + n = omega arith in rw z (ap (λ ys. f k ∷ ys) (put_next f (suc k) n t (omega arith)))

pub put_all : (f : ℕ → ℕ) (k n m : ℕ) (t : List ℕ) → length t ≤ n → n ≤ m → put_from f k n t ≡ put_from f k m t
unfolding put_from
put_all f k zero zero t h l = refl
put_all f k zero (suc m) [] h l = refl
put_all f k zero (suc m) (x ∷ t) h l = absurd (omega arith)
put_all f k (suc n) zero t h l = absurd (omega arith)
put_all f k (suc n) (suc m) [] h l = refl
put_all f k (suc n) (suc m) (x ∷ t) h l = ap (λ ys. f k ∷ ys) (put_all f (suc k) n m t (omega arith) (omega arith))

-- what stands at a place that is lent
from_at : (f : ℕ → ℕ) (k n : ℕ) (t : List ℕ) (i : ℕ) → i < n → i < length t → get_or (put_from f k n t) i 0 ≡ f (k + i)
unfolding put_from
from_at f k zero t i h l = absurd (omega arith)
from_at f k (suc n) [] i h l = absurd (omega arith)
from_at f k (suc n) (x ∷ t) zero h l = let z : k ≡ k + 0 = omega arith in ap f z
from_at f k (suc n) (x ∷ t) (suc i) h l =
    let z : suc k + i ≡ k + suc i = omega arith in from_at f (suc k) n t i (omega arith) (omega arith) ∙ ap f z

pub total_at : (f : ℕ → ℕ) (t : List ℕ) (k : ℕ) → k < kinds → k < length t → get_or (totals_in f t) k 0 ≡ f k
unfolding totals_in
total_at f t k h l = from_at f 0 kinds t k h l ∙ ap f (zero-add k)

pub totals_least : (f : ℕ → ℕ) (t : List ℕ) (k : ℕ) → k < kinds → get_or (totals_in f t) k 0 ≤ f k
totals_least f t k h =
    below_or (length t) k (λ l. omega (arith, total_at f t k h l))
    (λ l.
    let past : length (totals_in f t) ≤ k = omega (arith, totals_length f t) in
    omega (arith, get_or-eq_default (totals_in f t) 0 past))

-- at a place that is not lent, and nothing more
pub add_past : (t : List ℕ) (k c : ℕ) → length t ≤ k → add_at t k c ≡ t
unfolding add_at
add_past t k c h = set_out t k _ h

pub add_none : (t : List ℕ) (k : ℕ) → add_at t k 0 ≡ t
unfolding add_at
add_none [] k = refl
add_none (x ∷ t) zero = ap (λ y. y ∷ t) (add-zero x)
add_none (x ∷ t) (suc k) = ap (λ ys. x ∷ ys) (add_none t k)

pub add_length : (t : List ℕ) (k c : ℕ) → length (add_at t k c) ≡ length t
unfolding add_at
add_length t k c = length-set t k _

-- totals put over others
from_over : (f g : ℕ → ℕ) (k n : ℕ) (t : List ℕ) → put_from f k n (put_from g k n t) ≡ put_from f k n t
unfolding put_from
from_over f g k zero t = refl
from_over f g k (suc n) [] = refl
from_over f g k (suc n) (x ∷ t) = ap (λ ys. f k ∷ ys) (from_over f g (suc k) n t)

pub totals_over : (f g : ℕ → ℕ) (t : List ℕ) → totals_in f (totals_in g t) ≡ totals_in f t
unfolding totals_in
totals_over f g t = from_over f g 0 kinds t

module _ (f g : ℕ → ℕ) where
  from_same : (k n : ℕ) (t : List ℕ) → ((j : ℕ) → k ≤ j → g j ≡ f j) → put_from f k n t ≡ put_from g k n t
  unfolding put_from
  from_same k zero t same = refl
  from_same k (suc n) [] same = refl
  from_same k (suc n) (x ∷ t) same =
      ap₂ (λ y ys. y ∷ ys) (sym (same k (omega arith))) (from_same (suc k) n t (λ j h. same j (omega arith)))

  pub totals_same : (t : List ℕ) → ((k : ℕ) → g k ≡ f k) → totals_in f t ≡ totals_in g t
  unfolding totals_in
  totals_same t same = from_same 0 kinds t (λ j _. same j)

  -- the number of one kind with c more
  from_more : (k n : ℕ) (t : List ℕ) (i c : ℕ) → i < n → g (k + i) ≡ f (k + i) + c → ((j : ℕ) → j ≢ k + i → g j ≡ f j)
      → add_at (put_from f k n t) i c ≡ put_from g k n t
  unfolding put_from add_at
  from_more k zero t i c h this others = absurd (omega arith)
  from_more k (suc n) [] i c h this others = refl
  from_more k (suc n) (x ∷ t) zero c h this others =
      let z : k + 0 ≡ k = omega arith in
      ap₂ (λ y ys. y ∷ ys) (sym (rw z at this)) (from_same (suc k) n t (λ j l. others j (λ q. omega arith)))
  from_more k (suc n) (x ∷ t) (suc i) c h this others =
      let z : k + suc i ≡ suc k + i = omega arith in
      ap₂ (λ y ys. y ∷ ys) (sym (others k (λ q. omega arith)))
      (from_more (suc k) n t i c (omega arith) (rw z at this) (rw z at others))

  pub totals_more : (t : List ℕ) (k c : ℕ) → k < kinds → g k ≡ f k + c → ((j : ℕ) → j ≢ k → g j ≡ f j)
      → add_at (totals_in f t) k c ≡ totals_in g t
  unfolding totals_in
  totals_more t k c h this others =
      let z : k ≡ 0 + k = sym (zero-add k) in
      from_more 0 kinds t k c h (rw z at this) (rw z at others)

-- where every number is 0
pub zeros : (k n : ℕ) (t : List ℕ) → replicate (min (length t) n) 0 ++ drop (min (length t) n) t ≡ put_from (λ j. 0) k n t
unfolding put_from
zeros k zero t = let z : min (length t) 0 ≡ 0 = omega arith in rw z
zeros k (suc n) [] = let z : min 0 (suc n) ≡ 0 = omega arith in rw z
zeros k (suc n) (x ∷ t) =
    let z : min (suc (length t)) (suc n) ≡ suc (min (length t) n) = omega arith in
    rw z (ap (λ ys. 0 ∷ ys) (zeros (suc k) n t))
