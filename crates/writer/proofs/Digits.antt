-- The digits of a number, one by one from the last, and what a writer of numbers answers.
use Rattle.std.specs.Prelude.{if◌then◌else◌}
use Prim.Native.Nat.{ℕ, zero, suc, ◌+◌, ◌-◌, ◌/◌, ◌%◌, ◌^◌, ◌≤◌, ◌<◌}
use mathlib.Core.Path.{◌≡◌, sym, ap, ◌∙◌}
use mathlib.Core.List.{[], ◌∷◌, ◌++◌, append_assoc}
use native.Mathlib.Nat.{pow-le-pow_right, zero-lt-suc, one-le-pow}
use native.Mathlib.Omega.{arith}
use lib.Dec.{eqb}
use lib.ListN.{length, drop, set, length-append, length-set}
use lib.Seq.{drop-cons, drop-set-lt, get_or-set_same}
use borrow.Author.Tests.{lt-ltb, le-ltb, ne_eqb}
use Rattle.dirf.specs.Bytes.{Text}
use Rattle.dirf.specs.Limits.{largest}
use Rattle.dirf.specs.Numbers.{decimal}
use Rattle.dirf.specs.Rules.{rules_opens}
use Rattle.dirf.specs.Written.{writes}
use Rattle.dirf.specs.Amounts.{write_number, amounts_opens}
use Rattle.dirf.proofs.tests.Bools.{if_cases}
use Rattle.dirf.proofs.back.NumbersBack.{nothing_written}

-- however many digits are allowed, where the number has no more
enough : (m n v : ℕ) → v < 10 ^ m → v < 10 ^ n → decimal m v ≡ decimal n v
unfolding decimal
enough zero n v h k = let e : v ≡ 0 = omega arith in rw e (sym (nothing_written n))
enough (suc m) zero v h k = let e : v ≡ 0 = omega arith in rw e
enough (suc m) (suc n) v h k =
    ap (λ (ds : Text). if eqb v 0 then [] else ds ++ ((48 + v % 10) ∷ [])) (enough m n (v / 10) (omega arith) (omega arith))

-- the last digit of a number, behind those of its tenth
last_digit : (n v : ℕ) → 0 < v → v < 10 ^ suc n → decimal (suc n) v ≡ decimal (suc n) (v / 10) ++ ((48 + v % 10) ∷ [])
unfolding decimal
last_digit n v h k =
    let e : decimal (suc n) v ≡ decimal n (v / 10) ++ ((48 + v % 10) ∷ []) = rw (ne_eqb v 0 (omega arith)) in
    e ∙ ap (λ (ds : Text). ds ++ ((48 + v % 10) ∷ [])) (enough n (suc n) (v / 10) (omega arith) (omega arith))

pub count_on : (v : ℕ) → 0 < v → v < 10 ^ 20 → length (decimal 20 v) ≡ suc (length (decimal 20 (v / 10)))
count_on v h k = rw (last_digit 19 v h k, length-append) (omega arith)

pub count_most : (n v : ℕ) → length (decimal n v) ≤ n
unfolding decimal
count_most zero v = omega arith
count_most (suc n) v =
    if_cases (λ (ds : Text). length ds ≤ suc n) (eqb v 0) (λ _. omega arith)
    (λ _. rw length-append (omega (arith, count_most n (v / 10))))

drop_set : (l : Text) (j d : ℕ) → j < length l → drop j (set l j d) ≡ d ∷ drop (suc j) l
drop_set l j d h =
    drop-cons (set l j d) j 0 (simp length-set h) ∙ (λ i. get_or-set_same l j d 0 h i ∷ drop-set-lt (suc j) l j d (omega arith) i)

-- one digit more is written, in front of those behind it
pub digit_put : (x i : ℕ) (out : Text) → 0 < x → x < 10 ^ 20 → i ≡ length (decimal 20 x) → i ≤ length out
    → decimal 20 (x / 10) ++ drop (i - 1) (set out (i - 1) (48 + x % 10)) ≡ decimal 20 x ++ drop i out
digit_put x zero out h k e l = absurd (omega (arith, count_on x h k))
digit_put x (suc j) out h k e l =
    let b : suc j - 1 ≡ j = omega arith in
    rw (b, last_digit 19 x h k, drop_set out j (48 + x % 10) (omega arith), append_assoc)

module _ (size v room : ℕ) where
  -- the digits of a number within a limit
  pub within : v ≤ largest size → size ≤ 20 → decimal size v ≡ decimal 20 v
  within h k =
      let p : 10 ^ size ≤ 10 ^ 20 = pow-le-pow_right (zero-lt-suc 9) k in
      let q : v < 10 ^ size = omega (arith, one-le-pow size 10 (omega arith)) in
      enough size 20 v q (omega arith)

  pub over_limit : largest size < v → write_number size v room ≡ record { number = 15; field = 0; bytes = [] }
  unfolding amounts_opens rules_opens writes
  over_limit h = rw (lt-ltb (largest size) v h)

  module _ (h : v ≤ largest size) where
    pub no_room_lem : room < length (decimal size v) → write_number size v room ≡ record { number = 24; field = 0; bytes = [] }
    unfolding amounts_opens rules_opens writes
    no_room_lem k = rw (le-ltb (largest size) v h, lt-ltb room (length (decimal size v)) k)

    pub fits : length (decimal size v) ≤ room → write_number size v room ≡ record { number = 0; field = 0; bytes = decimal size v }
    unfolding amounts_opens rules_opens writes
    fits k = rw (le-ltb (largest size) v h, le-ltb room (length (decimal size v)) k)
