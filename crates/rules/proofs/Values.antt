-- The value of digits: a digit at a time, how large it is, and that a day of any size may be capped.
use Rattle.std.specs.Prelude.{if◌then◌else◌}
use Prim.Native.Nat.{ℕ, zero, suc, ◌+◌, ◌-◌, ◌*◌, ◌^◌, ◌≤◌, ◌<◌, min}
use mathlib.Core.Path.{◌≡◌, refl}
use mathlib.Core.Bool.{Bool, true, ◌&&◌}
use mathlib.Core.List.{List, [], ◌∷◌}
use native.Mathlib.Nat.{lt_of_lt_of_le, pow-le-pow_right, min-eq_left, min-eq_right}
use native.Mathlib.Omega.{arith}
use lib.Dec.{eqb, leb}
use lib.ListN.{length, drop, drop_of_length-le}
use Rattle.std.proofs.lemmas.Bool.Decides.{nat_tests}
use borrow.Author.Tests.{leb-true, le-leb, lt-leb}
use Rattle.dirf.specs.Bytes.{Text, every, is_in, is_digit, bytes_opens}
use Rattle.dirf.specs.Numbers.{value_after, value_of, is_leap, days_in, is_day}
use Rattle.dirf.proofs.tests.Bools.{and_left, and_right, by_answer}
use Rattle.dirf.proofs.tests.Lists.{every_at}
use Rattle.dirf.proofs.tests.Says.{below_or, digit_says}

pub value_end : (s : Text) (i n : ℕ) → length s ≤ i → value_after n (drop i s) ≡ n
unfolding value_after
value_end s i n h = rw (drop_of_length-le s h)

pub value_least : (n : ℕ) (s : Text) → n ≤ value_after n s
unfolding value_after
value_least n [] = omega arith
value_least n (b ∷ s) = omega (arith, value_least (n * 10 + (b - 48)) s)

small_after : (k n : ℕ) (s : Text) → n < 10 ^ k → k + length s ≤ 18 → every is_digit s ≡ true → value_after n s < 10 ^ 18
unfolding every value_after
small_after k n [] h l e = lt_of_lt_of_le h (pow-le-pow_right {n = 10} (omega arith) {i = k} {j = 18} (omega arith))
small_after k n (b ∷ s) h l e =
    let d = (digit_says b).0 (and_left (is_digit b) (every is_digit s) e) in
    small_after (suc k) (n * 10 + (b - 48)) s (omega arith) (omega arith) (and_right (is_digit b) (every is_digit s) e)

-- eighteen digits are below the cap
pub uncapped : (s : Text) → every is_digit s ≡ true → length s ≤ 18 → min (10 ^ 18) (value_of s) ≡ value_of s
unfolding value_of
uncapped s e l = let h = small_after 0 0 s (omega arith) (omega arith) e in min-eq_right (omega arith)

-- the days of each month, of a leap year or not
abbrev lengths : Bool → List ℕ
lengths leap = 0 ∷ 31 ∷ (if leap then 29 else 28) ∷ 31 ∷ 30 ∷ 31 ∷ 30 ∷ 31 ∷ 31 ∷ 30 ∷ 31 ∷ 30 ∷ 31 ∷ []

-- month by month
pub days_lem : (y m : ℕ)
    → days_in y m
    ≡ (if eqb m 2 then (if is_leap y then 29 else 28)
    else (if is_in m (4 ∷ 6 ∷ 9 ∷ 11 ∷ []) then 30 else (if leb 1 m && leb m 12 then 31 else 0)))
unfolding days_in bytes_opens
days_lem y zero = refl
days_lem y (suc zero) = refl
days_lem y (suc (suc zero)) = refl
days_lem y (suc (suc (suc zero))) = refl
days_lem y (suc (suc (suc (suc zero)))) = refl
days_lem y (suc (suc (suc (suc (suc zero))))) = refl
days_lem y (suc (suc (suc (suc (suc (suc zero)))))) = refl
days_lem y (suc (suc (suc (suc (suc (suc (suc zero))))))) = refl
days_lem y (suc (suc (suc (suc (suc (suc (suc (suc zero)))))))) = refl
days_lem y (suc (suc (suc (suc (suc (suc (suc (suc (suc zero))))))))) = refl
days_lem y (suc (suc (suc (suc (suc (suc (suc (suc (suc (suc zero)))))))))) = refl
days_lem y (suc (suc (suc (suc (suc (suc (suc (suc (suc (suc (suc zero))))))))))) = refl
days_lem y (suc (suc (suc (suc (suc (suc (suc (suc (suc (suc (suc (suc zero)))))))))))) = refl
days_lem y (suc (suc (suc (suc (suc (suc (suc (suc (suc (suc (suc (suc (suc m))))))))))))) = grind (arith, nat_tests)

pub ruleset days = (days_lem, nat_tests)

days_most : (y m : ℕ) → days_in y m ≤ 31
unfolding every days_in
days_most y m =
    let all : every (λ d. leb d 31) (lengths (is_leap y)) ≡ true = by_answer (is_leap y) (λ e. rw e) (λ e. rw e) in
    leb-true (days_in y m) 31 (every_at (λ d. leb d 31) (lengths (is_leap y)) m 0 refl all)

-- no month has as many days as the cap
pub day_capped : (y m d : ℕ) → is_day y m (min (10 ^ 18) d) ≡ is_day y m d
unfolding is_day
day_capped y m d =
    below_or (10 ^ 18) d (λ h. rw (min-eq_right {n = d} {m = 10 ^ 18} (omega arith)))
    (λ h.
    let most = days_most y m in
    rw (min-eq_left h, le-leb 1 d (omega arith), lt-leb (10 ^ 18) (days_in y m) (omega arith), lt-leb d (days_in y m) (omega arith)))
