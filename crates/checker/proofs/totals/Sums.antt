-- The sum of amounts, byte by byte: what is read so far, the digits of the one that is being read, and those that are left.
use Prim.Native.Nat.{ℕ, zero, suc, ◌+◌, ◌-◌, ◌*◌, ◌≤◌, ◌<◌}
use mathlib.Core.Path.{◌≡◌, refl, sym, ap, ◌∙◌, subst}
use mathlib.Core.Logic.{◌≢◌}
use mathlib.Core.Bool.{true, ◌&&◌}
use mathlib.Core.List.{List, [], ◌∷◌, map}
use native.Mathlib.Omega.{arith}
use native.Mathlib.Nat.{zero-add, add-zero}
use lib.ListN.{length, get_or, take, drop, length-drop}
use borrow.Author.Tests.{ne_eqb}
use Rattle.dirf.specs.Bytes.{Text, every, is_digit}
use Rattle.dirf.specs.Limits.{bar}
use Rattle.dirf.specs.Lines.{more, fields}
use Rattle.dirf.specs.Numbers.{value_after, value_of}
use Rattle.dirf.specs.LineWriter.{sum}
use Rattle.dirf.proofs.tests.Bools.{and_left, and_right}
use Rattle.dirf.proofs.tests.Says.{digit_says}
use Rattle.dirf.proofs.tests.Lists.{drop_on}
use Rattle.rules.proofs.Values.{value_least}
use Rattle.checker.specs.Totals.{sum_of, Summable}

-- n amounts, the first of which goes on behind digits that wrote `one`
unfoldable pub sum_after : ℕ → ℕ → List Text → ℕ
sum_after one zero cs = 0
sum_after one (suc n) [] = 0
sum_after one (suc n) (c ∷ cs) = value_after one c + sum (map value_of (take n cs))

sum_start : (n : ℕ) (cs : List Text) → sum (map value_of (take n cs)) ≡ sum_after 0 n cs
unfolding sum_after value_of sum
sum_start zero cs = refl
sum_start (suc n) [] = refl
sum_start (suc n) (c ∷ cs) = refl

-- each of n fields is digits
abbrev Digits : ℕ → List Text → Type 0
Digits n cs = (i : ℕ) → i < n → every is_digit (get_or cs i []) ≡ true

-- before a bar, and before a digit
record Bar (one n : ℕ) (s : Text) (cs : List Text) : Type 0 where
  many : n ≤ length (fields s)
  digits : Digits n (fields s)
  is : sum_after one (suc n) cs ≡ one + sum_after 0 n (fields s)

at_bar : (one n : ℕ) (s : Text) → suc n ≤ length (fields (bar ∷ s)) → Digits (suc n) (fields (bar ∷ s)) → Bar one n s (fields (bar ∷ s))
unfolding fields sum_after value_after
at_bar one n s many digits =
    record { many = omega arith; digits = λ i h. digits (suc i) (omega arith); is = ap (λ x. one + x) (sum_start n (fields s)) }

record Digit (one n b : ℕ) (s : Text) (cs : List Text) : Type 0 where
  digit : is_digit b ≡ true
  many : suc n ≤ length (fields s)
  digits : Digits (suc n) (fields s)
  is : sum_after one (suc n) cs ≡ sum_after (one * 10 + (b - 48)) (suc n) (fields s)
  least : one * 10 + (b - 48) ≤ sum_after one (suc n) cs

-- by the fields behind the digit
digit_more : (one n b : ℕ) (s : Text) (cs : List Text) → fields s ≡ cs → suc n ≤ length (more b cs) → Digits (suc n) (more b cs)
    → Digit one n b s (more b cs)
unfolding more sum_after value_after every
digit_more one n b s [] q many digits = absurd (omega arith)
digit_more one n b s (c ∷ cs) q many digits =
    let first : (is_digit b && every is_digit c) ≡ true = digits 0 (omega arith) in
    record {
      digit = and_left (is_digit b) (every is_digit c) first;
      many = rw q many;
      digits = λ i h. rw q (others first i h);
      is = rw q;
      least = omega (arith, value_least (one * 10 + (b - 48)) c);
    }
  where
    others : (is_digit b && every is_digit c) ≡ true → (i : ℕ) → i < suc n → every is_digit (get_or (c ∷ cs) i []) ≡ true
    others first zero h = and_right (is_digit b) (every is_digit c) first
    others first (suc i) h = digits (suc i) h

at_digit : (one n b : ℕ) (s : Text) → b ≢ bar → suc n ≤ length (fields (b ∷ s)) → Digits (suc n) (fields (b ∷ s))
    → Digit one n b s (fields (b ∷ s))
unfolding fields
at_digit one n b s other = rw (ne_eqb b bar other) (digit_more one n b s (fields s) refl)

-- what holds where byte i is next
pub record Run (n : ℕ) (s : Text) (total one left i : ℕ) : Type 0 where
  pub many : left ≤ length (fields (drop i s))
  pub digits : (j : ℕ) → j < left → every is_digit (get_or (fields (drop i s)) j []) ≡ true
  pub is : sum_of n s ≡ total + sum_after one left (fields (drop i s))

pub run_start : (n : ℕ) (s : Text) → Summable n s → Run n s 0 0 n 0
unfolding sum_of
run_start n s h = record { many = h.many; digits = h.digits; is = sum_start n (fields s) ∙ sym (zero-add _) }

module _ {n : ℕ} {s : Text} {total one left i : ℕ} (r : Run n s total one left i) (some : 0 < left) where
  abbrev m : ℕ
  m = left - 1

  more_left : Run n s total one (suc m) i
  more_left = let z : left ≡ suc m = omega arith in subst (λ k. Run n s total one k i) z r

  -- a byte is left
  pub run_inside : i < length s
  unfolding fields
  run_inside = go (drop i s) refl
    where
      go : (t : Text) → drop i s ≡ t → i < length s
      go [] q = omega (arith, rw q at r.many)
      go (b ∷ t) q = omega (arith, length-drop i s, ap length q)

  next_is : drop i s ≡ get_or s i 0 ∷ drop (i + 1) s
  next_is = drop_on s i 0 run_inside

  pub run_bar : get_or s i 0 ≡ bar → (total + one ≤ sum_of n s) × Run n s (total + one) 0 m (i + 1)
  run_bar q =
      let cut : drop i s ≡ bar ∷ drop (i + 1) s = next_is ∙ ap (λ b. b ∷ drop (i + 1) s) q in
      let b = at_bar one m (drop (i + 1) s) (rw cut at more_left.many) (rw cut at more_left.digits) in
      let whole : sum_of n s ≡ total + sum_after one (suc m) (fields (bar ∷ drop (i + 1) s)) = rw cut at more_left.is in
      (omega (arith, whole, b.is), record { many = b.many; digits = b.digits; is = omega (arith, whole, b.is) })

  -- the number so far is not over the sum
  pub run_digit : get_or s i 0 ≢ bar
      → let b = get_or s i 0 in
      (48 ≤ b) × (one * 10 + (b - 48) ≤ sum_of n s) × Run n s total (one * 10 + (b - 48)) left (i + 1)
  run_digit other =
      let b = get_or s i 0 in
      let d = at_digit one m b (drop (i + 1) s) other (rw next_is at more_left.many) (rw next_is at more_left.digits) in
      let whole : sum_of n s ≡ total + sum_after one (suc m) (fields (b ∷ drop (i + 1) s)) = rw next_is at more_left.is in
      let z : suc m ≡ left = omega arith in (
        ((digit_says b).0 d.digit).0,
        omega (arith, whole, d.least),
        subst (λ k. Run n s total (one * 10 + (b - 48)) k (i + 1)) z
            (record { many = d.many; digits = d.digits; is = whole ∙ ap (λ x. total + x) d.is }),
      )

-- nothing is left
pub run_end : {n : ℕ} {s : Text} {total one left i : ℕ} → Run n s total one left i → left ≡ 0 → total ≡ sum_of n s
unfolding sum_after
run_end {s} {total} {one} {i} r z =
    sym (r.is ∙ ap (λ n. total + sum_after one n (fields (drop i s))) z ∙ add-zero total)
