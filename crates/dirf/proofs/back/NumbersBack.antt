-- Amounts and month counts, there and back: one law over the size for both.
use Prim.Native.Nat.{ℕ, zero, suc, ◌+◌, ◌-◌, ◌*◌, ◌/◌, ◌%◌, ◌^◌, ◌≤◌, ◌<◌}
use mathlib.Core.Path.{◌≡◌, refl, sym, ap, ◌∙◌}
use mathlib.Core.Bool.{true, false}
use mathlib.Core.Logic.{⊎_elim}
use mathlib.Core.List.{[], ◌∷◌, ◌++◌, append-nil}
use native.Mathlib.Omega.{arith}
use native.Mathlib.Nat.{one-le-pow}
use lib.Dec.{eqb, ltb}
use lib.ListN.{length, length-append}
use lib.Seq.{append_snoc}
use borrow.Author.Tests.{eqb-true, eqb-false, ne_eqb, le-leb, le-ltb, ltb-false, not-false}
use Rattle.dirf.specs.Bytes.{bytes_opens, Text, every, is_digit, begins_with}
use Rattle.dirf.specs.Limits.{amount_size, month_size, largest}
use Rattle.dirf.specs.Row.{Row, row, N, variable, optional, amount}
use Rattle.dirf.specs.Numbers.{value_after, value_of, decimal}
use Rattle.dirf.specs.Fields.{FieldTest, byte_of_the_wrong_kind, wrong_size, zero_in_front, field_order, fields_opens}
use Rattle.dirf.specs.Rules.{rules_opens, Found, keeps, ask_field, first}
use Rattle.dirf.specs.Written.{writes}
use Rattle.dirf.specs.Amounts.{over_the_limit, read_as, read_number, Figure, digits_of, figure_order, write_number, amounts_opens}
use Rattle.dirf.specs.Theorems.Plain.{◌∈◌}
use Rattle.dirf.specs.Theorems.ThereAndBack.{Numbers}
use Rattle.dirf.proofs.tests.Bools.{and_left, and_right, if_cases}
use Rattle.dirf.proofs.tests.Lists.{listed, none, ◌also◌, of_each, every_append}
use Rattle.dirf.proofs.tests.Says.{digit_says}
use Rattle.dirf.proofs.back.KeptFields.{within_size}
use Rattle.dirf.proofs.rules.Asked.{found_cases, rule_kept, field_kept, keeps_field, field_passes, first_passes, nothing_found}

-- a text that may stand for a number of up to so many digits
record Proper (size : ℕ) (s : Text) : Type 0 where
  digits : every is_digit s ≡ true
  short : length s ≤ size
  front : begins_with 48 s ≡ false

-- a text writes a number in up to so many digits: digit after digit, the first of them no zero
data Digits : ℕ → ℕ → Text → Type 0 where
  nothing : {n v : ℕ} → v ≡ 0 → Digits n v []
  one_more : {n v w : ℕ} {s : Text} → Digits n v s → (b : ℕ) → is_digit b ≡ true → w ≡ v * 10 + (b - 48) → 0 < w
      → Digits (suc n) w (s ++ (b ∷ []))

-- written: the digits of a number, and no other text, write it
written : (n v : ℕ) → v < 10 ^ n → Digits n v (decimal n v)
unfolding decimal
written zero v h = nothing {v = v} (omega arith)
written (suc n) v h =
    if_cases (Digits (suc n) v) (eqb v 0) (λ e. nothing (eqb-true v 0 e))
    (λ e.
    let z = eqb-false v 0 e in
    let last = (digit_says (48 + v % 10)).1 (omega arith) in
    one_more {w = v} (written n (v / 10) (omega arith)) (48 + v % 10) last (omega arith) (omega arith))

pub nothing_written : (n : ℕ) → decimal n 0 ≡ []
unfolding decimal
nothing_written zero = refl
nothing_written (suc n) = refl

written_only : {n v : ℕ} {s : Text} → Digits n v s → decimal n v ≡ s
unfolding decimal
written_only {n} (nothing e) = rw e (nothing_written n)
written_only {v = w} (one_more {v = v} ds b h e k) =
    let g = (digit_says b).0 h in
    let q : w / 10 ≡ v = omega arith in
    let r : 48 + w % 10 ≡ b = omega arith in
    rw (ne_eqb w 0 (omega arith), q, r, written_only ds)

-- read: what a text that writes a number is like, and that each such text writes its value
value_append : (high : ℕ) (s t : Text) → value_after high (s ++ t) ≡ value_after (value_after high s) t
unfolding value_after
value_append high [] t = refl
value_append high (b ∷ s) t = value_append (high * 10 + (b - 48)) s t

value_read : {n v : ℕ} {s : Text} → Digits n v s → value_of s ≡ v
unfolding value_of value_after
value_read (nothing e) = sym e
value_read (one_more {s = s} ds b h e k) = rw (value_append 0 s (b ∷ []), value_read ds) (sym e)

small : {n v : ℕ} {s : Text} → Digits n v s → v < 10 ^ n
small {n} (nothing e) = omega (arith, one-le-pow n 10 (omega arith))
small (one_more ds b h e k) = omega (arith, small ds, (digit_says b).0 h)

front_more : (s t : Text) → begins_with 48 s ≡ false → (s ≡ [] → begins_with 48 t ≡ false) → begins_with 48 (s ++ t) ≡ false
unfolding begins_with
front_more [] t h k = k refl
front_more (b ∷ s) t h k = h

proper : {n v : ℕ} {s : Text} → Digits n v s → Proper n s
unfolding every begins_with value_of value_after
proper (nothing e) = record { digits = refl; short = omega arith; front = refl }
proper (one_more {v = v} {s = s} ds b h e k) =
    let p = proper ds in
    record {
      digits = rw (every_append is_digit s (b ∷ []), p.digits, h);
      short = rw length-append (omega arith);
      front = front_more s (b ∷ []) p.front (λ z. ne_eqb b 48 (omega (arith, sym (value_read ds) ∙ ap value_of z)));
    }

read_on : {m v : ℕ} {s : Text} (n : ℕ) (t : Text) → Digits m v s → 0 < v → every is_digit t ≡ true → n ≡ m + length t
    → Digits n (value_after v t) (s ++ t)
unfolding every value_after
read_on {m} {s} n [] ds h k e =
    let p : n ≡ m = omega arith in
    rw (append-nil s, p) ds
read_on {m} {v} {s} n (b ∷ t) ds h k e =
    let d = and_left (is_digit b) (every is_digit t) k in
    let ds' = one_more ds b d refl (omega arith) in
    rw (← append_snoc s b t) (read_on {m = suc m} n t ds' (omega arith) (and_right (is_digit b) (every is_digit t) k) (omega arith))

read : (n : ℕ) (s : Text) → Proper n s → Digits n (value_of s) s
unfolding every begins_with value_of value_after
read n [] p = nothing refl
read n (b ∷ s) p =
    let d = and_left (is_digit b) (every is_digit s) p.digits in
    let h : 0 < 0 * 10 + (b - 48) = omega (arith, (digit_says b).0 d, eqb-false b 48 p.front) in
    let ds = one_more {n = n - suc (length s)} (nothing refl) b d refl h in
    read_on n s ds h (and_right (is_digit b) (every is_digit s) p.digits) (omega (arith, p.short))

-- the row of a number of up to so many digits
abbrev counted : ℕ → Row
counted size = row N variable size optional amount

abbrev asked : ℕ → Text → Found
asked size s = ask_field 0 field_order [] (counted size) s

kept_proper : (size : ℕ) (s : Text) → asked size s ≡ keeps → Proper size s
unfolding fields_opens
kept_proper size s e =
    record {
      digits = not-false (every is_digit s) (kept 14 byte_of_the_wrong_kind (search listed));
      short = within_size [] (counted size) s (kept 15 wrong_size (search listed));
      front = kept 16 zero_in_front (search listed);
    }
  where
    kept : (n : ℕ) (test : FieldTest) → (n, test) ∈ field_order → test [] (counted size) s ≡ false
    kept n test m = field_kept 0 [] (counted size) s n test m e

proper_kept : (size : ℕ) (s : Text) → Proper size s → asked size s ≡ keeps
unfolding bytes_opens fields_opens rules_opens
proper_kept size [] p = refl
proper_kept size (b ∷ s) p =
    let n = length (b ∷ s) in
    let k14 : byte_of_the_wrong_kind [] (counted size) (b ∷ s) ≡ false = rw p.digits in
    let k15 : wrong_size [] (counted size) (b ∷ s) ≡ false = rw (le-leb 1 n (omega arith), le-leb n size p.short) in
    keeps_field 0 [] (counted size) (b ∷ s) field_order (of_each (search (none, ◌also◌) depth 30))

back : (size v room : ℕ) → (write_number size v room).number ≡ 0
    → read_number (counted size) (write_number size v room).bytes ≡ record { number = 0; value = v }
unfolding amounts_opens writes every
back size v room e =
    let f : Figure = record { size = size; value = v; room = room } in
    let passes = first_passes (ltb 0) figure_order f refl in
    let k = nothing_found (λ x. (writes x (digits_of f)).number) (λ n f. refl) (first figure_order f) passes e in
    let fits = ltb-false (largest size) v (rule_kept 15 0 over_the_limit f (search listed) k) in
    let ds = written size v (omega (arith, one-le-pow size 10 (omega arith))) in
    rw (k, proper_kept size (decimal size v) (proper ds), value_read ds)

there : (size : ℕ) (s : Text) (room : ℕ) → (read_number (counted size) s).number ≡ 0 → length s ≤ room
    → write_number size (read_number (counted size) s).value room ≡ record { number = 0; field = 0; bytes = s }
unfolding amounts_opens writes every field_order rules_opens
there size s room e h =
    let passes = field_passes (ltb 0) 0 field_order [] (counted size) s refl in
    let k = nothing_found (λ x. (read_as x s).number) (λ n f. refl) (asked size s) passes e in
    let ds = read size s (kept_proper size s k) in
    rw (k, le-ltb (largest size) (value_of s) (omega (arith, small ds)), written_only ds, le-ltb room (length s) h)

-- what is read is never over the limit
pub read_bound : (size : ℕ) (s : Text) → (read_number (counted size) s).value ≤ largest size
unfolding read_number read_as
read_bound size s =
    ⊎_elim (λ k. rw k (omega (arith, small (read size s (kept_proper size s k))))) (λ b. rw b.2 (omega arith))
    (found_cases (asked size s))

-- and it is the value of digits that keep the rules
pub read_digits : (size : ℕ) (s : Text) → every is_digit s ≡ true → length s ≤ size → begins_with 48 s ≡ false
    → (read_number (counted size) s).value ≡ value_of s
unfolding read_number read_as
read_digits size s d l f = rw (proper_kept size s (record { digits = d; short = l; front = f }))

pub numbers_back : Numbers
unfolding amounts_opens fields_opens ask_field
numbers_back =
    record {
      amount_back = back amount_size;
      amount_there = there amount_size;
      months_back = back month_size;
      months_there = there month_size;
    }
