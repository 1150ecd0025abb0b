-- 13 to 18 and 26: what the test of each rule says of a field.
use Prim.Native.Nat.{ℕ, zero, suc, ◌≤◌}
use mathlib.Core.Path.{◌≡◌, refl, sym}
use mathlib.Core.Bool.{Bool, false, true≢false}
use mathlib.Core.Logic.{◌≢◌, ◌⊎◌, inl, inr, ⊎_elim}
use mathlib.Core.List.Memᴰ
use mathlib.Core.List.{[], ◌∷◌}
use native.Mathlib.Omega.{arith}
use lib.Dec.{leb}
use lib.ListN.{length, take, drop}
use borrow.Author.Tests.{not-true}
use Rattle.dirf.specs.Bytes.{Text, every, some, is_in, same, bytes_opens}
use Rattle.dirf.specs.Row.{Row, Format, C, N, D, Fill, fixed, variable, Need, obligatory, optional, Holds, identifier, amount, months}
use Rattle.dirf.specs.Row.{ddd, telephone, cpf, cnpj, cpf_or_cnpj, plain, one_of}
use Rattle.dirf.specs.Numbers.{value_of, is_leap, days_in, is_day, is_date}
use Rattle.dirf.specs.Fields.{is_obligatory, right_byte, fills_to, size_held, takes_no_zero, dated, valid, filled}
use Rattle.dirf.specs.Fields.{obligatory_field_empty, byte_of_the_wrong_kind, wrong_size, zero_in_front, no_such_date, not_a_valid_value}
use Rattle.dirf.specs.Fields.{wrong_check_digits}
use Rattle.dirf.specs.Theorems.Plain.{◌∈◌, RightByte, Fills, SizeHeld, TakesNoZero, an_amount, a_month_count, a_ddd, Valid, Leap}
use Rattle.dirf.specs.Theorems.Plain.{DigitsHeld, InMonth, long_month, short_month, february, leap_february, Date}
use Rattle.dirf.proofs.tests.Bools.{by_answer, if_cases}
use Rattle.dirf.proofs.tests.Says.{Says, always, never, says_not, says_by, denies, says, eqb_says, leb_says, it, on, some_says}
use Rattle.dirf.proofs.tests.Says.{every_says, digit_says, two_says, same_says, begins_says}
use Rattle.dirf.proofs.tests.Lists.{every_in}
use Rattle.dirf.proofs.breaches.DigitLaws.{digits_held_say}

obligatory_says : (n : Need) → Says (is_obligatory n) (n ≡ obligatory)
unfolding is_obligatory
obligatory_says obligatory = (λ e. refl, λ h. refl)
obligatory_says optional = never (λ h. let z : ◌≡◌ {A = ℕ} 0 1 = cc in omega arith)

dated_says : (f : Format) → Says (dated f) (f ≡ D)
unfolding dated
dated_says C = never (λ h. let z : ◌≡◌ {A = ℕ} 0 1 = cc in omega arith)
dated_says N = never (λ h. let z : ◌≡◌ {A = ℕ} 0 1 = cc in omega arith)
dated_says D = (λ e. refl, λ h. refl)

pub right_byte_says : (f : Format) (b : ℕ) → Says (right_byte f b) (RightByte f b)
unfolding right_byte is_in some
right_byte_says C b =
    let parts : Says (right_byte C b) ((b ≡ 124) ⊎ ((b ≡ 13) ⊎ ((b ≡ 10) ⊎ ⊥)) → ⊥) = search (says, never) in
    says_by (λ h. (λ e. h (inl e), λ e. h (inr (inl e)), λ e. h (inr (inr (inl e)))))
    (λ h. ⊎_elim h.0 (⊎_elim h.1 (⊎_elim h.2 (λ n. n)))) parts
right_byte_says N b = digit_says b
right_byte_says D b = digit_says b

fills_says : (g : Fill) (size n : ℕ) → Says (fills_to g size n) (Fills g size n)
unfolding fills_to
fills_says fixed size n = eqb_says n size
fills_says variable size n = search says

-- what a row holds: the sizes it takes, whether it takes no zero in front, and the values it takes
record HoldsSay (h : Holds) : Type 0 where
  sized : (n : ℕ) → Says (size_held h n) (SizeHeld h n)
  no_zero : Says (takes_no_zero h) (TakesNoZero h)
  valued : (name s : Text) → Says (valid name h s) (Valid name h s)

holds_say : (h : Holds) → HoldsSay h
unfolding size_held takes_no_zero valid
holds_say identifier =
    record { sized = λ n. always; no_zero = never (λ z. elim z [ ]); valued = λ name s. says_by sym sym (same_says name s) }
holds_say amount = record { sized = λ n. always; no_zero = (λ e. an_amount, λ h. refl); valued = λ name s. always }
holds_say months = record { sized = λ n. always; no_zero = (λ e. a_month_count, λ h. refl); valued = λ name s. always }
holds_say ddd = record { sized = λ n. always; no_zero = (λ e. a_ddd, λ h. refl); valued = λ name s. always }
holds_say telephone = record { sized = λ n. two_says n 8 9; no_zero = never (λ z. elim z [ ]); valued = λ name s. always }
holds_say cpf = record { sized = λ n. always; no_zero = never (λ z. elim z [ ]); valued = λ name s. always }
holds_say cnpj = record { sized = λ n. always; no_zero = never (λ z. elim z [ ]); valued = λ name s. always }
holds_say cpf_or_cnpj = record { sized = λ n. two_says n 11 14; no_zero = never (λ z. elim z [ ]); valued = λ name s. always }
holds_say plain = record { sized = λ n. always; no_zero = never (λ z. elim z [ ]); valued = λ name s. always }
holds_say (one_of vs) =
    record {
      sized = λ n. always;
      no_zero = never (λ z. elim z [ ]);
      valued = λ name s. says_by (λ h. Memᴰ.cast h.2 h.1) (λ m. (s, m, refl)) (some_says (same s) (same_says s) vs);
    }

-- the calendar
leap_says : (y : ℕ) → Says (is_leap y) (Leap y)
unfolding is_leap
leap_says y = search says

month_of : (y m d : ℕ) → 1 ≤ d → d ≤ days_in y m → InMonth y m d
unfolding days_in
month_of y zero d a b = absurd (omega arith)
month_of y (suc zero) d a b = long_month (search it depth 20) b
month_of y (suc (suc zero)) d a b =
    by_answer (is_leap y) (λ e. leap_february refl ((leap_says y).0 e) (rw e at b)) (λ e. february refl (rw e at b))
month_of y (suc (suc (suc zero))) d a b = long_month (search (it, on) depth 20) b
month_of y (suc (suc (suc (suc zero)))) d a b = short_month (search it depth 20) b
month_of y (suc (suc (suc (suc (suc zero))))) d a b = long_month (search (it, on) depth 20) b
month_of y (suc (suc (suc (suc (suc (suc zero)))))) d a b = short_month (search (it, on) depth 20) b
month_of y (suc (suc (suc (suc (suc (suc (suc zero))))))) d a b = long_month (search (it, on) depth 20) b
month_of y (suc (suc (suc (suc (suc (suc (suc (suc zero)))))))) d a b = long_month (search (it, on) depth 20) b
month_of y (suc (suc (suc (suc (suc (suc (suc (suc (suc zero))))))))) d a b = short_month (search (it, on) depth 20) b
month_of y (suc (suc (suc (suc (suc (suc (suc (suc (suc (suc zero)))))))))) d a b = long_month (search (it, on) depth 20) b
month_of y (suc (suc (suc (suc (suc (suc (suc (suc (suc (suc (suc zero))))))))))) d a b = short_month (search (it, on) depth 20) b
month_of y (suc (suc (suc (suc (suc (suc (suc (suc (suc (suc (suc (suc zero)))))))))))) d a b = long_month (search (it, on) depth 20) b
month_of y (suc (suc (suc (suc (suc (suc (suc (suc (suc (suc (suc (suc (suc m))))))))))))) d a b = absurd (omega arith)

days_of : (y m d : ℕ) → InMonth y m d → d ≤ days_in y m
unfolding days_in bytes_opens
days_of y m d (long_month h b) = omega (arith, (leb_says 31 (days_in y m)).0 (every_in (λ m. leb 31 (days_in y m)) h refl))
days_of y m d (short_month h b) = omega (arith, (leb_says 30 (days_in y m)).0 (every_in (λ m. leb 30 (days_in y m)) h refl))
days_of y m d (february e b) = rw e (if_cases (λ n. d ≤ n) (is_leap y) (λ _. omega arith) (λ _. b))
days_of y m d (leap_february e l b) = rw (e, (leap_says y).1 l) b

date_says : (s : Text) → Says (is_date s) (Date s)
unfolding is_date is_day
date_says s =
    let y = value_of (take 4 s) in
    let m = value_of (take 2 (drop 4 s)) in
    let d = value_of (drop 6 s) in
    let parts : Says (is_day y m d) ((((1900 ≤ y) × (y ≤ 2099)) × (1 ≤ d)) × (d ≤ days_in y m)) = search says in
    says_by (λ h. record { year = h.0.0; day = h.0.1; month = month_of y m d h.0.1 h.1 })
    (λ h. ((h.year, h.day), days_of y m d h.month)) parts

filled_says : (s : Text) → Says (filled s) (s ≢ [])
unfolding filled
filled_says s = search says

-- a byte that fails the test, where not every byte passes it
one_fails : (test : ℕ → Bool) (s : Text) → every test s ≡ false → (b : ℕ) × (b ∈ s) × (test b ≡ false)
unfolding every
one_fails test [] e = absurd (true≢false e)
one_fails test (b ∷ s) e =
    by_answer (test b) (λ q. let h = one_fails test s (rw q at e) in (h.0, on h.1, h.2)) (λ q. (b, it, q))

-- each rule of a field, asked of the record's identifier, the row and the bytes
module _ (name : Text) (r : Row) (s : Text) where
  pub says_13 : Says (obligatory_field_empty name r s) ((r.need ≡ obligatory) × (s ≡ []))
  unfolding obligatory_field_empty
  says_13 = search (says, obligatory_says)

  pub says_14 : Says (byte_of_the_wrong_kind name r s) ((b : ℕ) × (b ∈ s) × (RightByte r.format b → ⊥))
  unfolding byte_of_the_wrong_kind
  says_14 =
      let right = right_byte r.format in (
        λ e. let h = one_fails right s (not-true _ e) in (h.0, h.1, (denies (right h.0) (right_byte_says r.format h.0)).0 h.2),
        λ h. (says_not _ (every_says right (right_byte_says r.format) s)).1 (λ all. h.2 (all h.0 h.1)),
      )

  pub says_15 : Says (wrong_size name r s) ((s ≢ []) × (Fills r.fill r.size (length s) × SizeHeld r.holds (length s) → ⊥))
  unfolding wrong_size
  says_15 = search (says, filled_says, fills_says, (holds_say r.holds).sized)

  pub says_16 : Says (zero_in_front name r s) (TakesNoZero r.holds × ((t : Text) × (s ≡ 48 ∷ t)))
  unfolding zero_in_front
  says_16 = search (says, (holds_say r.holds).no_zero, begins_says)

  pub says_17 : Says (no_such_date name r s) (((s ≢ []) × (r.format ≡ D)) × (Date s → ⊥))
  unfolding no_such_date
  says_17 = search (says, filled_says, dated_says, date_says)

  pub says_18 : Says (not_a_valid_value name r s) ((s ≢ []) × (Valid name r.holds s → ⊥))
  unfolding not_a_valid_value
  says_18 = search (says, filled_says, (holds_say r.holds).valued)

  pub says_26 : Says (wrong_check_digits name r s) ((s ≢ []) × (DigitsHeld r.holds s → ⊥))
  unfolding wrong_check_digits
  says_26 = search (says, filled_says, digits_held_say)
