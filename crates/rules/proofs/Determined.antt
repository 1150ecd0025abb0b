-- A contract allows one result: any two results that it allows for the same arguments are equal.
use Prim.Native.Nat.{ℕ}
use mathlib.Core.Path.{◌≡◌, sym, ap, ◌∙◌}
use native.Mathlib.Omega.{arith}
use Rattle.std.specs.Prelude.{Result, Ok, Err}
use Rattle.dirf.specs.Amounts.{Reading}
use Rattle.fields.proofs.Determined.{One}
use Rattle.refusals.specs.declared.Refusal.{Refusal}
use Rattle.refusals.proofs.Numbers.{at_least_1, one_number, same_number, same_found}
use Rattle.rules.specs.Findings.{reading_said}
use Rattle.rules.proofs as rules

pub field_rule_one : One rules.field_rule.Reads.Post
field_rule_one κs a x y s t p q = same_number x y (p ∙ sym q)

-- a reading says what was read, where the value does
module _ {A : Type 0} (value : A → ℕ) (one : (a b : A) → value a ≡ value b → a ≡ b) where
  one_reading : (x y : Result A Refusal) → reading_said value x ≡ reading_said value y → x ≡ y
  one_reading (Ok a) (Ok b) e = ap Ok (one a b (ap (λ r. r.value) e))
  one_reading (Ok a) (Err r) e = absurd (omega (arith, at_least_1 r, ap (λ (x : Reading). x.number) e))
  one_reading (Err r) (Ok a) e = absurd (omega (arith, at_least_1 r, ap (λ (x : Reading). x.number) e))
  one_reading (Err r) (Err q) e = ap Err (one_number r q (ap (λ x. x.number) e))

pub read_amount_one : One rules.read_amount.Reads.Post
read_amount_one κs a x y s t p q = one_reading (λ c. c.0) (λ a b e. ap (λ v. record { 0 = v }) e) x y (p ∙ sym q)

pub read_months_one : One rules.read_months.Reads.Post
read_months_one κs a x y s t p q = one_reading (λ m. m.0) (λ a b e. ap (λ v. record { 0 = v }) e) x y (p ∙ sym q)

pub contents_found_one : One rules.contents_found.Reads.Post
contents_found_one κs a x y s t p q = same_found x y (p ∙ sym q)
