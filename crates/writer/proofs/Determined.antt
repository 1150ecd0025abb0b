-- A contract allows one outcome: any two results and outputs that it allows for the same arguments are equal.
use Prim.Native.Nat.{ℕ}
use mathlib.Core.Path.{◌≡◌, sym, ap, ap₂, ◌∙◌}
use native.Mathlib.Omega.{arith}
use Rattle.std.specs.Prelude.{Result, Ok, Err}
use Rattle.fields.proofs.Determined.{OneWith}
use Rattle.refusals.specs.declared.Refusal.{Refusal}
use Rattle.refusals.specs.declared.Breach.{Breach}
use Rattle.refusals.proofs.Numbers.{at_least_1, one_number}
use Rattle.writer.specs.Answers.{number_answered, line_answered}
use Rattle.writer.proofs as writer

-- what is answered says the result
number_one : (x y : Result ℕ Refusal) → number_answered x ≡ number_answered y → x ≡ y
number_one (Ok a) (Ok b) e = ap (λ n. Ok n.count) e
number_one (Ok a) (Err r) e = absurd (omega (arith, at_least_1 r, ap (λ n. n.number) e))
number_one (Err r) (Ok a) e = absurd (omega (arith, at_least_1 r, ap (λ n. n.number) e))
number_one (Err r) (Err q) e = ap Err (one_number r q (ap (λ n. n.number) e))

line_answer_one : (x y : Result ℕ Breach) → line_answered x ≡ line_answered y → x ≡ y
line_answer_one (Ok a) (Ok b) e = ap (λ n. Ok n.count) e
line_answer_one (Ok a) (Err b) e = absurd (omega (arith, at_least_1 b.refusal, ap (λ n. n.number) e))
line_answer_one (Err b) (Ok a) e = absurd (omega (arith, at_least_1 b.refusal, ap (λ n. n.number) e))
line_answer_one (Err b) (Err d) e =
    ap₂ (λ r f. Err (record { refusal = r; field = f })) (one_number b.refusal d.refusal (ap (λ n. n.number) e)) (ap (λ n. n.field) e)

pub amount_one : OneWith writer.write_amount.Reads.Post (λ κs s. s.1.0.now)
amount_one κs a x y s t p q = (number_one x y (p.0 ∙ sym q.0), p.1 ∙ sym q.1)

pub months_one : OneWith writer.write_months.Reads.Post (λ κs s. s.1.0.now)
months_one κs a x y s t p q = (number_one x y (p.0 ∙ sym q.0), p.1 ∙ sym q.1)

pub line_one : OneWith writer.write_line.Reads.Post (λ κs s. s.1.1.1.1.0.now)
line_one κs a x y s t p q = (line_answer_one x y (p.0 ∙ sym q.0), p.1 ∙ sym q.1)
