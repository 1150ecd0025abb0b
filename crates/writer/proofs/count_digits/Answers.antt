-- The digits counted so far, and those of what is left.
use Prim.Native.Nat.{ℕ}
use mathlib.Core.Path.{◌≡◌, ap, ◌∙◌}
use native.Mathlib.Omega.{arith}
use lib.ListN.{length}
use Rattle.dirf.specs.Numbers.{decimal}
use Rattle.dirf.proofs.back.NumbersBack.{nothing_written}
use Rattle.writer.proofs.Digits.{count_on, count_most}
use Rattle.writer.proofs.count_digits.Goals as goal

pub loop-x-init : goal.loop-x-init
loop-x-init c = (omega arith, omega arith)

pub overflow_add-n : goal.overflow_add-n
overflow_add-n c = omega (arith, count_on c.loop-x.x (omega arith) (omega arith), count_most 20 c.args.v)

pub loop-x-preserved : goal.loop-x-preserved
loop-x-preserved c = (omega arith, omega (arith, count_on c.loop-x.x (omega arith) (omega arith)))

pub returns : goal.returns
returns c =
    let z : c.loop-x.x ≡ 0 = omega arith in
    omega (arith, ap (λ (x : ℕ). length (decimal 20 x)) z ∙ ap length (nothing_written 20))
