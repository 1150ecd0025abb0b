-- The digits left to write, and behind them those written.
use Prim.Native.Nat.{ℕ, zero, suc, ◌≤◌, ◌<◌}
use mathlib.Core.Path.{◌≡◌, refl, ap, ◌∙◌}
use mathlib.Core.List.{[]}
use native.Mathlib.Omega.{arith}
use lib.ListN.{length, length-set}
use Rattle.dirf.specs.Numbers.{decimal}
use Rattle.dirf.proofs.tests.Says.{below_or}
use Rattle.dirf.proofs.back.NumbersBack.{nothing_written}
use Rattle.writer.proofs.Digits.{count_on, digit_put}
use Rattle.writer.proofs.put_digits.Goals as goal

pub loop-i-init : goal.loop-i-init
loop-i-init c = ((omega arith, (omega arith, omega arith)), refl)

-- nothing is left of zero
none_left : (x : ℕ) → x ≤ 0 → length (decimal 20 x) ≡ 0
none_left zero h = ap length (nothing_written 20)
none_left (suc x) h = absurd (omega arith)

pub loop-i-preserved : goal.loop-i-preserved
loop-i-preserved c =
    let l = c.loop-i in
    let more : 0 < l.x = below_or l.x 0 (λ h. h) (λ h. absurd (omega (arith, none_left l.x h))) in
    let k = count_on l.x more (omega arith) in (
      (omega arith, (omega arith, simp length-set (omega arith))),
      digit_put l.x l.i l.out more (omega arith) (omega arith) (omega arith) ∙ l.invariant.1,
    )

pub returns : goal.returns
returns c =
    let l = c.loop-i in
    let x : l.x ≡ 0 = below_or l.x 0 (λ h. absurd (omega (arith, count_on l.x h (omega arith)))) (λ h. omega arith) in
    let z : decimal 20 l.x ≡ [] = rw x (nothing_written 20) in
    let i : l.i ≡ 0 = omega arith in
    rw (← l.invariant.1, z, i)
