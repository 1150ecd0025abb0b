-- Byte by byte: what is read, and what is left, come to the whole sum, and nothing is ever over it.
use native.Mathlib.Omega.{arith}
use Rattle.checker.proofs.totals.Sums.{run_start, run_inside, run_bar, run_digit, run_end}
use Rattle.checker.proofs.totals.sum_of.Goals as goal
use Rattle.checker.proofs.totals.sum_of.Goals.{then-b-eq124+else-left-eq0, else-b-eq124}

pub returns-then-n-eq0 : goal.returns-then-n-eq0
returns-then-n-eq0 c = run_end (run_start _ _ c.requires) c.if-n-eq0.true

pub loop-b-init : goal.loop-b-init
loop-b-init c = (run_start _ _ c.requires, omega (arith, c.if-n-eq0.false))

pub overflow_add-sum : goal.overflow_add-sum
overflow_add-sum c =
    let bar = run_bar c.loop-b.invariant.0 c.loop-b.invariant.1 c.if-b-eq124.true in
    omega (arith, bar.0, c.requires.fits)

pub overflow_sub-left : goal.overflow_sub-left
overflow_sub-left c = c.loop-b.invariant.1

-- the last amount
pub returns-then-left-eq0 : goal.returns-then-left-eq0
returns-then-left-eq0 c = run_end (run_bar c.loop-b.invariant.0 c.loop-b.invariant.1 c.if-b-eq124.true).1 c.if-left-eq0.true

pub overflow_mul-one : goal.overflow_mul-one
overflow_mul-one c =
    let digit = run_digit c.loop-b.invariant.0 c.loop-b.invariant.1 c.if-b-eq124.false in
    omega (arith, digit.1, c.requires.fits)

pub digit-requires : goal.digit-requires
digit-requires c = (run_digit c.loop-b.invariant.0 c.loop-b.invariant.1 c.if-b-eq124.false).0

pub overflow_add-one : goal.overflow_add-one
overflow_add-one c =
    let digit = run_digit c.loop-b.invariant.0 c.loop-b.invariant.1 c.if-b-eq124.false in
    omega (arith, digit.1, c.requires.fits, c.digit.ensures)

pub loop-b-preserved : goal.loop-b-preserved
loop-b-preserved c =
    elim c.if-b-eq124.branch [
      | then-b-eq124+else-left-eq0 w ↦
          let bar = run_bar c.loop-b.invariant.0 c.loop-b.invariant.1 w.if-b-eq124.true in
          (rw (w.sum-is, w.one-is, w.left-is) bar.1, omega (arith, w.if-left-eq0.false, w.left-is))
      | else-b-eq124 w ↦
          let digit = run_digit c.loop-b.invariant.0 c.loop-b.invariant.1 w.if-b-eq124.false in
          (rw (w.sum-is, w.one-is, w.left-is, w.digit.ensures) digit.2, omega (arith, c.loop-b.invariant.1, w.left-is))
    ]

-- no byte is left, so no amount is
pub returns : goal.returns
returns c = absurd (omega (arith, run_inside c.loop-b.invariant.0 c.loop-b.invariant.1, c.loop-b-test.false))
