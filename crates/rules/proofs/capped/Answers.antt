-- The value is that of what is left from byte i on, after the number so far.
use Prim.Native.Nat.{◌+◌, ◌-◌, ◌*◌, ◌^◌, ◌≤◌}
use mathlib.Core.Path.{refl, sym, ap, ◌∙◌}
use native.Mathlib.Nat.{le_trans, min-eq_left, min-eq_right}
use native.Mathlib.Omega.{arith}
use lib.ListN.{get_or, drop}
use Rattle.dirf.specs.Bytes.{is_digit}
use Rattle.dirf.specs.Numbers.{value_of, value_after}
use Rattle.dirf.proofs.tests.Lists.{drop_on}
use Rattle.dirf.proofs.tests.Says.{digit_says}
use Rattle.rules.proofs.Every.{every_here}
use Rattle.rules.proofs.Values.{value_end, value_least}
use Rattle.rules.proofs.capped.Goals as goal

pub loop-b-init : goal.loop-b-init
unfolding value_of
loop-b-init c = (omega arith, refl)

pub overflow_sub-b : goal.overflow_sub-b
overflow_sub-b c =
    let i = c.loop-b.b-index in
    ((digit_says (get_or c.args.s.now i 0)).0 (every_here is_digit c.args.s.now i c.requires c.loop-b-test.true)).0

pub returns-then-n-ge1000000000000000000 : goal.returns-then-n-ge1000000000000000000
unfolding value_after
returns-then-n-ge1000000000000000000 c =
    let l = c.loop-b in
    let more = l.invariant.1 ∙ ap (value_after l.n) (drop_on _ l.b-index 0 c.loop-b-test.true) in
    let next = l.n * 10 + (get_or c.args.s.now l.b-index 0 - 48) in
    let big : 10 ^ 18 ≤ next = omega (arith, c.from.ensures) in
    sym (min-eq_left (rw more (le_trans big (value_least next (drop (l.b-index + 1) c.args.s.now)))))

pub loop-b-preserved : goal.loop-b-preserved
unfolding value_after
loop-b-preserved c =
    let l = c.loop-b in
    (omega arith, l.invariant.1 ∙ ap (value_after l.n) (drop_on _ l.b-index 0 c.loop-b-test.true) ∙ rw c.from.ensures)

pub returns : goal.returns
returns c =
    let l = c.loop-b in
    rw (l.invariant.1 ∙ value_end _ l.b-index l.n c.loop-b-test.false) (sym (min-eq_right (omega arith)))
