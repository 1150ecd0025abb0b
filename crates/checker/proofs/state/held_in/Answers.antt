-- The answer is the answer for the open records down to the i-th.
use Prim.Native.Nat.{◌+◌, suc, ◌-◌}
use mathlib.Core.Path.{◌≡◌, refl, sym, ap, ◌∙◌}
use native.Mathlib.Omega.{arith}
use Rattle.checker.specs.State.{above, held_in}
use Rattle.checker.proofs.state.held_in.Goals as goal

pub loop-i-init : goal.loop-i-init
unfolding held_in
loop-i-init c = (omega arith, refl)

pub returns-then-may_hold : goal.returns-then-may_hold
unfolding held_in above
returns-then-may_hold c =
    let l = c.loop-i in
    let one : l.i ≡ suc (l.i - 1) = omega arith in
    let same : l.i - 1 + 1 ≡ suc (l.i - 1) = omega arith in
    let here = c.above-holder.ensures ∙ ap (above _) same in (
      same ∙ sym (l.invariant.1 ∙ ap (held_in _ _ _ _) one ∙ simp (← here, ← c.above.ensures, ← c.may_hold.ensures, c.if-may_hold.true)),
      omega (arith, l.invariant.0),
    )

pub loop-i-preserved : goal.loop-i-preserved
unfolding held_in above
loop-i-preserved c =
    let l = c.loop-i in
    let one : l.i ≡ suc (l.i - 1) = omega arith in
    let same : l.i - 1 + 1 ≡ suc (l.i - 1) = omega arith in
    let here = c.above-holder.ensures ∙ ap (above _) same in
    (omega arith, l.invariant.1 ∙ ap (held_in _ _ _ _) one ∙ simp (← here, ← c.above.ensures, ← c.may_hold.ensures, c.if-may_hold.false))

pub returns : goal.returns
unfolding held_in
returns c =
    let l = c.loop-i in
    let none : l.i ≡ 0 = omega arith in
    (sym (l.invariant.1 ∙ rw none), omega arith)
