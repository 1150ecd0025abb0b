-- Field k of the line is field `before` of what begins at byte `start`.
use mathlib.Core.Path.{◌≡◌, sym, ap, ◌∙◌}
use native.Mathlib.Omega.{arith}
use Rattle.fields.proofs.Spots.{place_is, sought, sought_none, inside, sought_first, sought_next}
use Rattle.fields.proofs.place_of.Goals as goal

pub loop-before-init : goal.loop-before-init
loop-before-init c = (omega arith, place_is _ _)

pub returns-in_err-len : goal.returns-in_err-len
returns-in_err-len c =
    let l = c.loop-before in
    let e = sym c.first_bar.ensures ∙ c.in_err-len.was in
    c.from_residual.ensures ∙ sym (l.invariant.1 ∙ sought_none _ l.start l.invariant.0 _ e)

pub returns-then-before-eq0 : goal.returns-then-before-eq0
returns-then-before-eq0 c =
    let l = c.loop-before in
    let e = sym c.first_bar.ensures ∙ c.in_ok-len.was in
    let one : l.before ≡ 1 = omega (arith, c.if-before-eq0.true) in
    sym (l.invariant.1 ∙ ap (sought c.args.line.now l.start) one ∙ sought_first _ l.start l.invariant.0 c.in_ok-len.len e)

pub loop-before-preserved : goal.loop-before-preserved
loop-before-preserved c =
    let l = c.loop-before in
    let n = c.in_ok-len.len in
    let e = sym c.first_bar.ensures ∙ c.in_ok-len.was in (
      omega (arith, inside _ l.start l.invariant.0 n e),
      l.invariant.1 ∙ sought_next _ l.start l.invariant.0 n e l.before (omega (arith, c.if-before-eq0.false)),
    )
