-- Nothing stands outside place 0, nor past the last; else the one before it.
use Prim.Native.Nat.{suc, ◌-◌}
use mathlib.Core.Path.{◌≡◌, sym, ap, ◌∙◌}
use native.Mathlib.Omega.{arith}
use Rattle.std.proofs.lemmas.List.{get_or_past}
use Rattle.checker.specs.State.{above, no_open}
use Rattle.checker.proofs.state.above.Goals as goal

pub returns-then-j-eq0 : goal.returns-then-j-eq0
unfolding above
returns-then-j-eq0 c = simp c.if-j-eq0.true

pub returns-then-j-gt-DEPTH : goal.returns-then-j-gt-DEPTH
unfolding above
returns-then-j-gt-DEPTH c =
    let a = c.args in
    let e : suc (a.j - 1) ≡ a.j = omega arith in
    sym (ap (above a.opened) (sym e) ∙ get_or_past a.opened (a.j - 1) no_open (omega (arith, c.ranges)))

pub returns : goal.returns
unfolding above
returns c =
    let a = c.args in
    let e : suc (a.j - 1) ≡ a.j = omega arith in
    ap (above _) e
