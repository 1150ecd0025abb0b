-- What is left of the line goes where the last field ended.
use Prim.Native.Nat.{◌+◌}
use mathlib.Core.Path.{refl, sym, ap, ◌∙◌}
use mathlib.Core.List.{[], ◌∷◌, ◌++◌}
use native.Mathlib.Numerals.{add-one}
use native.Mathlib.Omega.{arith}
use lib.ListN.{length, get_or, length-set}
use lib.Seq.{length-sets}
use Rattle.dirf.specs.Limits.{bar}
use Rattle.writer.proofs.Stores.{rest, rest_end, rest_sum, rest_length, rest_two, field_put}
use Rattle.writer.proofs.put_line.Goals as goal

pub loop-n-init : goal.loop-n-init
unfolding rest
loop-n-init c = (omega arith, (refl, (omega arith, refl)))

pub put_field-at-requires : goal.put_field-at-requires
put_field-at-requires c =
    let l = c.loop-n in
    let a = c.args in
    let h = c.loop-n-test.true in
    let n = rest_length a.lengths.now a.contents.now l.n-index l.from h in
    let two = rest_two a.lengths.now a.contents.now (l.n-index + 1) (l.from + get_or a.lengths.now l.n-index 0) in
    omega (arith, n, two, ap length c.part.ensures.0)

pub overflow_add-from : goal.overflow_add-from
overflow_add-from c =
    let l = c.loop-n in
    let a = c.args in
    omega (arith, rest_sum a.lengths.now a.contents.now l.n-index l.from c.loop-n-test.true)

pub loop-n-preserved : goal.loop-n-preserved
loop-n-preserved c =
    let l = c.loop-n in
    let a = c.args in
    let h = c.loop-n-test.true in
    let part = c.part in
    let f = c.put_field-at.ensures in
    let put = field_put a.lengths.now a.contents.now l.n-index l.from h _ l.out _ l.at _ part.ensures.0 f.1 f.0 in
    let s = rest_sum a.lengths.now a.contents.now l.n-index l.from h in
    let n = rest_length a.lengths.now a.contents.now l.n-index l.from h in
    let o = ap length f.1 ∙ length-sets l.out l.at (part.result.now ++ (bar ∷ [])) in (
      omega (arith, s),
      (o ∙ l.invariant.1.0, (omega (arith, n, f.0, ap length part.ensures.0), l.invariant.1.1.1 ∙ put)),
    )

pub bounds-out-at : goal.bounds-out-at
bounds-out-at c =
    let l = c.loop-n in
    let a = c.args in
    omega (arith, rest_two a.lengths.now a.contents.now l.n-index l.from)

pub bounds-out-at-2 : goal.bounds-out-at-2
bounds-out-at-2 c =
    let l = c.loop-n in
    let a = c.args in
    simp length-set (omega (arith, rest_two a.lengths.now a.contents.now l.n-index l.from))

pub returns : goal.returns
returns c =
    let l = c.loop-n in
    let a = c.args in
    let e = rest_end a.lengths.now a.contents.now l.n-index l.from c.loop-n-test.false in
    (omega (arith, ap length e), sym (l.invariant.1.1.1 ∙ rw (e, add-one)))
