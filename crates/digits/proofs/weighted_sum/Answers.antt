-- One more digit.
use Rattle.std.proofs.Common.{arith}
use Rattle.std.proofs.lemmas.List.{length_push}
use Rattle.std.proofs.lemmas.Slice.Zip.{zip_turn}
use Rattle.digits.proofs.Weighted.{one_more}
use Rattle.digits.proofs.weighted_sum.Goals as goal

pub loop-weight-preserved : goal.loop-weight-preserved
loop-weight-preserved c =
    let a = c.args in
    let l = c.loop-weight in
    let e = c.in-Some in
    let t = zip_turn a.weights.now a.s.now l.yielded c.into_iter-weight-iterator.result l.weight-iterator c.next.new.self c.next.result
    (cc) (cc) l.yielded_by _ e.is c.next.ensures.steps in
    let n = length_push l.yielded (e.weight, e.b) in
    let m = one_more _ _ _ _ _ t.0 t.1 (t.2 0) (t.3 0) in
    grind arith
