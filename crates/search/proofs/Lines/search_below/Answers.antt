-- What is left to be searched comes to what the whole search comes to, and there are steps for all of it.
use Rattle.std.proofs.Common.{refl, sym, ◌∙◌, arith, rules}
use Rattle.dirf.specs.Search.{entries_in, stops_by}
use Rattle.dirf.proofs.found.Steps.{ended, refused, company, forward, goes_on}
use Rattle.search.proofs.Said.{refusal_says}
use Rattle.search.proofs.Stop.{stop}
use Rattle.search.proofs.EntryRead.{kind_is, last_is, key_is}
use Rattle.search.proofs.Lines.search_below.Goals as goal

pub loop-at-init : goal.loop-at-init
loop-at-init c = record { counted = omega arith; rest = (entries_in _, omega (arith, c.requires), refl) }

pub returns-in_err-e-clause-says : goal.returns-in_err-e-clause-says
returns-in_err-e-clause-says c =
    let i = c.loop-at.invariant.rest in
    refusal_says c.from_residual.result c.from_residual.ensures.0 (search rules)
    ∙ sym (i.2 ∙ refused _ _ _ _ _ _ c.loop-at-test.true i.0 i.1 c.in_err-e.ensures.0)

pub returns-then-is_company-clause-says : goal.returns-then-is_company-clause-says
returns-then-is_company-clause-says c =
    let i = c.loop-at.invariant.rest in
    let e = c.in_ok-e.ensures in
    sym (i.2 ∙ company _ _ _ _ _ _ c.loop-at-test.true e.0 i.0 i.1 (rw (← kind_is _ _ _ e.1) (sym c.if-is_company.ensures)))

-- the stop at a key that isn't smaller: at the line, or at none
pub returns-then-same-clause-says : goal.returns-then-same-clause-says
unfolding stops_by
returns-then-same-clause-says c =
    let i = c.loop-at.invariant.rest in
    let e = c.in_ok-e.ensures in
    sym
    (i.2
    ∙ stop _ _ _ _ _ _ _ _ _ c.loop-at-test.true i.1 e.0 e.1 c.if-is_company.ensures c.key-found.ensures c.if-not-less.ensures
    ∙ rw (← c.if-same.ensures))

pub returns-else-same-clause-says : goal.returns-else-same-clause-says
unfolding stops_by
returns-else-same-clause-says c =
    let i = c.loop-at.invariant.rest in
    let e = c.in_ok-e.ensures in
    sym
    (i.2
    ∙ stop _ _ _ _ _ _ _ _ _ c.loop-at-test.true i.1 e.0 e.1 c.if-is_company.ensures c.key-found.ensures c.if-not-less.ensures
    ∙ rw (← c.if-same.ensures))

pub loop-at-smaller : goal.loop-at-smaller
loop-at-smaller c =
    let e = c.in_ok-e.ensures in
    let further = forward _ _ c.args.key.now _ _ c.loop-at.count c.loop-at-test.true e.0 in
    omega (arith, last_is _ _ _ e.1, further)

pub loop-at-preserved : goal.loop-at-preserved
loop-at-preserved c =
    let l = c.loop-at in
    let i = l.invariant.rest in
    let e = c.in_ok-e.ensures in
    let found = key_is _ _ _ e.1 _ _ c.key-found.ensures in
    let last = last_is _ _ _ e.1 in
    let further = forward _ _ c.args.key.now _ _ l.count c.loop-at-test.true e.0 in
    let a = c.args in
    let on = goes_on a.self.now.file.now a.self.now.table.now a.key.now a.end l.at l.count c.loop-at-test.true e.0 i.0 i.1
    (rw (← kind_is _ _ _ e.1) (sym c.if-is_company.ensures)) (rw (← found) (sym c.if-not-less.ensures)) in
    record {
      counted = omega (arith, last, further, l.invariant.counted);
      rest = (on.0, omega (arith, on.1, last), i.2 ∙ on.2 ∙ rw (← last));
    }

pub returns-clause-says : goal.returns-clause-says
returns-clause-says c = let i = c.loop-at.invariant.rest in sym (i.2 ∙ ended _ _ _ _ _ _ i.0 c.loop-at-test.false)
