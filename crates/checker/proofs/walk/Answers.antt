-- The loop, for the edition that it is told and that the tables say.
use mathlib.Core.Path.{◌≡◌, refl, sym, ap}
use native.Mathlib.Omega.{arith}
use borrow.Author.Rules.{rules}
use Rattle.std.specs.Prelude.{Err}
use Rattle.dirf.proofs.tables.Editions.{amounts_named}
use Rattle.editions.specs.Editions.{edition_says}
use Rattle.dirf.specs.Rules.{keeps}
use Rattle.rules.specs.Findings.{number_of}
use Rattle.checker.specs.State.{last_in, state_after, past_after}
use Rattle.checker.specs.Turn.{looked_found, entry_of}
use Rattle.checker.specs.declared.state.State.{State}
use Rattle.checker.proofs.Reading.{near}
use Rattle.checker.proofs.Held.{held_start, as_lent, answered, turn_step, read_on, looks_kept, held_lines, addable, held_next}
use Rattle.checker.proofs.walk.Goals as goal

pub loop-r-init : goal.loop-r-init
loop-r-init c =
    let held = held_start _ c.requires.sound (amounts_named (edition_says c.args.tables.edition)) c.clear.ensures c.start-st.ensures
    c.nothing-past.ensures in
    record { held = held; few = (near held.reading).few }

pub turn-requires : goal.turn-requires
turn-requires c = near c.loop-r.invariant.held.reading

pub returns-in-Err-clause-judged : goal.returns-in-Err-clause-judged
returns-in-Err-clause-judged c =
    let held = c.loop-r.invariant.held in
    (as_lent c.clear.ensures (answered held _ (turn_step held c.requires (Err c.in-Err.answer) c.in-Err.ensures))).judged

pub returns-in-Err-clause-totals : goal.returns-in-Err-clause-totals
returns-in-Err-clause-totals c =
    let held = c.loop-r.invariant.held in
    (as_lent c.clear.ensures (answered held _ (turn_step held c.requires (Err c.in-Err.answer) c.in-Err.ensures))).totals

pub bounds-past-i : goal.bounds-past-i
bounds-past-i c = (read_on c.loop-r.invariant.held c.requires c.in-Ok.r c.in-Ok.ensures).fits.kind

pub returns-in-Err-found-clause-judged : goal.returns-in-Err-found-clause-judged
unfolding last_in
returns-in-Err-found-clause-judged c =
    let held = c.loop-r.invariant.held in
    let on = read_on held c.requires c.in-Ok.r c.in-Ok.ensures in
    rw c.refused.ensures (as_lent c.clear.ensures (answered held _ (on.refuses _ _ (sym c.in-Err-found.ensures)))).judged

pub returns-in-Err-found-clause-totals : goal.returns-in-Err-found-clause-totals
unfolding last_in
returns-in-Err-found-clause-totals c =
    let held = c.loop-r.invariant.held in
    let on = read_on held c.requires c.in-Ok.r c.in-Ok.ensures in
    (as_lent c.clear.ensures (answered held _ (on.refuses _ _ (sym c.in-Err-found.ensures)))).totals

-- 7 is asked of a line that keeps 21 and 20
pub returns-then-room-st-clause-judged : goal.returns-then-room-st-clause-judged
unfolding last_in
returns-then-room-st-clause-judged c =
    let held = c.loop-r.invariant.held in
    let on = read_on held c.requires c.in-Ok.r c.in-Ok.ensures in
    let kept : looked_found c.args.file.now c.loop-r.st c.in-Ok.r (last_in c.loop-r.past c.in-Ok.r.kind) ≡ keeps = search rules in
    rw (c.refused-then-room-st.ensures, c.from.ensures)
    (as_lent c.clear.ensures (answered held _ (on.full kept c.if-room-st.true))).judged

pub returns-then-room-st-clause-totals : goal.returns-then-room-st-clause-totals
unfolding last_in
returns-then-room-st-clause-totals c =
    let held = c.loop-r.invariant.held in
    let on = read_on held c.requires c.in-Ok.r c.in-Ok.ensures in
    let kept : looked_found c.args.file.now c.loop-r.st c.in-Ok.r (last_in c.loop-r.past c.in-Ok.r.kind) ≡ keeps = search rules in
    (as_lent c.clear.ensures (answered held _ (on.full kept c.if-room-st.true))).totals

pub entry_of-entry-requires : goal.entry_of-entry-requires
entry_of-entry-requires c = (read_on c.loop-r.invariant.held c.requires c.in-Ok.r c.in-Ok.ensures).fits

pub put_lasts-requires : goal.put_lasts-requires
unfolding last_in
put_lasts-requires c =
    let held = c.loop-r.invariant.held in
    let on = read_on held c.requires c.in-Ok.r c.in-Ok.ensures in
    (on.fits.outer, held_lines held c.in-Ok.r (on.goes (sym c.in_default.ensures) c.if-room-st.false))

pub bounds-past-i-in-loop-r : goal.bounds-past-i-in-loop-r
bounds-past-i-in-loop-r c = (read_on c.loop-r.invariant.held c.requires c.in-Ok.r c.in-Ok.ensures).fits.kind

pub add_record-requires : goal.add_record-requires
unfolding last_in
add_record-requires c =
    let held = c.loop-r.invariant.held in
    let on = read_on held c.requires c.in-Ok.r c.in-Ok.ensures in
    addable held c.in-Ok.r (on.goes (sym c.in_default.ensures) c.if-room-st.false) on.fits

pub state_after-st-requires : goal.state_after-st-requires
state_after-st-requires c =
    let f = (read_on c.loop-r.invariant.held c.requires c.in-Ok.r c.in-Ok.ensures).fits in
    (f.outer, (f.safe, f.short))

pub loop-r-smaller : goal.loop-r-smaller
unfolding state_after
loop-r-smaller c =
    let on = read_on c.loop-r.invariant.held c.requires c.in-Ok.r c.in-Ok.ensures in
    omega (arith, on.fits.safe.fewer, ap (λ (x : State). x.count) c.state_after-st.ensures)

pub loop-r-preserved : goal.loop-r-preserved
unfolding entry_of past_after last_in number_of
loop-r-preserved c =
    let held = c.loop-r.invariant.held in
    let on = read_on held c.requires c.in-Ok.r c.in-Ok.ensures in
    let kept = looks_kept held c.in-Ok.r keeps c.in_default.ensures refl in
    let next = held_next held c.in-Ok.r (on.goes kept c.if-room-st.false) on.fits in
    rw (
      c.state_after-st.ensures,
      c.add_record.ensures,
      c.put_lasts.ensures,
      c.put_entry.ensures,
      c.entry_numbers.ensures,
      c.entry_of-entry.ensures,
    )
    (record { held = next; few = (near next.reading).few })
