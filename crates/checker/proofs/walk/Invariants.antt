-- The loop, for the edition that it is told and that the tables say.
use Prim.Native.Nat.{suc, ◌-◌, ◌≤◌}
use Rattle.dirf.specs.Limits.{lines_limit}
use Rattle.editions.specs.Editions.{edition_said}
use Rattle.checker.proofs.Held.{Held}
use Rattle.checker.proofs.walk.Given as goal

abbrev pub invariant-loop-r : goal.invariant-loop-r
invariant-loop-r l = record {
  held :
      Held (edition_said l.tables.edition) l.tables.below.now l.file l.room l.initial.table l.table l.initial.totals l.totals l.st l.past;
  few : l.st.count ≤ lines_limit;
}

abbrev pub decreases-loop-r : goal.decreases-loop-r
decreases-loop-r l = suc lines_limit - l.st.count
