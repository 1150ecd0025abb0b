-- What is left to be searched comes to what the whole search comes to, and there are steps for all of it.
use Rattle.std.proofs.Common.{ℕ, ◌≡◌, ◌+◌, ◌-◌, ◌≤◌}
use Rattle.dirf.specs.Search.{entries_in, search_from}
use Rattle.search.proofs.Lines.search_below.Given as goal

abbrev pub invariant-loop-at : goal.invariant-loop-at
invariant-loop-at l = record {
  counted : l.count ≤ l.at;
  rest : (steps : ℕ) × (l.end ≤ l.at + steps)
      × (search_from l.self.file.now l.self.table.now l.key l.end (entries_in l.self.table.now) (l.line + 1) 0
      ≡ search_from l.self.file.now l.self.table.now l.key l.end steps (l.at + 1) l.count);
}

abbrev pub decreases-loop-at : goal.decreases-loop-at
decreases-loop-at l = l.end - l.at
