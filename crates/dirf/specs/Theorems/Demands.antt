-- All that is proved of an edition, in one place. docs/DEMANDS.md goes through the demands sentence by sentence.
use Rattle.dirf.specs.Edition.{Edition}
use Rattle.dirf.specs.Columns.{ColumnsHold, WriterColumnsHold}
use Rattle.dirf.specs.Theorems.Answered.{Answered, Only, AcceptedExactly, TestsSay}
use Rattle.dirf.specs.Theorems.GoodSoFar.{GoodUpToHere}
use Rattle.dirf.specs.Theorems.Counts.{Counts}
use Rattle.dirf.specs.Theorems.Whose.{Whose}
use Rattle.dirf.specs.Theorems.Groups.{Groups}
use Rattle.dirf.specs.Theorems.Entries.{Entries}
use Rattle.dirf.specs.Theorems.Found.{Finds}
use Rattle.dirf.specs.Theorems.ThereAndBack.{WriterReadsBack, ReaderWritesBack}

pub record Demands (e : Edition) : Type 0 where
  -- demands 1 and 2: every file has an answer; accepted exactly when no line breaks a rule and the file is closed; otherwise the first
  -- breach in document 01's order is named, and the table holds the lines before it
  pub answered : Answered e
  pub only : Only e
  pub accepted_exactly : AcceptedExactly e
  pub tests_say : TestsSay e
  pub columns_hold : ColumnsHold
  pub counts : Counts e
  -- demand 2: the line writer
  pub writer_reads_back : WriterReadsBack e
  pub reader_writes_back : ReaderWritesBack e
  pub writer_columns_hold : WriterColumnsHold
  -- demand 3: good up to here
  pub good_so_far : GoodUpToHere (λ file. e)
  -- whose each line is, what stands in whose group, and which bytes of the file an entry points at
  pub whose : Whose e
  pub groups : Groups e
  pub entries : Entries e
  -- 02, A6: the search answers what reading every line answers
  pub finds : Finds e
