-- An entry that the table does not hold whole is not written.
use native.Mathlib.Omega.{arith}
use borrow.Author.Tests.{lt-ltb, le-ltb}
use Rattle.checker.specs.Answers.{put_entry}
use Rattle.checker.proofs.put_entry.Goals as goal

pub put_numbers-requires : goal.put_numbers-requires
unfolding put_entry
put_numbers-requires c = omega (arith, c.requires.1)

pub returns-then-n-table : goal.returns-then-n-table
unfolding put_entry
returns-then-n-table c = simp (c.put_numbers.ensures, lt-ltb _ _ c.if-n-table.true)

pub returns-else-n-table : goal.returns-else-n-table
unfolding put_entry
returns-else-n-table c = simp (le-ltb _ _ c.if-n-table.false)
