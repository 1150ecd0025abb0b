-- The fifth number of an entry that the table does not hold whole is not written.
use native.Mathlib.Omega.{arith}
use borrow.Author.Tests.{le-leb, lt-leb}
use Rattle.checker.specs.Answers.{put_last}
use Rattle.checker.proofs.put_last.Goals as goal

pub overflow_mul-table : goal.overflow_mul-table
unfolding put_last
overflow_mul-table c = omega (arith, c.requires)

pub offset_bounds-table-n : goal.offset_bounds-table-n
unfolding put_last
offset_bounds-table-n c = omega (arith, c.requires)

pub returns-then-n-table : goal.returns-then-n-table
unfolding put_last
returns-then-n-table c = simp (le-leb _ _ c.if-n-table.true)

pub returns-else-n-table : goal.returns-else-n-table
unfolding put_last
returns-else-n-table c = simp (lt-leb _ _ c.if-n-table.false)
