-- The row is copied in as a whole.
use Prim.Native.Nat.{◌+◌, ◌-◌}
use mathlib.Core.Path.{◌≡◌}
use native.Mathlib.Omega.{arith}
use lib.ListN.{length}
use Rattle.fields.proofs.Copies.{copied}
use Rattle.checker.proofs.put_numbers.Goals as goal

pub returns : goal.returns
returns c =
    let a = c.args in
    let n : a.i + length a.row.now - a.i ≡ length a.row.now = omega arith in
    rw c.copy_from_slice.ensures.after (copied a.table.now a.row.now a.i _ n c.requires)
