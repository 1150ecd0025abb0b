-- The field is copied in, and the bar set behind it.
use Prim.Native.Nat.{◌+◌, ◌-◌}
use mathlib.Core.Path.{◌≡◌, refl}
use lib.ListN.{length}
use native.Mathlib.Omega.{arith}
use Rattle.writer.proofs.Stores.{field_stored}
use Rattle.writer.proofs.put_field.Goals as goal

pub returns : goal.returns
returns c =
    let a = c.args in
    let n : a.at + length a.field.now - a.at ≡ length a.field.now = omega arith in
    (refl, rw c.copy_from_slice.ensures.after (field_stored a.field.now a.out.now a.at _ n c.requires))
