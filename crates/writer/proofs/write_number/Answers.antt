-- The two refusals in their order; else the digits.
use native.Mathlib.Omega.{arith}
use lib.ListN.{length}
use Rattle.dirf.specs.Written.{output_after}
use Rattle.writer.specs.Answers.{answered}
use Rattle.writer.proofs.Digits.{within, over_limit, no_room_lem, fits}
use Rattle.writer.proofs.write_number.Goals as goal

pub returns-then-limit-v : goal.returns-then-limit-v
unfolding answered output_after
returns-then-limit-v c =
    let a = c.args in
    let e = over_limit a.size a.v (length a.out.now) (omega arith) in
    record { said = rw e; output = rw e }

pub returns-then-out-n : goal.returns-then-out-n
unfolding answered output_after
returns-then-out-n c =
    let a = c.args in
    let h = within a.size a.v (length a.out.now) (omega arith) (omega arith) in
    let e = no_room_lem a.size a.v (length a.out.now) (omega arith) (rw h (omega arith)) in
    record { said = rw e; output = rw e }

pub returns : goal.returns
unfolding answered output_after
returns c =
    let a = c.args in
    let n = c.count_digits-n.ensures in
    let h = within a.size a.v (length a.out.now) (omega arith) (omega arith) in
    let e = fits a.size a.v (length a.out.now) (omega arith) (rw h (omega arith)) in
    record { said = rw (e, h, n); output = rw (e, h, ← n) c.put_digits.ensures }
