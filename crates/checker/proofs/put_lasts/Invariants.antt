-- From the innermost record above outwards: what is left are those further out.
use Rattle.std.proofs.Common.{◌≡◌}
use Rattle.checker.specs.Answers.{put_lasts}
use Rattle.checker.proofs.put_lasts.Given as goal

abbrev pub invariant-loop-i : goal.invariant-loop-i
invariant-loop-i l = put_lasts l.initial.table l.opened l.outer l.own ≡ put_lasts l.table l.opened l.i l.own
