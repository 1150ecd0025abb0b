-- Two tails: behind the bytes that were scanned, and behind the two that end them.
use Rattle.fields.specs.Places.{scan_of}
use Rattle.checker.specs.Lines.{after_line}
use Rattle.checker.proofs.lines.after_line.Goals as goal

pub returns : goal.returns
unfolding after_line scan_of
returns c = simp (c.tail-2.ensures, c.tail.ensures, c.scan-l.ensures)
