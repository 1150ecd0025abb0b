-- The identifier of what stands behind two lines.
use mathlib.Core.Path.{◌≡◌}
use Rattle.fields.specs.Places.{part_of, scan_of}
use Rattle.dirf.specs.Bytes.{Text}
use Rattle.dirf.specs.Lines.{clean}
use Rattle.checker.specs.Lines.{third_kind}
use Rattle.checker.proofs.lines.NextLine.{line_is}
use Rattle.identifiers.proofs.Found.{found_number}
use Rattle.checker.proofs.third_kind.Goals as goal

line : (s : Text) → part_of s 0 (scan_of s).len ≡ clean s
unfolding scan_of
line s = line_is s 0

pub returns : goal.returns
unfolding third_kind
returns c =
    simp (
      c.unwrap_or.ensures,
      c.kind_of.ensures,
      found_number,
      c.field.ensures.0,
      c.part.ensures.0,
      c.scan-l.ensures,
      line,
      c.after_line-s.ensures,
      c.after_line.ensures,
    )
