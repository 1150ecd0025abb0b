-- Line 3 is a DECPF.
use mathlib.Core.Path.{sym, ap, ◌∙◌}
use Rattle.layout.specs.Tables.{below_table}
use Rattle.editions.specs.Editions.{edition_says, edition_said}
use Rattle.checker.specs.Answers.{SayAll}
use Rattle.checker.proofs.Editions.{say_all}
use Rattle.checker.proofs.walk_pf.Goals as goal

pub walk-requires : goal.walk-requires
walk-requires c =
    let all : let a = c.args in SayAll (edition_said a.e) c.row_table.result c.pf_table.result a.file.now = let n =
    edition_says c.args.e in
    say_all n _ c.row_table.ensures (c.pf_table.ensures ∙ ap (below_table _) (sym c.requires)) in
    all

pub returns : goal.returns
returns c = record { judged = c.walk.ensures.judged; totals = c.walk.ensures.totals }
