-- Line 3 is no DECPF.
use mathlib.Core.Path.{sym, ◌∙◌}
use Rattle.editions.specs.Editions.{edition_says, edition_said}
use Rattle.layout.proofs.Editions.{other_table}
use Rattle.checker.specs.Answers.{SayAll}
use Rattle.checker.proofs.Editions.{say_all}
use Rattle.checker.proofs.walk_pj.Goals as goal

pub walk-requires : goal.walk-requires
walk-requires c =
    let all : let a = c.args in SayAll (edition_said a.e) c.row_table.result c.pj_table.result a.file.now = let n =
    edition_says c.args.e in
    say_all n _ c.row_table.ensures (c.pj_table.ensures ∙ sym (other_table n _ c.requires)) in
    all

pub returns : goal.returns
returns c = record { judged = c.walk.ensures.judged; totals = c.walk.ensures.totals }
