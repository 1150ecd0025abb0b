use mathlib.Core.Path.{sym, ◌∙◌}
use Rattle.dirf.specs.Lines.{field}
use Rattle.dirf.specs.Conditions.{lawyers, person, firm, nobody}
use Rattle.dirf.proofs.tests.Lists.{listed}
use Rattle.fields.specs.Places.{cells_of}
use Rattle.conditions.proofs.Lawyers.{kind_means, no_lawyers_kind}
use Rattle.conditions.proofs.lawyer_condition.Goals as goal

pub returns-then-says : goal.returns-then-says
unfolding field lawyers
returns-then-says c = kind_means (cells_of c.args.cells) person (search listed) c.says.ensures c.if-says.true
    c.lawyers_field.ensures

pub returns-then-says-2 : goal.returns-then-says-2
unfolding field lawyers
returns-then-says-2 c = kind_means (cells_of c.args.cells) firm (search listed) c.says-2.ensures
    c.if-says-2.true c.lawyers_field-then-says-2.ensures

pub returns-then-says-3 : goal.returns-then-says-3
unfolding field lawyers
returns-then-says-3 c = kind_means (cells_of c.args.cells) nobody (search listed) c.says-3.ensures
    c.if-says-3.true c.lawyers_field-then-says-3.ensures

pub returns : goal.returns
unfolding field lawyers
returns c =
    sym
    (no_lawyers_kind _ (sym c.says.ensures ∙ c.if-says.false) (sym c.says-2.ensures ∙ c.if-says-2.false)
    (sym c.says-3.ensures ∙ c.if-says-3.false))
