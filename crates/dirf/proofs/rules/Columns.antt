-- The rule lists have the numbers and fields of document 01's table, in its order. Proved by computing.
use mathlib.Core.Path.{refl}
use Rattle.dirf.specs as specs
use Rattle.dirf.specs.Columns.{ColumnsHold, WriterColumnsHold, columns_of, columns}

pub columns_hold : ColumnsHold
unfolding specs.Fields.fields_opens specs.Conditions.conditions_opens specs.Order.order_opens specs.Check.check_opens columns_of columns
columns_hold = refl

pub writer_columns_hold : WriterColumnsHold
unfolding specs.Fields.fields_opens specs.Conditions.conditions_opens specs.LineWriter.writer_opens columns_of columns
writer_columns_hold = refl
