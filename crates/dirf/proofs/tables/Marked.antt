-- M1 to M12, proved together by computing.
use mathlib.Core.Path.{refl}
use Rattle.dirf.specs as specs
use Rattle.dirf.specs.Marked.{MarkedHold, file_of, number_found, answer}

pub marked_hold : MarkedHold
unfolding specs.Bytes.bytes_opens specs.Kinds.kinds_opens specs.Edition.edition_opens specs.Lines.lines_opens specs.Editions.editions_opens
    specs.Numbers.numbers_opens specs.Digits.digits_opens specs.Fields.fields_opens specs.Conditions.conditions_opens
    specs.Rules.rules_opens specs.Tree.tree_opens specs.Keys.keys_opens specs.Order.order_opens specs.Check.check_opens
    specs.Amounts.amounts_opens file_of number_found answer
marked_hold = refl
