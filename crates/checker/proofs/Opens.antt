-- To compute with the definitions that one function answers, for the search of its proof.
use Rattle.dirf.specs.Bytes.{bytes_opens}
use Rattle.dirf.specs.Kinds.{kinds_opens}
use Rattle.dirf.specs.Rules.{given, or_else}
use Rattle.dirf.specs.Tree.{opening, may_follow}
use Rattle.dirf.specs.Keys.{has_key}
use Rattle.fields.specs.Places.{cell_at}
use Rattle.checker.specs.State.{above, order_at, stands_on, place_found, repeated_on, stood_on, last_line, key_on}
use Rattle.checker.specs.Turn.{filled_found}

unfoldable pub order_opens : Unit {0}
unfolding order_at above may_follow kinds_opens bytes_opens
order_opens = tt

unfoldable pub stands_opens : Unit {0}
unfolding stands_on opening bytes_opens
stands_opens = tt

unfoldable pub place_opens : Unit {0}
unfolding place_found given or_else
place_opens = tt

unfoldable pub repeated_opens : Unit {0}
unfolding repeated_on stood_on
repeated_opens = tt

unfoldable pub key_opens : Unit {0}
unfolding key_on stood_on last_line has_key
key_opens = tt

unfoldable pub fill_opens : Unit {0}
unfolding filled_found cell_at given or_else
fill_opens = tt
