-- To compute with the definitions that one function answers, for the search of its proof.
use Rattle.dirf.specs.Bytes.{bytes_opens}
use Rattle.dirf.specs.Kinds.{kinds_opens}
use Rattle.dirf.specs.Keys.{key_fields}

-- whether a list of kinds has one
unfoldable pub listed_opens : Unit {0}
unfolding bytes_opens kinds_opens
listed_opens = tt

unfoldable pub count_opens : Unit {0}
unfolding key_fields listed_opens
count_opens = tt
