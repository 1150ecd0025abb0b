-- To compute with the definitions that one function answers, for the search of its proof.
use Rattle.dirf.specs.Bytes.{bytes_opens}
use Rattle.dirf.specs.Fields.{right_byte, fills_to, size_held, takes_no_zero, dated}
use Rattle.layout.specs.Tables.{fill_of, format_of, holds_of}
use Rattle.rules.specs.Findings.{only_byte, letter_of}

unfoldable pub format_opens : Unit {0}
unfolding right_byte dated format_of bytes_opens
format_opens = tt

unfoldable pub size_opens : Unit {0}
unfolding fills_to fill_of
size_opens = tt

unfoldable pub holds_opens : Unit {0}
unfolding size_held takes_no_zero holds_of bytes_opens
holds_opens = tt

unfoldable pub printed_opens : Unit {0}
unfolding only_byte letter_of bytes_opens
printed_opens = tt
