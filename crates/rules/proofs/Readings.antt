-- What a number reads as, by what the rules of its row find.
use mathlib.Core.Path.{◌≡◌}
use native.Mathlib.Omega.{arith}
use Rattle.dirf.specs.Bytes.{Text, bytes_opens}
use Rattle.dirf.specs.Rules.{Found, keeps, breaks}
use Rattle.dirf.specs.Amounts.{read_as, read_amount, read_months}
use Rattle.layout.specs.Tables.{format_of, fill_of, need_of, holds_of, row_of}
use Rattle.layout.specs.Codes.{row_said}
use Rattle.refusals.specs.declared.Refusal.{Refusal}
use Rattle.refusals.specs.Numbers.{number_for}
use Rattle.refusals.proofs.Numbers.{at_least_1}
use Rattle.rules.specs.Findings.{number_of}

pub refused : (x : Found) (s : Text) (r : Refusal) → number_for r ≡ number_of x → record { number = number_for r; value = 0 } ≡ read_as x s
unfolding number_of read_as
refused keeps s r e = absurd (omega (arith, at_least_1 r))
refused (breaks n f) s r e = rw e

-- to compute what the rows of amounts and month counts say
unfoldable pub rows_open : Unit {0}
unfolding bytes_opens format_of fill_of need_of holds_of row_of row_said read_amount read_months
rows_open = tt
