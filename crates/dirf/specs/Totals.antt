-- Totals by kind of value record, in centavos. 02, A7: "Before transmitting, the pay office compares our totals with the ledger."
use Rattle.std.specs.Prelude.{ℕ, ◌+◌, Bool, true, false, ◌&&◌, List, [], ◌∷◌, map, eqb, length, take, if◌then◌else◌}
use Rattle.dirf.specs.Bytes.{Text}
use Rattle.dirf.specs.Kinds.{is_value}
use Rattle.dirf.specs.Row.{Row, Holds, identifier, amount, months, ddd, telephone, cpf, cnpj, cpf_or_cnpj, plain, one_of}
use Rattle.dirf.specs.Edition.{Edition, rows_of}
use Rattle.dirf.specs.Editions.{edition_of}
use Rattle.dirf.specs.Lines.{pieces, fields}
use Rattle.dirf.specs.Order.{kind_of_line}
use Rattle.dirf.specs.Check.{Verdict, verdict}
use Rattle.dirf.specs.Amounts.{read_amount}

-- 02, A7: "Month counts are not money and enter no total."
unfoldable pub is_amount : Holds → Bool
is_amount identifier = false
is_amount amount = true
is_amount months = false
is_amount ddd = false
is_amount telephone = false
is_amount cpf = false
is_amount cnpj = false
is_amount cpf_or_cnpj = false
is_amount plain = false
is_amount (one_of vs) = false

-- the amounts of a record: of each field that its row calls an amount, the value that the amount reader gives
unfoldable pub amounts_in : List Row → List Text → ℕ
amounts_in [] cs = 0
amounts_in (r ∷ rs) [] = 0
amounts_in (r ∷ rs) (c ∷ cs) = (if is_amount r.holds then (read_amount c).value else 0) + amounts_in rs cs

-- what a line adds to the total of kind k: "one total in centavos for each kind of value record"
unfoldable pub added : Edition → ℕ → Text → ℕ
added e k line = if is_value k && eqb (kind_of_line e line) k then amounts_in (rows_of e k) (fields line) else 0

-- "equal to the sum over all lines read so far"
unfoldable pub total : Edition → ℕ → List Text → ℕ
total e k [] = 0
total e k (l ∷ ls) = added e k l + total e k ls

-- the lines read: as many of the file's as the table has entries
unfoldable pub lines_read : Text → Verdict → List Text
lines_read file v = take (length v.table) (map (λ p. p.body) (pieces file))

-- "A refused file leaves the totals of the lines before the bad one."
unfoldable pub total_by : Edition → Text → ℕ → ℕ → ℕ
total_by e file room k = total e k (lines_read file (verdict e file room))

-- a file's own edition has the rows
unfoldable pub total_of : Text → ℕ → ℕ → ℕ
total_of file room k = total_by (edition_of file) file room k
