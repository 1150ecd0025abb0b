-- What the writers answer.
use Rattle.std.specs.Prelude.{ℕ, ◌+◌, not, Result, Ok, Err, eqb, ltb, length, if◌then◌else◌}
use Rattle.dirf.specs.Rules.{Found, given, or_else}
use Rattle.dirf.specs.Written.{Written}
use Rattle.dirf.specs.LineWriter.{sum}
use Rattle.fields.specs.Places.{cells_at, places_along}
use Rattle.layout.specs.Tables.{name_in, base_in, count_in, rows_in}
use Rattle.refusals.specs.declared.Refusal.{Refusal}
use Rattle.refusals.specs.declared.Breach.{Breach}
use Rattle.refusals.specs.Numbers.{number_for}
use Rattle.rules.specs.Findings.{contents_found}
use Rattle.writer.specs.declared.Asked.{Asked}

-- 01: "They give the number and the count of bytes written, 0 on refusal"; the line writer names a field too
pub record Answered : Type 0 where
  pub number : ℕ
  pub field : ℕ
  pub count : ℕ

unfoldable pub answered : Written → Answered
answered w = record { number = w.number; field = w.field; count = length w.bytes }

abbrev pub number_answered : Result ℕ Refusal → Answered
number_answered (Ok n) = record { number = 0; field = 0; count = n }
number_answered (Err r) = record { number = number_for r; field = 0; count = 0 }

abbrev pub line_answered : Result ℕ Breach → Answered
line_answered (Ok n) = record { number = 0; field = 0; count = n }
line_answered (Err b) = record { number = number_for b.refusal; field = b.field; count = 0 }

-- by the lent tables of identifiers and rows: 22, 11 or 23, and 0 where none is given
unfoldable pub misfit_of : Asked → ℕ
misfit_of a =
    if not (base_in a.names.now a.kind) then 22
    else (if not (eqb (length a.lengths.now) (count_in a.rows.now a.kind)) then 11
    else (if not (eqb (sum a.lengths.now) (length a.contents.now)) then 23
    else 0))

-- 13 to 18 and 26 by field, then 19, of what stands along the lengths
unfoldable pub contents_along : Asked → Found
contents_along a =
    contents_found a.kind (name_in a.names.now a.kind) (rows_in a.rows.now a.kind)
    (cells_at a.contents.now (places_along a.lengths.now))

-- all of these, then 24: no room for the contents, a bar a field and CR LF
unfoldable pub refusal_of : Asked → ℕ → Found
refusal_of a room =
    let n = misfit_of a in
    or_else (given n 0 (not (eqb n 0)))
    (or_else (contents_along a) (given 24 0 (ltb room (length a.contents.now + length a.lengths.now + 2))))
