-- One line over the state, with the edition and the lent tables, part by part in document 01's order.
use Rattle.std.specs.Prelude.{ℕ, ◌+◌, ◌≤◌, ◌<◌, not, Result, Ok, Err, List, eqb, leb, length, get_or, drop, if◌then◌else◌}
use Rattle.dirf.specs.Bytes.{Text, ends_with}
use Rattle.dirf.specs.Limits.{bar, line_limit, lines_limit}
use Rattle.dirf.specs.Edition.{Edition, kind_of}
use Rattle.dirf.specs.Lines.{clean}
use Rattle.dirf.specs.FieldReader.{field_of}
use Rattle.dirf.specs.Rules.{Found, keeps, breaks, given, or_else}
use Rattle.dirf.specs.Theorems.Belongs.{deepest}
use Rattle.fields.specs.Places.{part_of, no_place, places_of, cell_at, cells_at}
use Rattle.fields.specs.declared.Places.{Places}
use Rattle.kinds.specs.Kinds.{kinds}
use Rattle.layout.specs.Tables.{count_in, rows_in}
use Rattle.rules.specs.Findings.{contents_found}
use Rattle.refusals.specs.declared.Breach.{Breach}
use Rattle.refusals.specs.Numbers.{number_for}
use Rattle.checker.specs.Lines.{number_at}
use Rattle.checker.specs.State.{above, held_at, place_found, look_found, Safe}
use Rattle.checker.specs.declared.Answer.{Answer}
use Rattle.checker.specs.declared.state.Last.{Last}
use Rattle.checker.specs.declared.state.State.{State}
use Rattle.checker.specs.declared.turn.Entry.{Entry}
use Rattle.checker.specs.declared.turn.Record.{Record}
use Rattle.checker.specs.declared.turn.Tables.{Tables}
use Rattle.editions.specs.Editions.{edition_said}

-- what a record that is read needs of the state
pub record Fits (st : State) (r : Record) : Type 0 where
  pub kind : r.kind < kinds
  pub outer : r.outer ≤ deepest
  pub short : r.len ≤ line_limit
  pub safe : Safe st

-- a refusal after so many lines
abbrev pub refused_at : ℕ → ℕ → ℕ → Answer
refused_at count number f = record { number = number; line = count + 1; field = f; entries = count }

-- a turn stops with an answer, or has read a record that keeps every rule but 21, 20 and 7
abbrev pub Stepped : Type 0
Stepped = Result Record Answer

abbrev pub halt : State → ℕ → ℕ → Stepped
halt st number f = Err (refused_at st.count number f)

-- what a step of a turn comes to, after the lines that the state has
abbrev pub stepped : State → Result Record Breach → Stepped
stepped st (Ok r) = Ok r
stepped st (Err b) = halt st (number_for b.refusal) b.field

-- what is found stops the turn
unfoldable pub found_step : State → Found → Stepped → Stepped
found_step st keeps s = s
found_step st (breaks n f) s = halt st n f

-- 21 and 20
unfoldable pub looked_found : Text → State → Record → Last → Found
looked_found file st r last =
    let line = part_of file st.at r.len in
    look_found file last r.kind (above st.path.opened r.outer).line
    (part_of line r.second.start r.second.len) (part_of line r.third.start r.third.len)

-- the entry of a record that is taken
unfoldable pub entry_of : State → Record → Entry
entry_of st r = record { kind = r.kind; start = st.at; len = r.len; parent = (above st.path.opened r.outer).line }

-- 11, then 13 to 19 and 26; the kind was found by field 1, so that is its identifier
unfoldable pub filled_found : List ℕ → Text → Places → ℕ → Found
filled_found rows line p k =
    or_else (given 11 0 (not (eqb p.count (count_in rows k)))) (contents_found k (cell_at line p 0) (rows_in rows k) (cells_at line p))

-- 9, 10 and 12, then those
unfoldable pub read_step : List ℕ → Text → State → Places → Record → Stepped
read_step rows line st p r =
    found_step st (place_found st r.kind r.outer) (found_step st (filled_found rows line p r.kind) (Ok r))

-- a line as a record: its kind by its identifier, and its place by its kind
unfoldable pub record_of : Edition → List (List ℕ) → Text → State → Places → Record
record_of e below line st p =
    let k = kind_of e (field_of 1 line) in
    record {
      kind = k;
      outer = held_at below st k;
      len = length line;
      second = get_or p.first 1 no_place;
      third = get_or p.first 2 no_place;
    }

-- 8
unfoldable pub record_step : Edition → List ℕ → List (List ℕ) → Text → State → Places → Stepped
record_step e rows below line st p =
    if ends_with bar line then read_step rows line st p (record_of e below line st p) else halt st 8 0

-- 4, 5 and 6
unfoldable pub line_step : Edition → List ℕ → List (List ℕ) → Text → State → Stepped
line_step e rows below file st =
    let s = drop st.at file in
    if eqb (number_at s) 0 then record_step e rows below (part_of s 0 (length (clean s))) st (places_of (clean s))
    else halt st (number_at s) 0

-- the end, 1, 2 and 3
unfoldable pub turn_of : Edition → List ℕ → List (List ℕ) → Text → State → Stepped
turn_of e rows below file st =
    if leb (length file) st.at
    then (if st.done then Err (record { number = 0; line = st.count; field = 0; entries = st.count }) else halt st 1 0)
    else (if st.done then halt st 2 0
    else (if leb lines_limit st.count then halt st 3 0
    else line_step e rows below file st))

-- with the edition and the tables that are lent
abbrev pub by_tables {ℓ} : {A : Type ℓ} → (Edition → List ℕ → List (List ℕ) → A) → Tables → A
by_tables f t = f (edition_said t.edition) t.rows.now t.below.now
