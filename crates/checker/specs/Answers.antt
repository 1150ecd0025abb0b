-- The verdict as the check gives it.
use Rattle.std.specs.Prelude.{ℕ, zero, suc, ◌-◌, ◌*◌, ◌/◌, ◌<◌, ◌≡◌, false, List, ◌++◌, eqb, ltb, leb, length, get_or, set, take, drop}
use Rattle.std.specs.Prelude.{if◌then◌else◌}
use Rattle.std.proofs.lemmas.List.Edits.{sets}
use Rattle.dirf.specs.Bytes.{Text}
use Rattle.dirf.specs.Limits.{numbers_an_entry}
use Rattle.dirf.specs.Edition.{Edition, kind_of, name_of}
use Rattle.dirf.specs.Check as dirf
use Rattle.dirf.specs.Check.{Verdict, last_at, numbers_from, numbers_of, verdict}
use Rattle.dirf.specs.Theorems.Sound.{Sound}
use Rattle.kinds.specs.Kinds.{kinds}
use Rattle.layout.specs.LaidOut.{SayRows, SayBelow}
use Rattle.checker.specs.Lines.{third_kind}
use Rattle.checker.specs.State.{no_open}
use Rattle.checker.specs.declared.state.Open.{Open}
use Rattle.checker.specs.declared.Answer.{Answer}
use Rattle.checker.specs.declared.turn.Entry.{Entry}

-- number, line, field, and how many entries the table has
unfoldable pub answer_of : Verdict → Answer
answer_of v = record { number = v.number; line = v.line; field = v.field; entries = length v.table }

-- a table with numbers in front, and then what it had there
unfoldable pub with_numbers : List ℕ → List ℕ → List ℕ
with_numbers ns t = ns ++ drop (length ns) t

-- the table afterwards
unfoldable pub table_after : Verdict → List ℕ → List ℕ
table_after v t = with_numbers (numbers_of v.table) t

-- and where it may be too short for all entries: those that it holds whole
unfoldable pub numbers_in : List dirf.Entry → List ℕ → List ℕ
numbers_in es t = numbers_from (last_at es) 1 (take (length t / numbers_an_entry) es)

unfoldable pub table_within : Verdict → List ℕ → List ℕ
table_within v t = with_numbers (numbers_in v.table t) t

-- an entry of the code is one of document 01's
abbrev pub entry_of_code : Entry → dirf.Entry
entry_of_code e = record { kind = e.kind; start = e.start; length = e.len; parent = e.parent }

-- entry n of a table, from 0, if the table holds it whole
unfoldable pub put_entry : List ℕ → ℕ → List ℕ → List ℕ
put_entry t n row = if ltb n (length t / numbers_an_entry) then sets t (numbers_an_entry * n) row else t

-- the last line of the group of line n, if the table holds its entry whole
unfoldable pub put_last : List ℕ → ℕ → ℕ → List ℕ
put_last t n last = if leb n (length t / numbers_an_entry) then set t (numbers_an_entry * n - 1) last else t

-- and of the first so many open records, from the innermost of them on
unfoldable pub put_lasts : List ℕ → List Open → ℕ → ℕ → List ℕ
put_lasts t opened zero last = t
put_lasts t opened (suc i) last = put_lasts (put_last t (get_or opened i no_open).line last) opened i last

-- the lent tables say an edition, as far as a file asks them
pub record SayAll (e : Edition) (rows : List ℕ) (below : List (List ℕ)) (file : Text) : Type 0 where
  pub sound : Sound e
  -- a kind that an identifier names is one of the tables', and has that identifier
  pub small : (s : Text) → kind_of e s < kinds
  pub own : (s : Text) → eqb (kind_of e s) 0 ≡ false → name_of e (kind_of e s) ≡ s
  pub say : SayRows e rows
  pub say_below : SayBelow e (third_kind e file) below

-- the answer, and what is left in the table
pub record Judged (e : Edition) (file : Text) (room : ℕ) (before after : List ℕ) (r : Answer) : Type 0 where
  pub answer : r ≡ answer_of (verdict e file room)
  pub entries : after ≡ table_within (verdict e file room) before
