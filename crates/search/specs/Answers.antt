-- The answer as the search gives it, and an entry as it reads it.
use Rattle.std.specs.Prelude.{ℕ, ◌≡◌, Bool, true, false, List, Result, Ok, Err, MatchResult, IfErr}
use Rattle.dirf.specs.Bytes.{Text}
use Rattle.dirf.specs.FieldReader.{field_of}
use Rattle.dirf.specs.Search.{Searched, kind_in, start_in, length_in, last_in}
use Rattle.fields.specs.Places.{part_of}
use Rattle.refusals.specs.declared.Refusal.{Refusal}
use Rattle.refusals.specs.declared.Refusal.TheVariants as refusal
use Rattle.refusals.specs.Numbers.{number_for}
use Rattle.search.specs.declared.Entry.{Entry}
use Rattle.search.specs.declared.Found.{Found}

-- the number, the line and the count of an answer: a refusal has line and count 0
abbrev pub said : Result Found Refusal → Searched
said (Ok f) = record { number = 0; line = f.line; count = f.count }
said (Err r) = record { number = number_for r; line = 0; count = 0 }

-- it is refused for one reason alone
abbrev pub IsNoWay : Result Found Refusal → Type 0
IsNoWay r = IfErr r (λ e. e ≡ refusal.NoWay)

-- the entry of line n of a table
unfoldable pub entry_in : List ℕ → ℕ → Entry
entry_in t n = record { kind = kind_in t n; start = start_in t n; len = length_in t n; last = last_in t n }

-- an entry where a test passes, and no way where it doesn't
abbrev pub EntryIf : Bool → Entry → Result Entry Refusal → Type 0
EntryIf test x r = MatchResult r (λ e. (test ≡ true) × (e ≡ x)) (λ r. (test ≡ false) × (r ≡ refusal.NoWay))

-- field 2 of the line of an entry
unfoldable pub key_on : Text → Entry → Text
key_on file e = field_of 2 (part_of file e.start e.len)
