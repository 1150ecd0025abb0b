-- The rules that look back, asked of the state, and the state after a record. These are the code's own steps; that they are document
-- 01's rules is proved of what the state sums up.
use Rattle.std.specs.Prelude.{ℕ, zero, suc, ◌+◌, ◌*◌, ◌≤◌, ◌<◌, Bool, true, false, ◌&&◌, ◌||◌, not, List, [], eqb, ltb, length, get_or}
use Rattle.std.specs.Prelude.{set, replicate, if◌then◌else◌}
use Rattle.dirf.specs.Bytes.{Text, is_in}
use Rattle.dirf.specs.Limits.{line_limit, lines_limit}
use Rattle.dirf.specs.Kinds.{FIMDirf, is_later, opens_nothing, stands_once}
use Rattle.dirf.specs.Lines.{fields}
use Rattle.dirf.specs.Rules.{Found, given, or_else}
use Rattle.dirf.specs.Tree.{opening, may_follow}
use Rattle.dirf.specs.Keys.{has_key, key_of, key_less}
use Rattle.dirf.specs.Theorems.Belongs.{deepest}
use Rattle.fields.specs.Places.{part_of, key_parts}
use Rattle.kinds.specs.Kinds.{kinds}
use Rattle.layout.specs.Tables.{holds_in}
use Rattle.checker.specs.declared.state.Open.{Open}
use Rattle.checker.specs.declared.state.Path.{Path}
use Rattle.checker.specs.declared.state.Last.{Last}
use Rattle.checker.specs.declared.state.State.{State}

-- no record
abbrev pub no_open : Open
no_open = record { line = 0; kind = 0 }

unfoldable pub start_state : State
start_state =
    record {
      count = 0;
      at = 0;
      done = false;
      declarant = 0;
      path = record { depth = 0; opened = replicate deepest no_open };
    }

-- what is remembered of each kind
abbrev pub Past : Type 0
Past = List Last

-- no record of a kind was read
abbrev pub no_last : Last
no_last = record { under = 0; start = 0; len = 0 }

unfoldable pub start_past : Past
start_past = replicate kinds no_last

unfoldable pub last_in : Past → ℕ → Last
last_in past k = get_or past k no_last

-- what open record i belongs to
unfoldable pub above : List Open → ℕ → Open
above opened zero = no_open
above opened (suc i) = get_or opened i no_open

-- of the first i open records, how many stay open for a record of kind k: those down to the innermost that may hold it
unfoldable pub held_in : List (List ℕ) → ℕ → List Open → ℕ → ℕ → ℕ
held_in below d opened k zero = 0
held_in below d opened k (suc i) =
    if holds_in below d (get_or opened i no_open).kind (above opened i).kind k then suc i else held_in below d opened k i

-- the opening lines belong to nothing
unfoldable pub held_at : List (List ℕ) → State → ℕ → ℕ
held_at below st k = if ltb st.count (length opening) then 0 else held_in below st.declarant st.path.opened k st.path.depth

-- not before the one that opened last there
unfoldable pub order_at : Path → ℕ → ℕ → Bool
order_at p k d = if ltb d p.depth then may_follow (get_or p.opened d no_open).kind k else true

-- from line 4 on
unfoldable pub below_on : Path → ℕ → ℕ → Bool
below_on p k d = eqb k FIMDirf || ltb 0 d && order_at p k d

unfoldable pub stands_on : State → ℕ → ℕ → Bool
stands_on st k d = if ltb st.count (length opening) then is_in k (get_or opening st.count []) else below_on st.path k d

-- 9, 10 and 12
unfoldable pub place_found : State → ℕ → ℕ → Found
place_found st k d = or_else (given 9 1 (eqb k 0)) (or_else (given 10 1 (is_later k)) (given 12 1 (not (stands_on st k d))))

-- it stood under line p last
unfoldable pub stood_on : Last → ℕ → Bool
stood_on last p = eqb last.under p

-- 21
unfoldable pub repeated_on : Last → ℕ → ℕ → Bool
repeated_on last k p = stands_once k && stood_on last p

-- its line, out of the text that it stands in
unfoldable pub last_line : Text → Last → Text
last_line text last = part_of text last.start last.len

-- 20, of a record with these fields 2 and 3
unfoldable pub key_on : Text → Last → ℕ → ℕ → Text → Text → Bool
key_on text last k p second third =
    has_key k && (stood_on last p && not (key_less (key_of k (fields (last_line text last))) (key_parts k second third)))

unfoldable pub look_found : Text → Last → ℕ → ℕ → Text → Text → Found
look_found text last k p second third = or_else (given 21 1 (repeated_on last k p)) (given 20 2 (key_on text last k p second third))

unfoldable pub declarant_of : State → ℕ → ℕ
declarant_of st k = if eqb st.count 2 then k else st.declarant

-- the open records after record n, which has d of them outside it
unfoldable pub path_after : Path → ℕ → ℕ → ℕ → Path
path_after p k d n =
    if opens_nothing k then record { depth = d; opened = p.opened }
    else record { depth = d + 1; opened = set p.opened d (record { line = n; kind = k }) }

unfoldable pub past_after : Past → ℕ → ℕ → ℕ → ℕ → Past
past_after p k parent start len = set p k (record { under = parent; start = start; len = len })

-- after a line of so many bytes that was taken
unfoldable pub state_after : State → ℕ → ℕ → ℕ → State
state_after st k d len =
    record {
      count = st.count + 1;
      at = st.at + len + 2;
      done = eqb k FIMDirf;
      declarant = declarant_of st k;
      path = path_after st.path k d (st.count + 1);
    }

-- the longest line with its end
abbrev pub line_bytes : ℕ
line_bytes = line_limit + 2

-- what every state keeps, so that its numbers fit
pub record Near (st : State) : Type 0 where
  pub few : st.count ≤ lines_limit
  pub near : st.at ≤ line_bytes * st.count
  pub shallow : st.path.depth ≤ deepest

-- and where one more line may be read
pub record Safe (st : State) : Type 0 where
  pub fewer : st.count < lines_limit
  pub near : Near st
