-- Demand 3: "Take a file that ends after a whole line, or is empty, with at most 65,532 line ends and table room for four records more
-- than it has line ends. Then either it can still become an accepted file, and at most four further lines do it, or it is refused and
-- nothing written after it changes the number, the line, the field or the table. The first happens exactly when the answer is
-- acceptance or 'file not closed'."
use Rattle.std.specs.Prelude.{ℕ, suc, ◌+◌, ◌≤◌, ◌≡◌, ◌&&◌, [], ◌∷◌, ◌++◌, eqb, if◌then◌else◌}
use Rattle.dirf.specs.Bytes.{Text}
use Rattle.dirf.specs.Edition.{Edition}
use Rattle.dirf.specs.Check.{verdict}
use Rattle.dirf.specs.Theorems.Answered.{Accepted}

-- "a file that ends after a whole line, or is empty", at its widest: the last two bytes are CR LF
pub data Whole : Text → Type 0 where
  empty : Whole []
  ends_in_CR_LF : (s : Text) → Whole (s ++ (13 ∷ 10 ∷ []))

-- how many CR LF pairs a file has
unfoldable pub line_ends : Text → ℕ
line_ends [] = 0
line_ends (b ∷ []) = 0
line_ends (b ∷ c ∷ s) = if eqb b 13 && eqb c 10 then suc (line_ends s) else line_ends (c ∷ s)

-- "with at most 65,532 line ends and table room for four records more than it has line ends"
pub record Unfinished (s : Text) (room : ℕ) : Type 0 where
  pub whole : Whole s
  pub few : line_ends s ≤ 65532
  pub roomy : line_ends s + 4 ≤ room

-- Stated once: `by` says by which edition a file is judged, always by the same one, or by the one that its line 1 picks.

-- "it can still become an accepted file, and at most four further lines do it"
abbrev pub CanBecomeAccepted : (Text → Edition) → Text → ℕ → Type 0
CanBecomeAccepted by s room = (t : Text) × Whole t × (line_ends t ≤ 4) × Accepted (by (s ++ t)) (s ++ t) room

pub record GoodSoFar (by : Text → Edition) (s : Text) (room : ℕ) : Type 0 where
  -- "The first happens exactly when the answer is acceptance", 0, "or 'file not closed'", 1: then four lines do it,
  pub can : (verdict (by s) s room).number ≤ 1 → CanBecomeAccepted by s room
  -- and whatever makes it accepted, four lines or any other text, the answer was one of the two
  pub only_then : (t : Text) → Accepted (by (s ++ t)) (s ++ t) room → (verdict (by s) s room).number ≤ 1
  -- "or it is refused and nothing written after it changes the number, the line, the field or the table"
  pub final : ((verdict (by s) s room).number ≤ 1 → ⊥) → (t : Text) → verdict (by (s ++ t)) (s ++ t) room ≡ verdict (by s) s room

abbrev pub GoodUpToHere : (Text → Edition) → Type 0
GoodUpToHere by = (s : Text) (room : ℕ) → Unfinished s room → GoodSoFar by s room
