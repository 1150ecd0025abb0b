-- Lines: a file cut at its line ends, and a line cut at its bars.
use Rattle.std.specs.Prelude.{ℕ, Bool, true, false, ◌&&◌, ◌||◌, List, [], ◌∷◌, eqb, get_or, if◌then◌else◌}
use Rattle.dirf.specs.Bytes.{Text}
use Rattle.dirf.specs.Limits.{bar, CR, LF}

-- A piece of a file: what stands before a CR LF, or, if it has no such end, what stands after the last one.
pub record Piece : Type 0 where
  pub body : Text
  pub ended : Bool

unfoldable pub push : ℕ → List Piece → List Piece
push b [] = record { body = b ∷ []; ended = false } ∷ []
push b (p ∷ ps) = record { body = b ∷ p.body; ended = p.ended } ∷ ps

-- A file is cut at each CR LF, once. Every rule looks at one piece and at the records before it, never further.
unfoldable pub pieces : Text → List Piece
pieces [] = []
pieces (b ∷ []) = push b []
pieces (b ∷ c ∷ s) = if eqb b CR && eqb c LF then record { body = []; ended = true } ∷ pieces s else push b (pieces (c ∷ s))

unfoldable pub is_line_end : ℕ → Bool
is_line_end b = eqb b CR || eqb b LF

-- 01, number 4: the bytes "before a CR, LF or the end", and the bytes from there on
unfoldable pub clean : Text → Text
clean [] = []
clean (b ∷ s) = if is_line_end b then [] else b ∷ clean s

unfoldable pub unclean : Text → Text
unclean [] = []
unclean (b ∷ s) = if is_line_end b then b ∷ s else unclean s

-- 01, "Lines and limits": "Every field, the last included, ends with byte 124, the bar", and "The field reader": "bytes after the
-- last bar are no field". So a line has as many fields as bars.
unfoldable pub more : ℕ → List Text → List Text
more b [] = []
more b (c ∷ cs) = (b ∷ c) ∷ cs

unfoldable pub fields : Text → List Text
fields [] = []
fields (b ∷ s) = if eqb b bar then [] ∷ fields s else more b (fields s)

-- 01, "The field reader": "Fields count from 1, the first begins where the line begins"
unfoldable pub field : ℕ → List Text → Text
field k cs = get_or ([] ∷ cs) k []

-- to compute with this file: `unfolding lines_opens`
unfoldable pub lines_opens : Unit {0}
unfolding push pieces is_line_end clean unclean more fields field
lines_opens = tt
