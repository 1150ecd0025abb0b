-- The line writer: a kind and the contents of its fields, written as a line.
use Rattle.std.specs.Prelude.{ℕ, ◌+◌, Bool, not, List, [], ◌∷◌, ◌++◌, eqb, ltb, length, take, drop}
use Rattle.dirf.specs.Bytes.{Text}
use Rattle.dirf.specs.Limits.{bar, line_end}
use Rattle.dirf.specs.Edition.{Edition, is_base}
use Rattle.dirf.specs.Rules.{Contents, Rule, gives, asked_of, over, first}
use Rattle.dirf.specs.Order.{contents_of, field_count, contents}
use Rattle.dirf.specs.Written.{Written, writes}

-- "the contents of all fields one after another, their lengths": the contents, field by field
unfoldable pub cut : List ℕ → Text → List Text
cut [] s = []
cut (n ∷ ns) s = take n s ∷ cut ns (drop n s)

unfoldable pub sum : List ℕ → ℕ
sum [] = 0
sum (n ∷ ns) = n + sum ns

-- each field with its bar
unfoldable pub joined : List Text → Text
joined [] = []
joined (c ∷ cs) = c ++ (bar ∷ joined cs)

-- "It writes the line with its CR LF"
unfoldable pub line_of : List Text → Text
line_of cells = joined cells ++ line_end

-- what the writer's rules are asked of; `contents` holds the fields, cut by their lengths
pub record Writing : Type 0 where
  pub edition : Edition
  pub contents : Contents
  pub lengths : List ℕ
  pub given : Text
  pub room : ℕ

unfoldable pub writing : Edition → ℕ → Text → List ℕ → ℕ → Writing
writing e k text lengths room =
    record { edition = e; contents = contents_of e k (cut lengths text); lengths = lengths; given = text; room = room }

-- 22 "no base kind"
unfoldable pub no_base_kind : Writing → Bool
no_base_kind w = not (is_base w.edition w.contents.kind)

-- 23 "lengths do not add up to the contents"
unfoldable pub lengths_do_not_add_up : Writing → Bool
lengths_do_not_add_up w = not (eqb (sum w.lengths) (length w.given))

-- 24 "output too small"
unfoldable pub output_too_small : Writing → Bool
output_too_small w = ltb w.room (length (line_of w.contents.cells))

-- 01, "The line writer": "It refuses, in order"
unfoldable pub writer_order : List (Rule Writing)
unfolding over asked_of
writer_order =
    (gives 22 0 no_base_kind ∷ [])
    ++ over (λ w. w.contents) field_count
    ++ (gives 23 0 lengths_do_not_add_up ∷ [])
    ++ over (λ w. w.contents) contents
    ++ (gives 24 0 output_too_small ∷ [])

-- what the writer answers for a kind, contents, their lengths and an output of so many bytes
unfoldable pub write_line : Edition → ℕ → Text → List ℕ → ℕ → Written
write_line e k text lengths room =
    let w = writing e k text lengths room in
    writes (first writer_order w) (line_of w.contents.cells)

-- to compute with this file: `unfolding writer_opens`
unfoldable pub writer_opens : Unit {0}
unfolding cut sum joined line_of writing no_base_kind lengths_do_not_add_up output_too_small writer_order write_line
writer_opens = tt
