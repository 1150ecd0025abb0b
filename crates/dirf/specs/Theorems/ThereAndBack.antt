-- Reading and writing undo each other; the field reader's place and bytes agree; the order of keys is an order.
use Rattle.std.specs.Prelude.{ℕ, ◌+◌, ◌≤◌, ◌≡◌, true, false, List, [], ◌∷◌, ◌++◌, map, length, take, drop}
use Rattle.dirf.specs.Bytes.{Text}
use Rattle.dirf.specs.Edition.{Edition}
use Rattle.dirf.specs.Lines.{Piece, pieces, fields}
use Rattle.dirf.specs.Tree.{Rec}
use Rattle.dirf.specs.Keys.{key_less}
use Rattle.dirf.specs.Order.{here, kind_of_line}
use Rattle.dirf.specs.FieldReader.{field_there, field_of, field_start, field_length}
use Rattle.dirf.specs.Amounts.{read_amount, read_months, write_amount, write_months}
use Rattle.dirf.specs.LineWriter.{cut, write_line}
use Rattle.dirf.specs.Theorems.Plain.{◌∈◌, whole_line}
use Rattle.dirf.specs.Theorems.Breach.{Breach}

-- the numbers that a line can give by itself, whatever stands before it and however much room there is
abbrev pub of_the_line : List ℕ
of_the_line = 4 ∷ 5 ∷ 6 ∷ 8 ∷ 9 ∷ 10 ∷ 11 ∷ 13 ∷ 14 ∷ 15 ∷ 16 ∷ 17 ∷ 18 ∷ 26 ∷ 19 ∷ []

-- a piece breaks no rule that it can break by itself
abbrev pub Sound-line : Edition → Piece → Type 0
Sound-line e p = (room : ℕ) (before : List Rec) (n f : ℕ) → n ∈ of_the_line → Breach (here e room before p) n f → ⊥

-- Demand 2: "The line writer gives exactly the line that reads back as the fields it was given, or the first refusal that document 01
-- lists for it."
-- What it wrote is cut as one whole line with nothing left over, its fields are those given, its kind is the one given, and it breaks
-- no rule of a line.
pub record ReadsBack (e : Edition) (k : ℕ) (text : Text) (lengths : List ℕ) (written : Text) : Type 0 where
  pub line : Text
  pub one_line : pieces written ≡ whole_line line ∷ []
  pub same_fields : fields line ≡ cut lengths text
  pub same_kind : kind_of_line e line ≡ k
  pub sound : Sound-line e (whole_line line)

abbrev pub WriterReadsBack : Edition → Type 0
WriterReadsBack e =
    (k : ℕ) (text : Text) (lengths : List ℕ) (room : ℕ) → (write_line e k text lengths room).number ≡ 0
    → ReadsBack e k text lengths (write_line e k text lengths room).bytes

-- the contents of all fields one after another
unfoldable pub together : List Text → Text
together [] = []
together (c ∷ cs) = c ++ together cs

-- and every line that breaks no rule of a line is what the writer writes for its fields, where there is room
abbrev pub ReaderWritesBack : Edition → Type 0
ReaderWritesBack e =
    (line : Text) (room : ℕ) → Sound-line e (whole_line line) → length line + 2 ≤ room
    → write_line e (kind_of_line e line) (together (fields line)) (map length (fields line)) room
    ≡ record { number = 0; field = 0; bytes = line ++ (13 ∷ 10 ∷ []) }

-- 01, "Fields": amounts and month counts, there and back
pub record Numbers : Type 0 where
  pub amount_back : (v room : ℕ) → (write_amount v room).number ≡ 0
      → read_amount (write_amount v room).bytes ≡ record { number = 0; value = v }
  pub amount_there : (s : Text) (room : ℕ) → (read_amount s).number ≡ 0 → length s ≤ room
      → write_amount (read_amount s).value room ≡ record { number = 0; field = 0; bytes = s }
  pub months_back : (v room : ℕ) → (write_months v room).number ≡ 0
      → read_months (write_months v room).bytes ≡ record { number = 0; value = v }
  pub months_there : (s : Text) (room : ℕ) → (read_months s).number ≡ 0 → length s ≤ room
      → write_months (read_months s).value room ≡ record { number = 0; field = 0; bytes = s }

-- 01, "The field reader": its bytes are those of the line at its place; where there is no such field, the empty part at the line's end
pub record FieldPlaced (k : ℕ) (line : Text) : Type 0 where
  pub bytes : take (field_length k line) (drop (field_start k line) line) ≡ field_of k line
  pub inside : field_start k line + field_length k line ≤ length line
  pub nowhere : field_there k line ≡ false → (field_start k line ≡ length line) × (field_length k line ≡ 0)

-- no key is smaller than itself, and smaller goes on
pub record KeysOrdered : Type 0 where
  pub irreflexive : (a : List Text) → key_less a a ≡ false
  pub transitive : (a b c : List Text) → key_less a b ≡ true → key_less b c ≡ true → key_less a c ≡ true
