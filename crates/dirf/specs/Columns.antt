-- The literal columns of document 01's table of numbers, and of its sentence on the line writer.
use Rattle.std.specs.Prelude.{ℕ, ◌≡◌, List, [], ◌∷◌, ◌++◌, map}
use Rattle.dirf.specs.Rules.{Rule, gives, field_by_field, conditions}
use Rattle.dirf.specs.Order.{order}
use Rattle.dirf.specs.Check.{no_bytes_left}
use Rattle.dirf.specs.LineWriter.{writer_order}

-- "No" and "Field": a number and the fields that it can name
abbrev pub Column : Type 0
Column = ℕ × List ℕ

-- "its own"
abbrev pub its_own : List ℕ
its_own = []

-- what a rule says of itself
unfoldable pub columns_of : {A : Type 0} → Rule A → List Column
columns_of (gives number field test) = (number, field ∷ []) ∷ []
columns_of (field_by_field rules of) = map (λ r. (r.0, its_own)) rules
columns_of (conditions number rules of) = (number, map (λ c. c.field) rules) ∷ []

unfoldable pub columns : {A : Type 0} → List (Rule A) → List Column
columns [] = []
columns (r ∷ rs) = columns_of r ++ columns rs

-- 01, "Numbers given, and their order"; 02, A1: "26, after 18 for the same field"; A2: "19 at field 5, then 6"
abbrev pub numbers_table : List Column
numbers_table =
    (1, 0 ∷ []) ∷
    (2, 0 ∷ []) ∷
    (3, 0 ∷ []) ∷
    (4, 0 ∷ []) ∷
    (5, 0 ∷ []) ∷
    (6, 0 ∷ []) ∷
    (8, 0 ∷ []) ∷
    (9, 1 ∷ []) ∷
    (10, 1 ∷ []) ∷
    (12, 1 ∷ []) ∷
    (11, 0 ∷ []) ∷
    (13, its_own) ∷
    (14, its_own) ∷
    (15, its_own) ∷
    (16, its_own) ∷
    (17, its_own) ∷
    (18, its_own) ∷
    (26, its_own) ∷
    (19, 5 ∷ 6 ∷ 9 ∷ 10 ∷ 11 ∷ 13 ∷ []) ∷
    (21, 1 ∷ []) ∷
    (20, 2 ∷ []) ∷
    (7, 0 ∷ []) ∷
    []

-- 01, "The line writer": "22, no base kind; 11, wrong number of lengths; 23, lengths do not add up to the contents; 13 to 18 by field;
-- 19; 24, output too small", and "the field: as in the table for 13 to 19, else 0"; 02, A1: "Reader and writer both ask it"; A2
abbrev pub writer_table : List Column
writer_table =
    (22, 0 ∷ []) ∷
    (11, 0 ∷ []) ∷
    (23, 0 ∷ []) ∷
    (13, its_own) ∷
    (14, its_own) ∷
    (15, its_own) ∷
    (16, its_own) ∷
    (17, its_own) ∷
    (18, its_own) ∷
    (26, its_own) ∷
    (19, 5 ∷ 6 ∷ 9 ∷ 10 ∷ 11 ∷ 13 ∷ []) ∷
    (24, 0 ∷ []) ∷
    []

-- number 1 is what a file gives that ends before it is closed; the others are the rules of a line, in their order
abbrev pub ColumnsHold : Type 0
ColumnsHold = ((no_bytes_left []).number, (no_bytes_left []).field ∷ []) ∷ columns order ≡ numbers_table

abbrev pub WriterColumnsHold : Type 0
WriterColumnsHold = columns writer_order ≡ writer_table
