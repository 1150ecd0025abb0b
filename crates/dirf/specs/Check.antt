-- The check of a file: acceptance with a record table, or the first breach.
use Rattle.std.specs.Prelude.{ℕ, suc, ◌+◌, List, [], ◌∷◌, ◌++◌, leb, length, drop, if◌then◌else◌}
use Rattle.dirf.specs.Bytes.{Text}
use Rattle.dirf.specs.Limits.{line_end}
use Rattle.dirf.specs.Edition.{Edition}
use Rattle.dirf.specs.Lines.{Piece, pieces}
use Rattle.dirf.specs.Editions.{edition_of}
use Rattle.dirf.specs.Rules.{Found, keeps, breaks, first}
use Rattle.dirf.specs.Tree.{Rec, parent_of}
use Rattle.dirf.specs.Order.{here, kind_of_line, closed, order}

-- 01, "Lines and limits": "kind, start offset, length without the line end, parent's line number"
pub record Entry : Type 0 where
  pub kind : ℕ
  pub start : ℕ
  pub length : ℕ
  pub parent : ℕ

-- the bytes of the lines read so far, line ends included: where the next line starts
unfoldable pub bytes_of : List Rec → ℕ
bytes_of [] = 0
bytes_of (r ∷ rs) = bytes_of rs + length r.line + length line_end

-- the entry of a record that stands after others
unfoldable pub entry_of : Rec → List Rec → Entry
entry_of r rs = record { kind = r.kind; start = bytes_of rs; length = length r.line; parent = r.parent }

unfoldable pub table_of : List Rec → List Entry
table_of [] = []
table_of (r ∷ rs) = table_of rs ++ (entry_of r rs ∷ [])

-- The group of a record is the record and all lines below it. It ends before the first line behind it whose parent stands above it: of
-- these entries so many stand in the group of line n, whose entry stands right before them.
unfoldable pub following : ℕ → List Entry → ℕ
following n [] = 0
following n (t ∷ ts) = if leb n t.parent then suc (following n ts) else 0

-- 02, A6: "the last line of its group so far, itself if it has nothing below"; it is worked out from the parents
unfoldable pub last_at : List Entry → ℕ → ℕ
last_at ts n = n + following n (drop n ts)

-- 02, A6: "Give each table entry a fifth number": the numbers of an entry, as the table has them, given the last line of its group
unfoldable pub entry_numbers : Entry → ℕ → List ℕ
entry_numbers t last = t.kind ∷ t.start ∷ t.length ∷ t.parent ∷ last ∷ []

-- the numbers of entries from that of line n on, and the table as numbers
unfoldable pub numbers_from : (ℕ → ℕ) → ℕ → List Entry → List ℕ
numbers_from last n [] = []
numbers_from last n (t ∷ ts) = entry_numbers t (last n) ++ numbers_from last (suc n) ts

unfoldable pub numbers_of : List Entry → List ℕ
numbers_of ts = numbers_from (last_at ts) 1 ts

-- 01: "The answer is number, line, field", and the table
pub record Verdict : Type 0 where
  pub number : ℕ
  pub line : ℕ
  pub field : ℕ
  pub table : List Entry

-- 01: "On refusal at line n: entries for lines 1 to n-1."
unfoldable pub refused : List Rec → ℕ → ℕ → Verdict
refused before number field = record { number = number; line = suc (length before); field = field; table = table_of before }

-- 01: "On acceptance: 0, the last line, 0, and the table filled for every line."
unfoldable pub accepted : List Rec → Verdict
accepted before = record { number = 0; line = length before; field = 0; table = table_of before }

-- 1 "no bytes are left and FIMDirf was not read"
unfoldable pub no_bytes_left : List Rec → Verdict
no_bytes_left before = if closed before then accepted before else refused before 1 0

-- The record that a line makes, whatever it holds. Whether it may be made is for the rules to say.
unfoldable pub rec_of : Edition → List Rec → Piece → Rec
rec_of e before p =
    let k = kind_of_line e p.body in
    record { kind = k; line = p.body; parent = parent_of e before k }

-- the first breach of a line, given the room and the records before it
unfoldable pub breach : Edition → ℕ → List Rec → Piece → Found
breach e room before p = first order (here e room before p)

-- what one line comes to, and what the lines after it come to if it keeps every rule
unfoldable pub after_line : List Rec → Found → Verdict → Verdict
after_line before keeps later = later
after_line before (breaks number field) later = refused before number field

unfoldable pub run : Edition → ℕ → List Rec → List Piece → Verdict
run e room before [] = no_bytes_left before
run e room before (p ∷ ps) = after_line before (breach e room before p) (run e room (rec_of e before p ∷ before) ps)

-- the answer to a file by the rules of an edition, with room for so many entries
unfoldable pub verdict : Edition → Text → ℕ → Verdict
verdict e file room = run e room [] (pieces file)

-- 02, A4: the answer to a file is the verdict of its own edition
unfoldable pub answer_to : Text → ℕ → Verdict
answer_to file room = verdict (edition_of file) file room

-- to compute with this file: `unfolding check_opens`
unfoldable pub check_opens : Unit {0}
unfolding bytes_of entry_of table_of following last_at entry_numbers numbers_from numbers_of refused accepted no_bytes_left rec_of
    breach after_line run verdict answer_to
check_opens = tt
