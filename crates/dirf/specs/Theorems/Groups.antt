-- What stands in whose group: it speaks of the record table of any answer, beside `Whose`, and of the fifth number of its entries.
use Rattle.std.specs.Prelude.{ℕ, ◌≤◌, ◌≡◌, ◌↔◌, List, [], ◌∷◌, length}
use Rattle.dirf.specs.Bytes.{Text}
use Rattle.dirf.specs.Kinds.{Dirf, RESPO, FIMDirf, alone}
use Rattle.dirf.specs.Edition.{Edition}
use Rattle.dirf.specs.Check.{Entry, last_at, verdict}
use Rattle.dirf.specs.Theorems.Plain.{◌∈◌}
use Rattle.dirf.specs.Theorems.Whose.{kind_at, parent_at, IsLine}

-- The group of a record is the record and all lines below it: line m stands in the group of line n if it is line n, or its parent
-- stands there.
pub data InGroup (t : List Entry) (n : ℕ) : ℕ → Type 0 where
  itself : InGroup t n n
  below : {m : ℕ} → InGroup t n (parent_at t m) → InGroup t n m

pub record Grouped (t : List Entry) : Type 0 where
  -- the lines of a group are those from the record to its last line, and no others
  pub lines : (n m : ℕ) → IsLine t n → IsLine t m → InGroup t n m ↔ (n ≤ m) × (m ≤ last_at t n)
  -- the last one is a line of the table, itself if nothing stands below it
  pub last : (n : ℕ) → IsLine t n → (n ≤ last_at t n) × (last_at t n ≤ length t)
  -- Dirf, RESPO and FIMDirf are groups of one; and these, the declarant too, belong to no other group
  pub of_one : (n : ℕ) → IsLine t n → kind_at t n ∈ Dirf ∷ RESPO ∷ FIMDirf ∷ [] → last_at t n ≡ n
  pub no_other : (n m : ℕ) → IsLine t n → IsLine t m → kind_at t m ∈ alone → InGroup t n m → n ≡ m

abbrev pub Groups : Edition → Type 0
Groups e = (file : Text) (room : ℕ) → Grouped (verdict e file room).table
