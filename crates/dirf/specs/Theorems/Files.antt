-- The demands of the answer to a file. Each file is judged by the edition that its line 1 picks (02, A4), and what is proved of an edition
-- is true of the files that have it.
use Rattle.std.specs.Prelude.{ℕ, ◌*◌, ◌≤◌, ◌≡◌, ◌↔◌, List, ◌++◌, length, take}
use Rattle.dirf.specs.Bytes.{Text}
use Rattle.dirf.specs.Editions.{EditionName, edition_named, edition_name_of, edition_of}
use Rattle.dirf.specs.Limits.{numbers_an_entry}
use Rattle.dirf.specs.Kinds.{IDREC}
use Rattle.dirf.specs.Check.{numbers_of, Verdict, answer_to}
use Rattle.dirf.specs.Search.{search_in}
use Rattle.dirf.specs.Totals.{total_of}
use Rattle.dirf.specs.Columns.{ColumnsHold}
use Rattle.dirf.specs.Theorems.Answered.{Answer, Accepted, TestsSay}
use Rattle.dirf.specs.Theorems.Counts.{Counted}
use Rattle.dirf.specs.Theorems.GoodSoFar.{Whole, line_ends, Unfinished, GoodUpToHere}
use Rattle.dirf.specs.Theorems.Whose.{kind_at, IsLine, Owned}
use Rattle.dirf.specs.Theorems.Groups.{Grouped}
use Rattle.dirf.specs.Theorems.Entries.{Pointed}
use Rattle.dirf.specs.Theorems.Found.{Found}
use Rattle.dirf.specs.Theorems.Totals.{Totals}

pub record Files : Type 0 where
  -- demands 1 and 2, as Theorems/Demands has them for an edition
  pub answered : (file : Text) (room : ℕ) → Answer (edition_of file) file room (answer_to file room)
  pub only : (file : Text) (room : ℕ) (v : Verdict) → Answer (edition_of file) file room v → v ≡ answer_to file room
  pub accepted_exactly : (file : Text) (room : ℕ) → ((answer_to file room).number ≡ 0) ↔ Accepted (edition_of file) file room
  pub tests_say : (file : Text) → TestsSay (edition_of file)
  pub columns_hold : ColumnsHold
  pub counts : (file : Text) (room : ℕ) → Counted file room (answer_to file room)
  pub whose : (file : Text) (room : ℕ) → Owned (answer_to file room).table
  pub groups : (file : Text) (room : ℕ) → Grouped (answer_to file room).table
  pub entries : (file : Text) (room : ℕ) → Pointed file (answer_to file room).table
  pub finds : (file : Text) (room : ℕ) → (answer_to file room).number ≡ 0
      → let t = (answer_to file room).table in
      (n : ℕ) → IsLine t n → kind_at t n ≡ IDREC → (numbers : List ℕ) → take (numbers_an_entry * length t) numbers ≡ numbers_of t
      → (key : Text) → Found file t n key (search_in file numbers n key)
  -- demand 3
  pub good_so_far : GoodUpToHere edition_of
  -- a file with a whole line 1 has its edition for good, whatever is written after it
  pub for_good : (s t : Text) → 1 ≤ line_ends s → edition_name_of (s ++ t) ≡ edition_name_of s
  -- for an empty file the four lines that close it are of either edition
  pub of_either : (n : EditionName) (room : ℕ) → 4 ≤ room
      → (t : Text) × Whole t × (line_ends t ≤ 4) × (edition_name_of t ≡ n) × Accepted (edition_named n) t room
  -- no file is accepted by the rules of an edition that is not its own
  pub by_its_own : (n : EditionName) (file : Text) (room : ℕ) → Accepted (edition_named n) file room → edition_name_of file ≡ n

-- 02, A7, of every file by its own edition: what the totals are of, and that none passes 64 bits
pub record FilesTotals : Type 0 where
  pub totals : (file : Text) → Totals (edition_of file)
  -- demand 3: nothing written after a file that is refused changes one
  pub totals_final : (s : Text) (room : ℕ) → Unfinished s room → ((answer_to s room).number ≤ 1 → ⊥) → (t : Text) (k : ℕ)
      → total_of (s ++ t) room k ≡ total_of s room k
