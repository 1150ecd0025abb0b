-- Demand 1: "A refused file leaves the record table holding the lines before the bad one", counted; and 01, "What each contract has to
-- say": "on acceptance both equal the line ends; on refusal the records are one fewer than the line named". And what the answer says of
-- the limits.
use Rattle.std.specs.Prelude.{ℕ, suc, ◌≤◌, ◌≡◌, ◌≢◌, length}
use Rattle.dirf.specs.Bytes.{Text}
use Rattle.dirf.specs.Edition.{Edition}
use Rattle.dirf.specs.Check.{Verdict, verdict}
use Rattle.dirf.specs.Theorems.GoodSoFar.{line_ends}

pub record Counted (file : Text) (room : ℕ) (v : Verdict) : Type 0 where
  pub when_accepted : v.number ≡ 0 → (v.line ≡ line_ends file) × (length v.table ≡ line_ends file)
  pub when_refused : v.number ≢ 0 → suc (length v.table) ≡ v.line
  -- the entries fit the table, and there are at most 65,536
  pub fits : length v.table ≤ room
  pub few : length v.table ≤ 65536

abbrev pub Counts : Edition → Type 0
Counts e = (file : Text) (room : ℕ) → Counted file room (verdict e file room)
