-- What the check leaves behind, in words that a pay office could read: of a file, the table before and after, and the answer.
-- Demand 1: "A refused file leaves the record table holding the lines before the bad one, and nothing past them is touched."
use Rattle.std.specs.Prelude.{ℕ, suc, ◌*◌, ◌≤◌, ◌≡◌, ◌≢◌, List, length, get_or, take}
use Rattle.dirf.specs.Bytes.{Text}
use Rattle.dirf.specs.Limits.{numbers_an_entry}
use Rattle.dirf.specs.Check.{Entry, numbers_of}
use Rattle.dirf.specs.Theorems.Whose.{Owned}
use Rattle.dirf.specs.Theorems.Groups.{Grouped}
use Rattle.dirf.specs.Theorems.Entries.{Pointed}
use Rattle.checker.specs.declared.Answer.{Answer}

pub record Left (file : Text) (before after : List ℕ) (answer : Answer) : Type 0 where
  -- the table begins with entries, as many as the answer says,
  pub entries : List Entry
  pub count : length entries ≡ answer.entries
  pub begins : take (numbers_an_entry * answer.entries) after ≡ numbers_of entries
  -- on acceptance one for each line, on refusal one for each line before the one named
  pub accepted : answer.number ≡ 0 → answer.entries ≡ answer.line
  pub refused : answer.number ≢ 0 → suc answer.entries ≡ answer.line
  -- no number past them is touched, and the table is as long as it was
  pub untouched : (i : ℕ) → numbers_an_entry * answer.entries ≤ i → get_or after i 0 ≡ get_or before i 0
  pub same_length : length after ≡ length before
  -- of each line it is said whose it is: every amount is the amount of the person above it, with nothing of another person between
  pub whose : Owned entries
  -- the fifth number of each is the last line of its group so far
  pub groups : Grouped entries
  -- the n-th entry points at the n-th line of the file
  pub pointed : Pointed file entries
