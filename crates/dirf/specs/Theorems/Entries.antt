-- What an entry of the record table points at: the n-th entry at the n-th line of the file. It speaks of the table of any answer.
use Rattle.std.specs.Prelude.{ℕ, suc, ◌+◌, ◌≤◌, ◌<◌, ◌≡◌, List, [], ◌∷◌, length, take, drop}
use Rattle.dirf.specs.Bytes.{Text}
use Rattle.dirf.specs.Edition.{Edition}
use Rattle.dirf.specs.Lines.{pieces}
use Rattle.dirf.specs.Check.{Entry, verdict}
use Rattle.dirf.specs.Theorems.Plain.{Nth, whole_line}
use Rattle.dirf.specs.Theorems.Whose.{entry_at, IsLine}

-- where the entry of line n starts, and its length
abbrev pub start_at : List Entry → ℕ → ℕ
start_at t n = (entry_at t n).start

abbrev pub length_at : List Entry → ℕ → ℕ
length_at t n = (entry_at t n).length

-- the bytes of the file from an entry's start, as many as its length
abbrev pub bytes_at : Text → List Entry → ℕ → Text
bytes_at file t n = take (length_at t n) (drop (start_at t n) file)

pub record Pointed (file : Text) (t : List Entry) : Type 0 where
  -- they are the n-th line of the file,
  pub line : (n : ℕ) → IsLine t n → Nth (pieces file) n (whole_line (bytes_at file t n))
  -- and CR LF follows them
  pub line_end_lem : (n : ℕ) → IsLine t n → take 2 (drop (start_at t n + length_at t n) file) ≡ 13 ∷ 10 ∷ []
  -- the first starts where the file does, and each next one right behind the CR LF of the one before
  pub first : 1 ≤ length t → start_at t 1 ≡ 0
  pub next : (n : ℕ) → 1 ≤ n → n < length t → start_at t (suc n) ≡ start_at t n + length_at t n + 2

abbrev pub Entries : Edition → Type 0
Entries e = (file : Text) (room : ℕ) → Pointed file (verdict e file room).table
