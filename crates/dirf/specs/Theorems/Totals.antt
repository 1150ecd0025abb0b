-- 02, A7, in words that a pay office could read: which fields enter a total, what a line adds, and that no total passes 64 bits.
use Rattle.std.specs.Prelude.{ℕ, ◌+◌, ◌*◌, ◌^◌, ◌≤◌, ◌<◌, ◌≡◌, true, false, ◌↔◌, List, [], ◌∷◌, ◌++◌}
use Rattle.dirf.specs.Bytes.{Text}
use Rattle.dirf.specs.Limits.{lines_limit, amount_size, amounts_a_line, largest}
use Rattle.dirf.specs.Kinds.{is_value}
use Rattle.dirf.specs.Row.{Row}
use Rattle.dirf.specs.Edition.{Edition, rows_of, kind_of}
use Rattle.dirf.specs.Order.{kind_of_line}
use Rattle.dirf.specs.Check.{verdict}
use Rattle.dirf.specs.Totals.{is_amount, added, total, total_by}
use Rattle.dirf.specs.Tables.{first_amount, amount_count}
use Rattle.dirf.specs.Theorems.Plain.{Nth}
use Rattle.dirf.specs.Theorems.GoodSoFar.{Unfinished}

-- the most that one line may add, and the most that all of them may
abbrev pub largest_line : ℕ
largest_line = amounts_a_line * largest amount_size

abbrev pub largest_total : ℕ
largest_total = lines_limit * largest_line

pub record Totals (e : Edition) : Type 0 where
  -- the rows of each kind of value record that the edition names say the same
  pub which : (s : Text) → let k = kind_of e s in is_value k ≡ true → (f : ℕ) (r : Row) → Nth (rows_of e k) f r
      → (is_amount r.holds ≡ true) ↔ ((first_amount k ≤ f) × (f < first_amount k + amount_count k))
  -- a line adds to the total of its own kind alone, and only a value record does
  pub own : (k : ℕ) (line : Text) → 0 < added e k line → (is_value k ≡ true) × (kind_of_line e line ≡ k)
  -- so what is no value record enters no total
  pub none : (k : ℕ) → is_value k ≡ false → (lines : List Text) → total e k lines ≡ 0
  -- "true after every accepted line": one line more adds its amounts and nothing else
  pub next : (k : ℕ) (lines : List Text) (line : Text) → total e k (lines ++ (line ∷ [])) ≡ total e k lines + added e k line
  -- "at 65,536 lines no total can pass 64 bits"
  pub bounded : (file : Text) (room k : ℕ) → total_by e file room k ≤ largest_total
  pub fits : largest_total < 2 ^ 64
  -- demand 3: nothing written after a file that is refused changes a total
  pub final : (s : Text) (room : ℕ) → Unfinished s room → ((verdict e s room).number ≤ 1 → ⊥) → (t : Text) (k : ℕ)
      → total_by e (s ++ t) room k ≡ total_by e s room k
