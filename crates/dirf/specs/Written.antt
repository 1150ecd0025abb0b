-- What a writer answers, and what it leaves in the output.
use Rattle.std.specs.Prelude.{ℕ, [], ◌++◌, length, drop}
use Rattle.dirf.specs.Bytes.{Text}
use Rattle.dirf.specs.Rules.{Found, keeps, breaks}

-- 01, "The line writer": the number, 0 when written; the field; and the bytes written, whose count is given, 0 on refusal
pub record Written : Type 0 where
  pub number : ℕ
  pub field : ℕ
  pub bytes : Text

-- a text is written where no rule is broken; else its first refusal
unfoldable pub writes : Found → Text → Written
writes keeps text = record { number = 0; field = 0; bytes = text }
writes (breaks number field) text = record { number = number; field = field; bytes = [] }

-- 01: "Bytes past the line stay", "a refusal leaves the output untouched"; demand 1: "A refused line leaves the writer's output
-- untouched." The output afterwards
unfoldable pub output_after : Written → Text → Text
output_after w output = w.bytes ++ drop (length w.bytes) output
