-- What a reading comes to.
use Rattle.std.specs.Prelude.{ℕ, Result, Ok, Err}
use Rattle.input.specs.declared.ReadFailed.{ReadFailed}

-- how many bytes came, whether or not a read failed
abbrev pub count_of : Result ℕ ReadFailed → ℕ
count_of (Ok count) = count
count_of (Err failed) = failed.count
