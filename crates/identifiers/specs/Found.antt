-- A kind, if one was found: a definition has 0 where there is none.
use Rattle.std.specs.Prelude.{ℕ, Option, Some, None, eqb, if◌then◌else◌}

unfoldable pub kind_found : ℕ → Option ℕ
kind_found k = if eqb k 0 then None else Some k
