-- Where a CR LF stands.
use Rattle.std.specs.Prelude.{ℕ, ◌≡◌, ◌+◌, ◌<◌, length, get_or, Option, MatchOption}
use Rattle.dirf.specs.Bytes.{Text}
use Rattle.dirf.specs.Limits.{CR, LF}

abbrev pub Ends : Text → ℕ → Type 0
Ends s i = (get_or s i 0 ≡ CR) × (get_or s (i + 1) 0 ≡ LF)

-- the first place of one, or none
abbrev pub IsFirstEnd : Text → Option ℕ → Type 0
IsFirstEnd s r =
    MatchOption r ((k : ℕ) → k + 1 < length s → Ends s k → ⊥)
    (λ i. (i + 1 < length s) × Ends s i × ((k : ℕ) → k < i → Ends s k → ⊥))
