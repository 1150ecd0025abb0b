-- How many kinds there are, and what a function gives for each.
use Rattle.std.specs.Prelude.{ℕ, zero, suc, List, [], ◌∷◌, if◌then◌else◌}
use Rattle.dirf.specs.Kinds.{stands_once}

-- f 0, f 1, .. , n of them
abbrev pub tab {ℓ} : {A : Type ℓ} → (ℕ → A) → ℕ → ℕ → List A
tab f i zero = []
tab f i (suc n) = f i ∷ tab f (suc i) n

-- 73 kinds, and 0, which is none
abbrev pub kinds : ℕ
kinds = 74

-- what stands once is a value record of the months and the thirteenth, as far as it is no other
unfoldable pub month_count : ℕ → ℕ
month_count k = if stands_once k then 13 else 0
