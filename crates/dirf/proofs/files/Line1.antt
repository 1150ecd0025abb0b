-- Line 1, byte by byte: all bytes before the first CR LF, or all that there are.
use Prim.Native.Nat.{ℕ, suc, ◌≤◌, ◌<◌}
use mathlib.Core.Path.{◌≡◌, refl, ap}
use mathlib.Core.Bool.{true, false, ◌&&◌}
use mathlib.Core.List.{List, [], ◌∷◌, ◌++◌}
use native.Mathlib.Omega.{arith}
use lib.Dec.{eqb}
use lib.ListN.{length, get_or, take, drop}
use Rattle.dirf.specs.Bytes.{Text}
use Rattle.dirf.specs.Limits.{CR, LF}
use Rattle.dirf.specs.Lines.{Piece, push, pieces}
use Rattle.dirf.specs.Editions.{first_body, line1}
use Rattle.dirf.specs.Theorems.GoodSoFar.{line_ends}
use Rattle.dirf.proofs.tests.Bools.{by_answer}

-- one byte more in front
push_first : (b : ℕ) (ps : List Piece) → first_body (push b ps) ≡ b ∷ first_body ps
unfolding first_body push
push_first b [] = refl
push_first b (p ∷ ps) = refl

line1_on : (b c : ℕ) (s : Text) → (eqb b CR && eqb c LF) ≡ false → line1 (b ∷ c ∷ s) ≡ b ∷ line1 (c ∷ s)
unfolding line1 pieces
line1_on b c s e = rw e (push_first b (pieces (c ∷ s)))

line1_end : (b c : ℕ) (s : Text) → (eqb b CR && eqb c LF) ≡ true → line1 (b ∷ c ∷ s) ≡ []
unfolding line1 pieces first_body
line1_end b c s e = rw e

pub line1_short : (t : Text) → length t ≤ 1 → line1 t ≡ t
unfolding line1 pieces push first_body
line1_short [] h = refl
line1_short (b ∷ []) h = refl
line1_short (b ∷ c ∷ t) h = absurd (omega arith)

pub line1_ends : (t : Text) → 1 < length t → (eqb (get_or t 0 0) CR && eqb (get_or t 1 0) LF) ≡ true → line1 t ≡ []
line1_ends [] h e = absurd (omega arith)
line1_ends (b ∷ []) h e = absurd (omega arith)
line1_ends (b ∷ c ∷ t) h e = line1_end b c t e

pub line1_goes : (t : Text) → 1 < length t → (eqb (get_or t 0 0) CR && eqb (get_or t 1 0) LF) ≡ false
    → length (line1 t) ≡ suc (length (line1 (drop 1 t)))
line1_goes [] h e = absurd (omega arith)
line1_goes (b ∷ []) h e = absurd (omega arith)
line1_goes (b ∷ c ∷ t) h e = ap length (line1_on b c t e)

-- it stands at the front
pub line1_front : (s : Text) → take (length (line1 s)) s ≡ line1 s
unfolding line1 pieces push first_body
line1_front [] = refl
line1_front (b ∷ []) = refl
line1_front (b ∷ c ∷ s) =
    by_answer (eqb b CR && eqb c LF) (λ e. rw (line1_end b c s e)) (λ e. rw (line1_on b c s e) (ap (λ l. b ∷ l) (line1_front (c ∷ s))))

-- what is written after a whole line 1 leaves it as it is
pub line1_stays : (s t : Text) → 1 ≤ line_ends s → line1 (s ++ t) ≡ line1 s
unfolding line_ends
line1_stays [] t h = absurd (omega arith)
line1_stays (b ∷ []) t h = absurd (omega arith)
line1_stays (b ∷ c ∷ s) t h =
    by_answer (eqb b CR && eqb c LF) (λ e. rw (line1_end b c (s ++ t) e, line1_end b c s e))
    (λ e. rw (line1_on b c (s ++ t) e, line1_on b c s e) (ap (λ l. b ∷ l) (line1_stays (c ∷ s) t (rw e at h))))
