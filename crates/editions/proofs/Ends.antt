-- Line 1 ends at the first CR LF, or with the file.
use Rattle.std.proofs.Common.{ℕ, zero, suc, ◌≡◌, ◌+◌, ◌<◌, true, false, ◌&&◌, eqb, [], ◌∷◌, length, take, sym, ap, ◌∙◌, arith, add-one}
use Rattle.std.proofs.Math.Seq.{take_all}
use Rattle.std.proofs.lemmas.Bool.Decides.{nat_tests}
use Rattle.dirf.specs.Bytes.{Text}
use Rattle.dirf.specs.Limits.{CR, LF}
use Rattle.dirf.specs.Editions.{line1}
use Rattle.dirf.proofs.files.Line1.{line1_short, line1_ends, line1_goes, line1_front}
use Rattle.editions.specs.Ends.{Ends}

behind : (b : ℕ) (s : Text) (k : ℕ) → Ends s k → Ends (b ∷ s) (suc k)
behind b s k e = (e.0, rw (add-one (suc k)) (rw (add-one k) at e.1))

here : (b c : ℕ) (s : Text) → Ends (b ∷ c ∷ s) 0 → (eqb b CR && eqb c LF) ≡ true
here b c s e = grind (arith, nat_tests)

not_here : (b c : ℕ) (s : Text) → (Ends (b ∷ c ∷ s) 0 → ⊥) → (eqb b CR && eqb c LF) ≡ false
not_here b c s e = grind (arith, nat_tests)

long_at : (s : Text) (i : ℕ) → i + 1 < length s → Ends s i → ((k : ℕ) → k < i → Ends s k → ⊥) → length (line1 s) ≡ i
long_at [] i h e n = absurd (omega arith)
long_at (b ∷ []) i h e n = absurd (omega arith)
long_at (b ∷ c ∷ s) zero h e n = ap length (line1_ends (b ∷ c ∷ s) (omega arith) (here b c s e))
long_at (b ∷ c ∷ s) (suc i) h e n =
    line1_goes (b ∷ c ∷ s) (omega arith) (not_here b c s (n 0 (omega arith)))
    ∙ ap suc (long_at (c ∷ s) i (omega arith) (e.0, rw (add-one i) (rw (add-one (suc i)) at e.1))
    (λ k l f. n (suc k) (omega arith) (behind b (c ∷ s) k f)))

long_all : (s : Text) → ((k : ℕ) → k + 1 < length s → Ends s k → ⊥) → length (line1 s) ≡ length s
long_all [] n = ap length (line1_short [] (omega arith))
long_all (b ∷ []) n = ap length (line1_short (b ∷ []) (omega arith))
long_all (b ∷ c ∷ s) n =
    line1_goes (b ∷ c ∷ s) (omega arith) (not_here b c s (n 0 (omega arith)))
    ∙ ap suc (long_all (c ∷ s) (λ k l f. n (suc k) (omega arith) (behind b (c ∷ s) k f)))

pub first_at : (s : Text) (i : ℕ) → i + 1 < length s → Ends s i → ((k : ℕ) → k < i → Ends s k → ⊥) → take i s ≡ line1 s
first_at s i h e n = ap (λ x. take x s) (sym (long_at s i h e n)) ∙ line1_front s

pub first_all : (s : Text) → ((k : ℕ) → k + 1 < length s → Ends s k → ⊥) → s ≡ line1 s
first_all s n = sym (take_all (length s) s (omega arith)) ∙ ap (λ x. take x s) (sym (long_all s n)) ∙ line1_front s
