-- The printed values of one byte each: what is asked of the only byte of a field, and that this is what `valid` asks.
use Prim.Native.Nat.{ℕ, ◌-◌, ◌≤◌, ◌<◌}
use mathlib.Core.Path.{◌≡◌, refl, sym, ap, ◌∙◌}
use mathlib.Core.Bool.{Bool, true, false, ◌||◌, not, and-true, and-false, or-false, or_assoc}
use mathlib.Core.List.{List, [], ◌∷◌, map}
use native.Mathlib.Omega.{arith}
use lib.Dec.{eqb}
use lib.ListN.{replicate}
use borrow.Author.Tests.{not-true}
use Rattle.dirf.specs.Bytes.{Text, bytes, every, some, is_in, same, bytes_opens}
use Rattle.dirf.specs.Layout.{relation}
use Rattle.dirf.specs.Fields.{valid}
use Rattle.dirf.proofs.tests.Bools.{and_left, and_right, by_answer}
use Rattle.dirf.proofs.tests.Says.{is_in_says}
use Rattle.dirf.proofs.tests.Lists.{none, ◌also◌, of_each}
use Rattle.kinds.specs.Kinds.{tab}
use Rattle.layout.specs.Tables.{holds_of}
use Rattle.fields.proofs.Arms.{NoneOf, none_in}
use Rattle.rules.specs.Findings.{only_byte, letter_of}
use Rattle.kinds.proofs.Arms.{within, between, seen}

-- an arm of a `match` on the only byte, below the arm of the letter k
pub letter : (k : ℕ) (v : Bool) (kss : List (List ℕ)) (lo hi : ℕ)
    → tab (seen (λ b. letter_of k (b ∷ [])) v kss) lo (hi - lo) ≡ replicate (hi - lo) v → (h b : ℕ) → h ≡ k
    → (lo ≤ b) × ((b < hi) × NoneOf kss b) → v ≡ letter_of h (b ∷ [])
letter k v kss lo hi all h b e t = rw e (between (λ b. letter_of k (b ∷ [])) v kss lo hi all t)

-- a value of one byte is the field exactly when it is its only byte
one_byte : (s : Text) (k : ℕ) → eqb 0 k ≡ false → same s (k ∷ []) ≡ eqb (only_byte s) k
unfolding same only_byte
one_byte [] k e = sym e
one_byte (b ∷ []) k e = and-true (eqb b k)
one_byte (b ∷ d ∷ s) k e = and-false (eqb b k) ∙ sym e

one_of_lem : (s : Text) (ks : List ℕ) → every (λ k. not (eqb 0 k)) ks ≡ true → is_in (only_byte s) ks ≡ some (same s) (map (λ k. k ∷ []) ks)
unfolding every some is_in
one_of_lem s [] all = refl
one_of_lem s (k ∷ ks) all =
    rw (
      one_byte s k (not-true (eqb 0 k) (and_left (not (eqb 0 k)) (every (λ k. not (eqb 0 k)) ks) all)),
      ← one_of_lem s ks (and_right (not (eqb 0 k)) (every (λ k. not (eqb 0 k)) ks) all),
    )

abbrev letters : List ℕ
letters = 115 ∷ 49 ∷ 50 ∷ 51 ∷ 56 ∷ []

-- the identifier, of each edition the two years and the layout's own code, and relations
abbrev words : List (List ℕ)
words = (107 ∷ []) ∷ (113 ∷ []) ∷ (112 ∷ []) ∷ (111 ∷ []) ∷ (114 ∷ []) ∷ (122 ∷ []) ∷ (121 ∷ []) ∷ (105 ∷ []) ∷ []

apart : (h : ℕ) → is_in h letters ≡ false → NoneOf words h → some (is_in h) (letters ∷ words) ≡ false
unfolding some
apart h e n = rw e (none_in words h n)

pub letter_valid : (name s : Text) (h : ℕ) → h < 256 → NoneOf words h → letter_of h s ≡ valid name (holds_of h) s
unfolding bytes_opens valid holds_of letter_of seen
letter_valid name s h b n =
    let asked : ℕ → Bool × Bool = λ h. (letter_of h s, valid name (holds_of h) s) in
    by_answer (is_in h letters)
    (λ e.
    of_each {P = λ k. letter_of k s ≡ valid name (holds_of k) s}
    (one_of_lem s (83 ∷ 78 ∷ []) refl also one_of_lem s (48 ∷ 49 ∷ []) refl also one_of_lem s (49 ∷ 50 ∷ []) refl also
    one_of_lem s (49 ∷ 50 ∷ 51 ∷ []) refl also one_of_lem s (48 ∷ 49 ∷ 50 ∷ 51 ∷ 52 ∷ 56 ∷ []) refl also none)
    h ((is_in_says h letters).0 e))
    (λ e.
    let p = within asked (true, true) (letters ∷ words) 0 256 refl (omega arith) b (apart h e n) in
    sym (ap (λ x. x.0) p) ∙ ap (λ x. x.1) p)

-- two, two and one of the printed relations
pub relation_lem : (s : Text)
    → valid [] relation s
    ≡ (some (same s) (bytes "03" ∷ bytes "04" ∷ []) || (some (same s) (bytes "06" ∷ bytes "08" ∷ []) || same s (bytes "10")))
unfolding some valid
relation_lem s = simp (or-false, or_assoc)
