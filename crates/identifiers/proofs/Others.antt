-- No identifier has another length, or begins with another byte than those that the code asks for.
use Rattle.std.specs.Prelude.{None}
use Prim.Native.Nat.{ℕ}
use mathlib.Core.Path.{◌≡◌, refl}
use mathlib.Core.List.{[], ◌∷◌}
use lib.ListN.{length, get_or}
use Rattle.dirf.specs.Bytes.{Text, bytes, bytes_opens}
use Rattle.dirf.specs.Kinds.{names2025}
use Rattle.dirf.specs.Edition.{kind_in}
use Rattle.identifiers.specs.Found.{kind_found}
use Rattle.identifiers.proofs.Names.{other_length, other_first}

module _ (text : Text) where
  abbrev NotFirst : ℕ → Type 0
  NotFirst b = get_or text 0 0 ≡ b → ⊥

  abbrev NoKind : Type 0
  NoKind = kind_found (kind_in names2025 text) ≡ None

  pub of_other_length : (length text ≡ 3 → ⊥) → (length text ≡ 4 → ⊥) → (length text ≡ 5 → ⊥) → (length text ≡ 6 → ⊥)
      → (length text ≡ 7 → ⊥) → NoKind
  unfolding bytes_opens
  of_other_length a b c d e = other_length (7 ∷ 6 ∷ 5 ∷ 4 ∷ 3 ∷ []) refl text (((((tt, a), b), c), d), e)

  pub of_three : length text ≡ 3 → NotFirst 70 → NotFirst 73 → NotFirst 80 → NotFirst 82 → NotFirst 83 → NoKind
  unfolding bytes_opens
  of_three l f i p r s = other_first 3 (bytes "SRPIF") refl text l (((((tt, f), i), p), r), s)

  pub of_four : length text ≡ 4 → NotFirst 67 → NotFirst 68 → NotFirst 69 → NotFirst 79 → NotFirst 80 → NotFirst 82 → NotFirst 84 → NoKind
  unfolding bytes_opens
  of_four l c d e o p r t = other_first 4 (bytes "TRPOEDC") refl text l (((((((tt, c), d), e), o), p), r), t)

  pub of_five : length text ≡ 5 → NotFirst 66 → NotFirst 68 → NotFirst 73 → NotFirst 82 → NotFirst 86 → NoKind
  unfolding bytes_opens
  of_five l b d i r v = other_first 5 (bytes "VRIDB") refl text l (((((tt, b), d), i), r), v)

  pub of_six : length text ≡ 6 → NotFirst 66 → NotFirst 82 → NoKind
  unfolding bytes_opens
  of_six l b r = other_first 6 (bytes "RB") refl text l ((tt, b), r)

  pub of_seven : length text ≡ 7 → NotFirst 66 → NotFirst 70 → NotFirst 81 → NoKind
  unfolding bytes_opens
  of_seven l b f q = other_first 7 (bytes "QFB") refl text l (((tt, b), f), q)
