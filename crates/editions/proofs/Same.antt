-- The library's `==` on slices is the equality of texts of the definitions.
use Rattle.std.proofs.Common.{◌≡◌, eqb, [], ◌∷◌, refl}
use Rattle.std.specs.Cmp.Lexicographic.{pointwise}
use Rattle.dirf.specs.Bytes.{Text, same}

pub same_is : (a b : Text) → same a b ≡ pointwise eqb a b
unfolding same
same_is [] [] = refl
same_is [] (y ∷ b) = refl
same_is (x ∷ a) [] = refl
same_is (x ∷ a) (y ∷ b) = rw (same_is a b)
