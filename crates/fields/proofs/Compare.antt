-- The library compares two slices as document 01 does: byte for byte, and byte by byte with a proper beginning first.
use mathlib.Core.Path.{◌≡◌, refl, ap}
use mathlib.Core.Bool.{◌&&◌, ◌||◌}
use mathlib.Core.List.{[], ◌∷◌}
use Prim.Native.Nat.{ℕ}
use lib.Dec.{eqb, ltb}
use lib.Pointwise.{pointwise}
use Rattle.std.specs.Ordering.{is_lt, nat_cmp, ordering_then}
use Rattle.std.specs.Cmp.Lexicographic.{slice_cmp}
use Rattle.dirf.specs.Bytes.{Text, same, less}
use Rattle.dirf.proofs.tests.Bools.{by_answer}

pub same_lem : (a b : Text) → pointwise eqb a b ≡ same a b
unfolding same
same_lem [] [] = refl
same_lem [] (y ∷ b) = refl
same_lem (x ∷ a) [] = refl
same_lem (x ∷ a) (y ∷ b) = ap (λ t. eqb x y && t) (same_lem a b)

-- of the two bytes at hand the smaller one decides, and where they are the same what follows
pub less_lem : (a b : Text) → is_lt (slice_cmp nat_cmp a b) ≡ less a b
unfolding less
less_lem [] [] = refl
less_lem [] (y ∷ b) = refl
less_lem (x ∷ a) [] = refl
less_lem (x ∷ a) (y ∷ b) =
    by_answer (ltb x y) (λ l. rw l)
    (λ l. by_answer (eqb x y) (λ e. rw (l, e) (less_lem a b)) (λ e. rw (l, e)))

-- pairs: the first field decides, and where it is the same the second
pub pair_lem : (a b x y : Text) → is_lt (ordering_then (slice_cmp nat_cmp a x) (slice_cmp nat_cmp b y)) ≡ (less a x || same a x && less b y)
unfolding less same
pair_lem [] b [] y = less_lem b y
pair_lem [] b (q ∷ x) y = refl
pair_lem (p ∷ a) b [] y = refl
pair_lem (p ∷ a) b (q ∷ x) y =
    by_answer (ltb p q) (λ l. rw l)
    (λ l. by_answer (eqb p q) (λ e. rw (l, e) (pair_lem a b x y)) (λ e. rw (l, e)))

-- a number before a text: the number decides first
pub sized_lem : (m n : ℕ) (a b : Text) → is_lt (ordering_then (nat_cmp m n) (slice_cmp nat_cmp a b)) ≡ (ltb m n || eqb m n && less a b)
sized_lem m n a b =
    by_answer (ltb m n) (λ l. rw l)
    (λ l. by_answer (eqb m n) (λ e. rw (l, e) (less_lem a b)) (λ e. rw (l, e)))
