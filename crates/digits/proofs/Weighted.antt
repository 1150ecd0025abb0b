-- The weighted sum from place i on: of a digit that has a weight and of the rest, or nothing behind the last weight.
use Rattle.std.proofs.Common.{ℕ, ◌≡◌, ◌+◌, ◌-◌, ◌*◌, ◌≤◌, ◌<◌, List, length, get_or, drop, add-one}
use Rattle.std.proofs.Math.Seq.{drop-cons}
use Rattle.std.proofs.Math.ListN.{drop_of_length-le}
use Rattle.dirf.specs.Bytes.{Text}
use Rattle.dirf.specs.Digits.{weighted}

pub one_more : (ws : List ℕ) (s : Text) (i w b : ℕ) → i < length ws → i < length s → w ≡ get_or ws i 0 → b ≡ get_or s i 0
    → weighted (drop i ws) (drop i s) ≡ w * (b - 48) + weighted (drop (i + 1) ws) (drop (i + 1) s)
unfolding weighted
one_more ws s i w b h k p q = rw (p, q, add-one, drop-cons ws i 0, drop-cons s i 0, weighted)

pub all_counted : (ws : List ℕ) (s : Text) (i : ℕ) → length ws ≤ i → weighted (drop i ws) (drop i s) ≡ 0
unfolding weighted
all_counted ws s i h = rw (drop_of_length-le ws h)
