-- Of a text with two digits behind those that have a weight: the digit by the weights behind the one in front, and the digit by all.
use Rattle.std.proofs.Common.{◌≡◌, ◌+◌, ◌-◌, ◌≤◌, ◌&&◌, length, get_or, drop, take, eqb, arith, length-drop}
use Rattle.std.proofs.lemmas.Slice.{between_to_end}
use Rattle.std.proofs.Math.Seq.{drop-cons}
use Rattle.dirf.specs.Bytes.{Text}
use Rattle.dirf.specs.Digits.{digit_right, digits_right}

pub in_parts : (ws s : Text) → 1 ≤ length ws
    → digits_right (get_or ws 0 0) (drop 1 ws) s
    ≡ (eqb (length s) (length ws + 1) && digit_right (take (length ws - 1) (drop 1 ws)) s && digit_right ws s)
unfolding digits_right
in_parts ws s h =
    let e : length (drop 1 ws) + 2 ≡ length ws + 1 = omega (arith, length-drop 1 ws) in
    rw (between_to_end ws 1 (length ws) (omega arith), e, ← drop-cons ws 0 0 h)
