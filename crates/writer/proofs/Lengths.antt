-- Lengths: added up against a total one at a time, and how many fields and bytes a line of them has.
use Prim.Native.Nat.{ℕ, suc, ◌+◌, ◌-◌, ◌≤◌, ◌<◌}
use mathlib.Core.Path.{◌≡◌, refl, sym, ap}
use mathlib.Core.Bool.{false}
use mathlib.Core.List.{List, [], ◌∷◌}
use native.Mathlib.Numerals.{add-one}
use native.Mathlib.Omega.{arith}
use lib.Dec.{eqb, ltb}
use lib.ListN.{length, get_or, drop, drop_of_length-le, length-append, length-drop}
use lib.Seq.{drop-cons, length-take-le}
use borrow.Author.Tests.{ne_eqb}
use Rattle.dirf.specs.Bytes.{Text}
use Rattle.dirf.proofs.tests.Says.{same_answer, eqb_says, ltb_says}
use Rattle.dirf.specs.LineWriter.{cut, sum, joined, line_of}

module _ (ns : List ℕ) (i left : ℕ) where
  pub sum_past : left < get_or ns i 0 → i < length ns → eqb (sum (drop i ns)) left ≡ false
  unfolding sum
  sum_past h k = rw (drop-cons ns i 0) (ne_eqb (get_or ns i 0 + sum (drop (suc i) ns)) left (omega arith))

  pub sum_on : get_or ns i 0 ≤ left → i < length ns → eqb (sum (drop i ns)) left ≡ eqb (sum (drop (i + 1) ns)) (left - get_or ns i 0)
  unfolding sum
  sum_on h k =
      let n = get_or ns i 0 in
      let s = sum (drop (suc i) ns) in
      rw (drop-cons ns i 0, add-one) (same_answer _ _ (λ e. omega arith) (λ e. omega arith) (eqb_says (n + s) left) (eqb_says s (left - n)))

  pub sum_end : length ns ≤ i → eqb (sum (drop i ns)) left ≡ eqb left 0
  unfolding sum
  sum_end h = rw (drop_of_length-le ns h) (same_answer _ _ sym sym (eqb_says 0 left) (eqb_says left 0))

-- room taken away for the bytes, then for two more
pub room_left : (room bytes count : ℕ) → bytes ≤ room → 2 ≤ room - bytes → ltb (room - bytes - 2) count ≡ ltb room (bytes + count + 2)
room_left room bytes count h k =
    same_answer _ _ (λ e. omega arith) (λ e. omega arith) (ltb_says (room - bytes - 2) count) (ltb_says room (bytes + count + 2))

pub cut_length : (ns : List ℕ) (text : Text) → length (cut ns text) ≡ length ns
unfolding cut
cut_length [] text = refl
cut_length (n ∷ ns) text = ap suc (cut_length ns (drop n text))

-- as many bytes as the contents have, a bar for each field, CR and LF
joined_length : (ns : List ℕ) (text : Text) → sum ns ≤ length text → length (joined (cut ns text)) ≡ sum ns + length ns
unfolding sum cut joined
joined_length [] text h = refl
joined_length (n ∷ ns) text h =
    rw (length-append, length-take-le n text (omega arith))
    (omega (arith, joined_length ns (drop n text) (rw length-drop (omega arith))))

pub line_length : (ns : List ℕ) (text : Text) → sum ns ≡ length text → length (line_of (cut ns text)) ≡ length text + length ns + 2
unfolding line_of
line_length ns text e = rw length-append (omega (arith, joined_length ns text (omega arith)))
