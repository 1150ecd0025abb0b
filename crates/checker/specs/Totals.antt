-- Totals as the code keeps them: in a lent list, a place a kind.
use Rattle.std.specs.Prelude.{ℕ, zero, suc, ◌+◌, ◌^◌, ◌≤◌, ◌<◌, ◌≡◌, true, List, [], ◌∷◌, map, length, get_or, set, take}
use Rattle.dirf.specs.Bytes.{Text, every, is_digit}
use Rattle.dirf.specs.Lines.{fields}
use Rattle.dirf.specs.Numbers.{value_of}
use Rattle.dirf.specs.LineWriter.{sum}
use Rattle.dirf.specs.Tables.{amount_count, from_amounts}
use Rattle.kinds.specs.Kinds.{kinds}

-- a list of numbers with n others put in, from that of kind k on, as far as it goes
unfoldable pub put_from : (ℕ → ℕ) → ℕ → ℕ → List ℕ → List ℕ
put_from of k zero t = t
put_from of k (suc n) [] = []
put_from of k (suc n) (x ∷ t) = of k ∷ put_from of (suc k) n t

-- place k has the number of kind k, for the places that are lent; nothing past the last kind is touched
unfoldable pub totals_in : (ℕ → ℕ) → List ℕ → List ℕ
totals_in of t = put_from of 0 kinds t

-- place k with so much more, if it is lent
unfoldable pub add_at : List ℕ → ℕ → ℕ → List ℕ
add_at t k c = set t k (get_or t k 0 + c)

-- the sum of the first n fields of a text, each a number in digits
unfoldable pub sum_of : ℕ → Text → ℕ
sum_of n s = sum (map value_of (take n (fields s)))

-- the sum of the amounts of a line of kind k
unfoldable pub line_sum : ℕ → Text → ℕ
line_sum k line = sum_of (amount_count k) (from_amounts k line)

-- these fields are there, each of them is digits, and their sum fits
pub record Summable (n : ℕ) (s : Text) : Type 0 where
  pub many : n ≤ length (fields s)
  pub digits : (i : ℕ) → i < n → every is_digit (get_or (fields s) i []) ≡ true
  pub fits : sum_of n s < 2 ^ 64

-- and the total of the kind with them
pub record Addable (t : List ℕ) (k : ℕ) (line : Text) : Type 0 where
  pub summable : Summable (amount_count k) (from_amounts k line)
  pub fits : get_or t k 0 + line_sum k line < 2 ^ 64
