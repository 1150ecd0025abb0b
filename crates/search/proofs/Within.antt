-- What the search asks of an entry, test by test.
use Prim.Native.Nat.{ℕ, ◌+◌, ◌/◌, ◌≤◌}
use mathlib.Core.Path.{◌≡◌, refl}
use mathlib.Core.Bool.{true, ◌&&◌}
use mathlib.Core.List.{List}
use lib.Dec.{leb}
use lib.ListN.{length}
use Rattle.std.proofs.lemmas.Bool.Decides.{nat_tests}
use Rattle.dirf.specs.Bytes.{Text}
use borrow.Author.Tests.{leb-true}
use Rattle.dirf.proofs.tests.Bools.{and_right}
use Rattle.dirf.specs.Search.{entries_in, start_in, length_in, last_in, is_within}
use Rattle.search.specs.Answers.{entry_in}

pub is_within_tests : (file : Text) (t : List ℕ) (n : ℕ) → let e = entry_in t n in
    is_within file t n ≡ (leb (e.start + e.len) (length file) && leb n e.last && leb e.last (length t / 5))
unfolding entries_in is_within entry_in
is_within_tests file t n = refl

-- the last line is one of the table's
pub last_few : (file : Text) (t : List ℕ) (n : ℕ) → is_within file t n ≡ true → last_in t n ≤ entries_in t
unfolding is_within
last_few file t n q =
    leb-true (last_in t n) (entries_in t)
    (and_right (leb (start_in t n + length_in t n) (length file) && leb n (last_in t n)) (leb (last_in t n) (entries_in t)) q)

-- for the prover's own search
pub ruleset within = (is_within_tests, nat_tests)
