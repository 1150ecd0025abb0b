-- A kind that is found says its number: `kind_found` loses nothing.
use Rattle.std.specs.Prelude.{Some, None, unwrap_or}
use Prim.Native.Nat.{ℕ, ◌<◌}
use mathlib.Core.Path.{◌≡◌, sym, ap, ◌∙◌}
use native.Mathlib.Omega.{arith}
use lib.Dec.{eqb}
use borrow.Author.Tests.{eqb-true, ne_eqb}
use Rattle.dirf.proofs.tests.Bools.{by_answer}
use Rattle.identifiers.specs.Found.{kind_found}

-- the number, 0 for none
pub found_number : (k : ℕ) → unwrap_or (kind_found k) 0 ≡ k
unfolding kind_found
found_number k = by_answer (eqb k 0) (λ e. rw e (sym (eqb-true k 0 e))) (λ e. rw e)

pub one_number : (j k : ℕ) → kind_found j ≡ kind_found k → j ≡ k
one_number j k e = sym (found_number j) ∙ ap (λ o. unwrap_or o 0) e ∙ found_number k

pub none_found : (k : ℕ) → k ≡ 0 → kind_found k ≡ None
unfolding kind_found
none_found k e = rw e

pub some_found : (k : ℕ) → 0 < k → kind_found k ≡ Some k
unfolding kind_found
some_found k h = rw (ne_eqb k 0 (λ e. omega arith))
