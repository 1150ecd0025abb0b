-- The older edition's identifiers are those of 2025 without two.
use Rattle.std.specs.Prelude.{Option, Some, None, if◌then◌else◌}
use Prim.Native.Nat.{ℕ}
use mathlib.Core.Path.{◌≡◌, refl, sym, ap, subst, ◌∙◌}
use mathlib.Core.Bool.{true, false, not, ◌||◌, or-false}
use lib.Dec.{eqb}
use mathlib.Core.List.{List, [], ◌∷◌}
use borrow.Author.Tests.{eqb-true, not-true}
use Rattle.std.proofs.lemmas.Bool.Decides.{nat_tests}
use Rattle.dirf.specs.Bytes.{Text, bytes, is_in, same, some, bytes_opens}
use Rattle.dirf.specs.Kinds.{RTDS, ESDS, names2025, names2022}
use Rattle.dirf.specs.Edition.{kind_in}
use Rattle.dirf.proofs.tests.Bools.{by_answer}
use Rattle.dirf.proofs.tests.Says.{same_says}
use Rattle.dirf.proofs.tables.Tables.{in_names}
use Rattle.identifiers.specs.Found.{kind_found}

abbrev lacking : List ℕ
lacking = RTDS ∷ ESDS ∷ []

abbrev pub unless_lacking : ℕ → ℕ
unless_lacking k = if is_in k lacking then 0 else k

pub older : (s : Text) → unless_lacking (kind_in names2025 s) ≡ kind_in names2022 s
unfolding kind_in bytes_opens
older s =
    by_answer (same (bytes "RTDS") s) (λ q. is (bytes "RTDS") q refl)
    (λ q.
    by_answer (same (bytes "ESDS") s) (λ r. is (bytes "ESDS") r refl)
    (λ r.
    let both : kind_in names2025 s ≡ kind_in names2022 s = rw (q, r) in
    let kept : is_in (kind_in names2022 s) lacking ≡ false =
    not-true _ (in_names (λ k. not (is_in k lacking)) refl names2022 refl s) in
    rw (both, kept)))
  where
    is : (t : Text) → same t s ≡ true → unless_lacking (kind_in names2025 t) ≡ kind_in names2022 t
        → unless_lacking (kind_in names2025 s) ≡ kind_in names2022 s
    is t q e = subst (λ t. unless_lacking (kind_in names2025 t) ≡ kind_in names2022 t) ((same_says t s).0 q) e

-- the same of the kind that is found, with the two tests open to the prover's own search
abbrev pub unless_either : Option ℕ → Option ℕ
unless_either None = None
unless_either (Some k) = if eqb k RTDS || eqb k ESDS then None else Some k

found_unless : (k : ℕ) → kind_found (unless_lacking k) ≡ unless_either (kind_found k)
unfolding kind_found is_in some
found_unless k =
    by_answer (eqb k 0) (λ z. rw (eqb-true k 0 z))
    (λ z. by_answer (eqb k RTDS || eqb k ESDS) (λ q. rw (z, or-false, q)) (λ q. rw (z, or-false, q, z)))

pub in_older : (s : Text) → kind_found (kind_in names2022 s) ≡ unless_either (kind_found (kind_in names2025 s))
in_older s = ap kind_found (sym (older s)) ∙ found_unless (kind_in names2025 s)

-- for the prover's own search
pub ruleset by_tests = (in_older, nat_tests)
