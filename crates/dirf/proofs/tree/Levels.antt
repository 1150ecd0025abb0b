-- How deep kinds stand: what opens, what stands alone, what has a key.
use Prim.Native.Nat.{ℕ, ◌≤◌, ◌<◌}
use mathlib.Core.Path.{◌≡◌, refl, sym, ◌∙◌}
use mathlib.Core.Bool.{true, false, ◌||◌, true≢false, false≢true}
use mathlib.Core.Logic.{⊎_elim}
use mathlib.Core.List.{List, [], ◌∷◌}
use native.Mathlib.Omega.{arith}
use lib.Dec.{eqb, ltb}
use lib.ListN.{length}
use borrow.Author.Tests.{eqb-true, ltb-true}
use Rattle.dirf.specs.Bytes.{every, is_in, bytes_opens}
use Rattle.dirf.specs.Kinds.{IDREC, INFPC, INFPA, OPSE, TPSE, DTPSE, alone}
use Rattle.dirf.specs.Kinds.{beneficiaries, values, is_beneficiary, is_block}
use Rattle.dirf.specs.Kinds.{opens_nothing, stands_once, kinds_opens}
use Rattle.dirf.specs.Keys.{by_two_fields, by_one_field, key_fields, has_key}
use Rattle.dirf.specs.Theorems.Plain.{◌∈◌}
use Rattle.dirf.specs.Theorems.Belongs.{deepest, level}
use Rattle.dirf.proofs.tests.Bools.{if_cases, or_cases}
use Rattle.dirf.proofs.tests.Says.{is_in_says}
use Rattle.dirf.proofs.tests.Lists.{every_in}

pub level_in : (l : ℕ) {k : ℕ} {ks : List ℕ} → every (λ k. eqb (level k) l) ks ≡ true → k ∈ ks → level k ≡ l
level_in l {k} all m = eqb-true (level k) l (every_in (λ k. eqb (level k) l) m all)

pub alone_level : {k : ℕ} → k ∈ alone → level k ≡ 0
unfolding bytes_opens kinds_opens level
alone_level = level_in 0 refl

-- no kind stands lower than one that opens nothing, and whatever opens stands higher
levels : (k : ℕ) → (level k ≤ deepest) × (opens_nothing k ≡ false → level k < deepest)
unfolding level
levels k =
    if_cases Low (opens_nothing k) (λ v. (omega arith, λ opens. absurd (true≢false (sym v ∙ opens)))) (λ _.
    if_cases Low (is_in k (INFPC ∷ INFPA ∷ DTPSE ∷ [])) (λ _. low 4 (omega arith)) (λ _.
    if_cases Low (is_beneficiary k || eqb k TPSE) (λ _. low 3 (omega arith)) (λ _.
    if_cases Low (is_in k (IDREC ∷ OPSE ∷ [])) (λ _. low 2 (omega arith)) (λ _.
    if_cases Low (is_block k) (λ _. low 1 (omega arith)) (λ _. low 0 (omega arith))))))
  where
    Low : ℕ → Type 0
    Low l = (l ≤ deepest) × (opens_nothing k ≡ false → l < deepest)

    low : (l : ℕ) → l < deepest → Low l
    low l h = (omega arith, λ _. h)

pub level_most : (k : ℕ) → level k ≤ deepest
level_most k = (levels k).0

pub opens_level : (k : ℕ) → opens_nothing k ≡ false → level k < deepest
opens_level k = (levels k).1

-- one test over a list says that all of it stands below the declarant
pub deeper_in : {k : ℕ} {ks : List ℕ} → k ∈ ks → every (λ k. ltb 0 (level k)) ks ≡ true → 0 < level k
deeper_in {k} m all = ltb-true 0 (level k) (every_in (λ k. ltb 0 (level k)) m all)

-- what stands once stands below the declarant,
pub once_below : (k : ℕ) → stands_once k ≡ true → 0 < level k
unfolding stands_once bytes_opens kinds_opens level
once_below k h = deeper_in ((is_in_says k values).0 h) refl

-- and so does what has a key
pub key_below : (k : ℕ) → has_key k ≡ true → 0 < level k
unfolding has_key key_fields is_beneficiary bytes_opens kinds_opens level
key_below k =
    if_cases Key (is_in k by_two_fields) (λ h _. deeper_in ((is_in_says k by_two_fields).0 h) refl)
    (λ _.
    if_cases Key (is_in k by_one_field || is_beneficiary k)
    (λ h _.
    ⊎_elim (λ i. deeper_in ((is_in_says k by_one_field).0 i) refl) (λ b. deeper_in ((is_in_says k beneficiaries).0 b) refl)
    (or_cases (is_in k by_one_field) (is_beneficiary k) h))
    (λ _ e. absurd (false≢true e)))
  where
    Key : List ℕ → Type 0
    Key fs = ltb 0 (length fs) ≡ true → 0 < level k
