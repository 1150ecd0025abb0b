-- What the tables of parents and of groups say of every kind, each by one computed test over them.
use Rattle.std.specs.Prelude.{if◌then◌else◌}
use Prim.Native.Nat.{ℕ, ◌≤◌, ◌<◌}
use mathlib.Core.Path.{◌≡◌, refl, sym, ap, ◌∙◌, subst}
use mathlib.Core.Bool.{Bool, true, ◌&&◌, ◌||◌, not, or-true, true≢false}
use mathlib.Core.Logic.{◌⊎◌, inl, inr, ⊎_elim}
use mathlib.Core.List.{List, ◌∷◌}
use native.Mathlib.Omega.{arith}
use lib.Dec.{eqb, ltb, leb}
use borrow.Author.Tests.{eqb-true, ltb-true, leb-true, not-true}
use Rattle.dirf.specs.Bytes.{every, is_in, bytes_opens}
use Rattle.dirf.specs.Kinds.{IDREC, PSE, declarants, blocks, beneficiaries, pensions, values, opens_nothing, kinds_opens}
use Rattle.dirf.specs.Edition.{edition_opens}
use Rattle.dirf.specs.Theorems.Plain.{◌∈◌}
use Rattle.dirf.specs.Theorems.Belongs.{parents, parents_of, of_a_person, persons, of_a_plan, groups, group_of, level, belongs_opens}
use Rattle.dirf.proofs.tests.Bools.{or_cases}
use Rattle.dirf.proofs.tests.Says.{Says, says, is_in_says}
use Rattle.dirf.proofs.tests.Lists.{every_in}
use Rattle.dirf.proofs.tables.Tables.{in_rows}
use Rattle.dirf.proofs.tree.Levels.{deeper_in}

-- what holds of each kind beside each of its parents
pub of_parents : (test : ℕ → ℕ → Bool) → every (λ g. every (λ k. every (test k) g.1) g.0) parents ≡ true → (h k : ℕ)
    → h ∈ parents_of k → test k h ≡ true
unfolding parents_of every
of_parents test all h k m = every_in (test k) m (in_rows (λ k. every (test k)) (λ k. refl) parents all k)

-- what holds of all that a table has for each of these kinds
in_rows_of : (rows : ℕ → List ℕ) (test : ℕ → Bool) {ks : List ℕ} {h k : ℕ} → every (λ k. every test (rows k)) ks ≡ true → k ∈ ks
    → h ∈ rows k → test h ≡ true
in_rows_of rows test all m n = every_in test n (every_in (λ k. every test (rows k)) m all)

-- all that a table has for each of these kinds is in a list
listed_for : (rows : ℕ → List ℕ) (ks js : List ℕ) → every (λ k. every (λ h. is_in h js) (rows k)) ks ≡ true → {h k : ℕ} → k ∈ ks
    → h ∈ rows k → h ∈ js
listed_for rows ks js all {h} m n = (is_in_says h js).0 (in_rows_of rows (λ h. is_in h js) all m n)

module _ (h k : ℕ) where
  pub parent_deeper : h ∈ parents_of k → level h < level k
  unfolding bytes_opens kinds_opens edition_opens belongs_opens
  parent_deeper m = ltb-true (level h) (level k) (of_parents (λ k h. ltb (level h) (level k)) refl h k m)

  -- a record stands in its parent's group,
  pub parent_group : h ∈ parents_of k → k ∈ group_of h
  unfolding bytes_opens kinds_opens edition_opens belongs_opens
  parent_group m = (is_in_says k (group_of h)).0 (of_parents (λ k h. is_in k (group_of h)) refl h k m)

  -- and what stands in its own group does too
  pub group_within : (j : ℕ) → k ∈ group_of h → j ∈ group_of k → j ∈ group_of h
  unfolding bytes_opens kinds_opens edition_opens belongs_opens
  group_within j m n =
      (is_in_says j (group_of h)).0
      (every_in (λ j. is_in j (group_of h)) n
      (every_in (λ k. every (λ j. is_in j (group_of h)) (group_of k)) m
      (in_rows (λ h ks. every (λ k. every (λ j. is_in j ks) (group_of k)) ks) (λ h. refl) groups refl h)))

  -- what opens nothing stands below a beneficiary, or as deep
  pub shut_below : h ∈ parents_of k → opens_nothing k ≡ true → 3 ≤ level h
  unfolding bytes_opens kinds_opens edition_opens belongs_opens
  shut_below m shut =
      leb-true 3 (level h) (rw shut at (of_parents (λ k h. not (opens_nothing k) || leb 3 (level h)) refl h k m))

  -- and so does an INFPC or INFPA
  pub pension_below : h ∈ parents_of k → k ∈ pensions → 3 ≤ level h
  unfolding bytes_opens kinds_opens edition_opens belongs_opens
  pension_below m p = leb-true 3 (level h) (in_rows_of parents_of (λ h. leb 3 (level h)) refl p m)

  -- no two parents of a kind stand in one group, but those of an IDREC
  pub parents_apart : (x : ℕ) → h ∈ parents_of k → x ∈ parents_of k → x ∈ group_of h → k ≡ IDREC
  unfolding bytes_opens kinds_opens edition_opens belongs_opens
  parents_apart x m n inside =
      ⊎_elim (eqb-true k IDREC)
      (λ q.
      let no = every_in (λ x. not (is_in x (group_of h))) n (every_in (λ h. every (λ x. not (is_in x (group_of h))) (parents_of k)) m q) in
      absurd (true≢false (sym ((is_in_says x (group_of h)).1 inside) ∙ not-true (is_in x (group_of h)) no)))
      (or_cases (eqb k IDREC) (every (λ h. every (λ x. not (is_in x (group_of h))) (parents_of k)) (parents_of k))
      (in_rows (λ k hs. eqb k IDREC || every (λ h. every (λ x. not (is_in x (group_of h))) hs) hs) (λ k. or-true (eqb k IDREC))
      parents refl k))

  -- a block is the declarant's,
  pub block_parent : k ∈ blocks → h ∈ parents_of k → h ∈ declarants
  unfolding bytes_opens kinds_opens edition_opens belongs_opens
  block_parent = listed_for parents_of blocks declarants refl

  -- an INFPC or INFPA a person's,
  pub pension_parent : k ∈ pensions → h ∈ parents_of k → h ∈ beneficiaries
  unfolding bytes_opens kinds_opens edition_opens belongs_opens
  pension_parent = listed_for parents_of pensions beneficiaries refl

  -- a value record a person's, or that of one of these,
  pub value_parent : k ∈ values → h ∈ parents_of k → (h ∈ beneficiaries) ⊎ (h ∈ pensions)
  unfolding bytes_opens kinds_opens edition_opens belongs_opens
  value_parent m n =
      let either : Says (is_in h beneficiaries || is_in h pensions) ((h ∈ beneficiaries) ⊎ (h ∈ pensions)) = search says in
      either.0 (in_rows_of parents_of (λ h. is_in h beneficiaries || is_in h pensions) refl m n)

  -- and whatever is of a health plan stands below another such record or the PSE
  pub plan_parent : k ∈ of_a_plan → h ∈ parents_of k → h ∈ PSE ∷ of_a_plan
  unfolding bytes_opens kinds_opens edition_opens belongs_opens
  plan_parent = listed_for parents_of of_a_plan (PSE ∷ of_a_plan) refl

  -- in the group of a person or of a pension stands nothing but pensions and value records
  pub person_group : h ∈ beneficiaries → k ∈ group_of h → k ∈ of_a_person
  unfolding bytes_opens kinds_opens edition_opens belongs_opens
  person_group = listed_for group_of beneficiaries of_a_person refl

  pub pension_group : h ∈ pensions → k ∈ group_of h → k ∈ of_a_person
  unfolding bytes_opens kinds_opens edition_opens belongs_opens
  pension_group = listed_for group_of pensions of_a_person refl

pub value_deep : {k : ℕ} → k ∈ values → 0 < level k
unfolding bytes_opens kinds_opens level
value_deep m = deeper_in m refl

pub pension_deep : {k : ℕ} → k ∈ pensions → 0 < level k
unfolding bytes_opens kinds_opens level
pension_deep m = deeper_in m refl

pub pension_listed : {k : ℕ} → k ∈ pensions → k ∈ of_a_person
unfolding bytes_opens kinds_opens
pension_listed {k} m = (is_in_says k of_a_person).0 (every_in (λ k. is_in k of_a_person) m refl)

pub pse_block : {k : ℕ} → k ≡ PSE → k ∈ blocks
unfolding bytes_opens kinds_opens
pse_block {k} q = (is_in_says k blocks).0 (ap (λ k. is_in k blocks) q)

pub block_deep : {k : ℕ} → k ∈ blocks → 0 < level k
unfolding bytes_opens kinds_opens level
block_deep m = deeper_in m refl

-- of an IDREC: it stands below the declarant or a block, and before every block
pub idrec_deep : (k : ℕ) → k ≡ IDREC → 0 < level k
unfolding bytes_opens kinds_opens level
idrec_deep k q = subst (λ k. 0 < level k) (sym q) (omega arith)

pub later_block : {k : ℕ} → k ∈ blocks → IDREC < k
unfolding bytes_opens kinds_opens
later_block {k} m = ltb-true IDREC k (every_in (ltb IDREC) m refl)

pub idrec_parent : (h k : ℕ) → k ≡ IDREC → h ∈ parents_of k → (h ∈ declarants) ⊎ (h ∈ blocks)
unfolding bytes_opens kinds_opens edition_opens belongs_opens
idrec_parent h k q m =
    ⊎_elim (λ d. inl ((is_in_says h declarants).0 d)) (λ b. inr ((is_in_says h blocks).0 b))
    (or_cases (is_in h declarants) (is_in h blocks)
    (every_in (λ h. is_in h declarants || is_in h blocks) (subst (λ k. h ∈ parents_of k) q m) refl))

pub idrec_high : (h k : ℕ) → k ≡ IDREC → h ∈ parents_of k → level h < 3
unfolding bytes_opens kinds_opens edition_opens belongs_opens
idrec_high h k q m = ltb-true (level h) 3 (every_in (λ h. ltb (level h) 3) (subst (λ k. h ∈ parents_of k) q m) refl)

-- where one of its parents stands in the group of another, that is the declarant and this a block
pub idrec_apart : (h x k : ℕ) → k ≡ IDREC → h ∈ parents_of k → x ∈ parents_of k → x ∈ group_of h → (h ∈ declarants) × (x ∈ blocks)
unfolding bytes_opens kinds_opens edition_opens belongs_opens
idrec_apart h x k q m n inside =
    let both = every_in (λ x. if is_in x (group_of h) then is_in h declarants && is_in x blocks else true)
    (subst (λ k. x ∈ parents_of k) q n)
    (every_in (λ h. every (λ x. if is_in x (group_of h) then is_in h declarants && is_in x blocks else true) (parents_of IDREC))
    (subst (λ k. h ∈ parents_of k) q m) refl) in
    let here : Says (if is_in x (group_of h) then is_in h declarants && is_in x blocks else true)
    (x ∈ group_of h → (h ∈ declarants) × (x ∈ blocks)) = search says in
    here.0 both inside

-- none of its parents is of a health plan,
pub idrec_no_plan : (h k : ℕ) → k ≡ IDREC → h ∈ parents_of k → h ∈ PSE ∷ of_a_plan → ⊥
unfolding bytes_opens kinds_opens edition_opens belongs_opens
idrec_no_plan h k q m p =
    true≢false
    (sym ((is_in_says h (PSE ∷ of_a_plan)).1 p)
    ∙ not-true (is_in h (PSE ∷ of_a_plan)) (every_in (λ h. not (is_in h (PSE ∷ of_a_plan))) (subst (λ k. h ∈ parents_of k) q m) refl))

-- and in the group of one stand blocks, a health plan, IDRECs and persons
pub idrec_group : (h j k : ℕ) → k ≡ IDREC → h ∈ parents_of k → j ∈ group_of h → (j ∈ blocks) ⊎ (j ∈ of_a_plan) ⊎ (j ∈ IDREC ∷ persons)
unfolding bytes_opens kinds_opens edition_opens belongs_opens
idrec_group h j k q m n =
    let any : Says (is_in j blocks || (is_in j of_a_plan || is_in j (IDREC ∷ persons)))
    ((j ∈ blocks) ⊎ (j ∈ of_a_plan) ⊎ (j ∈ IDREC ∷ persons)) =
    search says depth 12 in
    any.0
    (every_in (λ j. is_in j blocks || (is_in j of_a_plan || is_in j (IDREC ∷ persons))) n
    (every_in (λ h. every (λ j. is_in j blocks || (is_in j of_a_plan || is_in j (IDREC ∷ persons))) (group_of h))
    (subst (λ k. h ∈ parents_of k) q m) refl))
