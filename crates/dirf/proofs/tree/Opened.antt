-- The open records of every history, and the place of every record among them.
use Prim.Native.Nat.{ℕ, suc, ◌-◌, ◌≤◌, ◌<◌}
use mathlib.Core.Path.{◌≡◌, refl, ap, ◌∙◌}
use mathlib.Core.List.{List, [], ◌∷◌}
use mathlib.Core.Option.{none}
use native.Mathlib.Nat.{le_refl}
use native.Mathlib.Omega.{arith}
use lib.ListN.{length}
use Rattle.dirf.specs.Kinds.{opens_nothing}
use Rattle.dirf.specs.Edition.{Edition}
use Rattle.dirf.specs.Tree.{Rec, Open, from, opened, declarant, kind_of_first, number_of_first, place, parent_of}
use Rattle.dirf.specs.Check.{entry_of, table_of}
use Rattle.dirf.specs.Theorems.Plain.{◌∈◌}
use Rattle.dirf.specs.Theorems.Belongs.{parents_of, deepest, level}
use Rattle.dirf.specs.Theorems.Sound.{Sound}
use Rattle.dirf.specs.Theorems.Whose.{parent_at}
use Rattle.dirf.proofs.tests.Bools.{if_cases}
use Rattle.dirf.proofs.tree.Belongs.{shut_below, pension_below}
use Rattle.dirf.proofs.tree.Levels.{level_most, opens_level}
use Rattle.dirf.proofs.tree.Parents.{has_parent}
use Rattle.dirf.proofs.tree.History.{History, start, next, entry_last, entry_earlier, line_cases}
use Rattle.dirf.proofs.tree.OpenRecords.{OpenRecords, none_open, innermost, Each, High, first_number, wider, shallower}
use Rattle.dirf.proofs.tree.OpenRecords.{last_least, open_next, known_last, Holder, Placed, placed_in, holders_parent}

-- the open records; above the beneficiaries nothing stands below the innermost; and every line's parent stands above it
pub record OpenNow (before : List Rec) (os : List Open) : Type 0 where
  pub records : OpenRecords before (suc (length before)) deepest os
  pub none_below : High os → Each before (number_of_first os) (λ k. ⊥)
  pub parents : (m : ℕ) → m ≤ length before → parent_at (table_of before) m ≤ m - 1

parents_next : (r : Rec) (before : List Rec) → r.parent ≤ length before
    → ((m : ℕ) → m ≤ length before → parent_at (table_of before) m ≤ m - 1)
    → (m : ℕ) → m ≤ suc (length before) → parent_at (table_of (r ∷ before)) m ≤ m - 1
unfolding entry_of
parents_next r before small parents m =
    line_cases (λ m. parent_at (table_of (r ∷ before)) m ≤ m - 1) (length before) m
    (λ q. rw (entry_earlier r before m q, parent_at) (parents m q)) (rw (entry_last r before, parent_at) (omega (arith, small)))

-- what stands below a record is deeper than the declarant
deep : {before : List Rec} {n l : ℕ} {up : List Open} → OpenRecords before n l up → 0 < number_of_first up → 0 < l
unfolding number_of_first
deep (none_open z) h = absurd (omega arith)
deep (innermost a b known rest) h = omega arith

some_first : (up : List Open) → 0 < number_of_first up → 0 < length up
unfolding number_of_first
some_first [] h = absurd (omega arith)
some_first (o ∷ outer) h = omega arith

module _ (e : Edition) (sound : Sound e) where
  -- a record whose parents all stand no higher than a beneficiary stands below none of those that do
  no_high : {before : List Rec} {n : ℕ} (k : ℕ) (up : List Open) → OpenRecords before n (level k) up → Holder e (declarant before) k up
      → (kind_of_first up ∈ parents_of k → 3 ≤ level (kind_of_first up)) → High up → ⊥
  no_high {before} k up known holds low high =
      omega (arith, low (holders_parent e (declarant before) k sound up holds (some_first up high.0)), high.1)

  pub open_now : {before : List Rec} → History e before → OpenNow before (opened before)
  unfolding opened place parent_of table_of number_of_first
  open_now start =
      record {
        records = none_open {n = 1} (omega arith);
        none_below = λ high. absurd (omega (arith, high.0));
        parents = λ m h. let z : m ≡ 0 = omega arith in rw z (omega arith);
      }
  open_now (next {r = r} {before = before} stands parent h) =
      let now = open_now h in
      let k = r.kind in
      let q = placed_in e (declarant before) k sound none now.none_below now.records in
      let f = first_number q.known in
      let outer : from r.parent (opened before) ≡ (place e before k).up = ap (λ n. from n (opened before)) parent ∙ q.found in
      let parents = parents_next r before (omega arith) now.parents in
      let least = last_least before (place e before k).last (place e before k).up k
      (λ z. (has_parent e before k (deep q.known z) stands).2) q.last in
      let under = no_high k (place e before k).up q.known q.holder in
      rw outer
      (if_cases (OpenNow (r ∷ before)) (opens_nothing k)
      (λ shut.
      record {
        records = shallower (level_most k) (wider (omega arith) (open_next r before (omega arith) q.known));
        none_below = λ high. absurd (under (λ p. shut_below _ k p shut) high);
        parents = parents;
      })
      (λ opens.
      record {
        records = innermost (le_refl (suc (suc (length before)))) (opens_level k opens)
            (known_last r before parent (λ high p. under (λ m. pension_below _ k m p) high) least)
            (open_next r before (omega arith) q.known);
        none_below = λ high m s at. absurd (omega (arith, parents m s, at));
        parents = parents;
      }))

  pub open_records : {before : List Rec} → History e before → OpenRecords before (suc (length before)) deepest (opened before)
  open_records h = (open_now h).records

  pub placed : {before : List Rec} → History e before → (k : ℕ)
      → Placed e (declarant before) k before (suc (length before)) (opened before) (place e before k)
  unfolding place
  placed {before} h k = placed_in e (declarant before) k sound none (open_now h).none_below (open_now h).records

  -- nothing holds what stands no deeper than the declarant
  pub unheld : {before : List Rec} → History e before → (k : ℕ) → (0 < level k → ⊥) → (place e before k).up ≡ []
  unheld {before} h k flat = go (place e before k).up (placed h k).known
    where
      go : (up : List Open) → OpenRecords before (suc (length before)) (level k) up → up ≡ []
      go [] known = refl
      go (o ∷ outer) (innermost a b known rest) = absurd (flat (omega arith))
