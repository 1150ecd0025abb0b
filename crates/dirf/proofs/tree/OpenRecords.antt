-- What is known of open records, innermost first: lines and levels fall outwards, every line read since one of them stands in its group,
-- and above the beneficiaries no record before the open one is of a later kind. One more record leaves it so, and so does a place.
use Prim.Native.Nat.{ℕ, suc, ◌≤◌, ◌<◌}
use mathlib.Core.Path.{◌≡◌, refl, ap, ◌∙◌}
use mathlib.Core.Bool.{true, not}
use mathlib.Core.Logic.{⊎_elim}
use mathlib.Core.List.{List, [], ◌∷◌}
use mathlib.Core.Option.{Option, none, some}
use native.Mathlib.Nat.{le_trans}
use native.Mathlib.Omega.{arith}
use lib.Dec.{eqb}
use lib.ListN.{length}
use borrow.Author.Tests.{eq-eqb, ne_eqb, leb-true}
use Rattle.dirf.specs.Bytes.{is_in, lookup}
use Rattle.dirf.specs.Kinds.{PSE, pensions}
use Rattle.dirf.specs.Edition.{Edition}
use Rattle.dirf.specs.Tree.{Rec, Open, from, may_hold, kind_of_first, number_of_first, Place, place_in, may_follow, in_order}
use Rattle.dirf.specs.Check.{entry_of, table_of}
use Rattle.dirf.specs.Theorems.Plain.{◌∈◌}
use Rattle.dirf.specs.Theorems.Belongs.{parents_of, level}
use Rattle.dirf.specs.Theorems.Sound.{Sound}
use Rattle.dirf.specs.Theorems.Whose.{kind_at, parent_at}
use Rattle.dirf.proofs.tests.Bools.{and_left, and_right, or_cases, if_cases}
use Rattle.dirf.proofs.tests.Says.{is_in_says}
use Rattle.dirf.proofs.tree.Belongs.{parent_deeper}
use Rattle.dirf.proofs.tree.History.{entry_last, entry_earlier, line_cases}

-- so it is with the kind of each record directly below line p
abbrev pub Each : List Rec → ℕ → (ℕ → Type 0) → Type 0
Each before p P = (m : ℕ) → m ≤ length before → parent_at (table_of before) m ≡ p → P (kind_at (table_of before) m)

-- the innermost of these stands above the beneficiaries: below it every record opens, and their order is that of kinds
abbrev pub High : List Open → Type 0
High os = (0 < number_of_first os) × (level (kind_of_first os) < 3)

-- what is known of an open record, given those further out
pub record Known (before : List Rec) (o : Open) (outer : List Open) : Type 0 where
  pub line : (0 < o.number) × (o.number ≤ length before)
  pub kind : kind_at (table_of before) o.number ≡ o.kind
  pub parent : parent_at (table_of before) o.number ≡ number_of_first outer
  pub no_pension : High outer → o.kind ∈ pensions → ⊥
  pub since : (m : ℕ) → o.number < m → m ≤ length before → o.number ≤ parent_at (table_of before) m
  pub latest : High outer → Each before (number_of_first outer) (λ k. k ≤ o.kind)

-- what is known of the record that is open below the first of these; where none is, nothing stands there yet
abbrev pub Last : List Rec → Option Open → List Open → Type 0
Last before none os = High os → Each before (number_of_first os) (λ k. ⊥)
Last before (some o) os = Known before o os

-- open records, innermost first, all of them above line n and level l
pub data OpenRecords (before : List Rec) : ℕ → ℕ → List Open → Type 0 where
  none_open : {n l : ℕ} → 0 < n → OpenRecords before n l []
  innermost : {n l : ℕ} {o : Open} {outer : List Open} → o.number < n → level o.kind < l → Known before o outer
      → OpenRecords before o.number (level o.kind) outer → OpenRecords before n l (o ∷ outer)

module _ {before : List Rec} where
  pub first_number : {n l : ℕ} {os : List Open} → OpenRecords before n l os → number_of_first os < n
  unfolding number_of_first
  first_number (none_open z) = z
  first_number (innermost a b k h) = a

  pub first_kind : {n l : ℕ} {os : List Open} → OpenRecords before n l os
      → kind_at (table_of before) (number_of_first os) ≡ kind_of_first os
  unfolding number_of_first kind_of_first
  first_kind (none_open z) = refl
  first_kind (innermost a b k h) = k.kind

  pub first_line : {n l : ℕ} {os : List Open} → OpenRecords before n l os → 0 < length os → 0 < number_of_first os
  unfolding number_of_first
  first_line (none_open z) h = absurd (omega arith)
  first_line (innermost a b k rest) h = k.line.0

  -- levels fall, so there are at most as many open records as levels
  pub open_depth : {n l : ℕ} {os : List Open} → OpenRecords before n l os → length os ≤ l
  open_depth (none_open z) = omega arith
  open_depth (innermost a b known h) = omega (arith, open_depth h)

  pub wider : {n m l : ℕ} {os : List Open} → n ≤ m → OpenRecords before n l os → OpenRecords before m l os
  wider w (none_open z) = none_open (le_trans z w)
  wider w (innermost a b k h) = innermost (le_trans a w) b k h

  pub shallower : {n l m : ℕ} {os : List Open} → l ≤ m → OpenRecords before n l os → OpenRecords before n m os
  shallower w (none_open z) = none_open z
  shallower w (innermost a b k h) = innermost a (le_trans b w) k h

-- a kind in order behind the last one that stands there is no earlier than any
pub last_least : (before : List Rec) (c : Option Open) (os : List Open) (k : ℕ) → (0 < number_of_first os → in_order c k ≡ true)
    → Last before c os → High os → Each before (number_of_first os) (λ j. j ≤ k)
unfolding in_order may_follow
last_least before none os k ordered none_yet high m h e = absurd (none_yet high m h e)
last_least before (some x) os k ordered known high m h e =
    ⊎_elim (λ p. absurd (known.no_pension high ((is_in_says x.kind pensions).0 p)))
    (λ q. le_trans (known.latest high m h e) (leb-true x.kind k (and_right (not (eqb x.kind PSE)) _ q)))
    (or_cases (is_in x.kind pensions) _ (ordered high.0))

-- what one more record leaves open; and the record itself
module _ (r : Rec) (before : List Rec) where
  pub each_next : (p : ℕ) (P : ℕ → Type 0) → (r.parent ≡ p → P r.kind) → Each before p P → Each (r ∷ before) p P
  unfolding entry_of
  each_next p P this earlier m =
      line_cases (λ m. parent_at (table_of (r ∷ before)) m ≡ p → P (kind_at (table_of (r ∷ before)) m)) (length before) m
      (λ q. rw (entry_earlier r before m q, kind_at, parent_at) (earlier m q))
      (rw (entry_last r before, kind_at, parent_at) this)

  known_next : {o : Open} {outer : List Open} → o.number ≤ r.parent → number_of_first outer < o.number
      → Known before o outer → Known (r ∷ before) o outer
  unfolding entry_of
  known_next {o} {outer} inside above k =
      record {
        line = (k.line.0, omega (arith, k.line.1));
        kind = ap (λ x. x.kind) (entry_earlier r before o.number k.line.1) ∙ k.kind;
        parent = ap (λ x. x.parent) (entry_earlier r before o.number k.line.1) ∙ k.parent;
        no_pension = k.no_pension;
        since = λ m s.
            line_cases (λ m. o.number ≤ parent_at (table_of (r ∷ before)) m) (length before) m
            (λ q. rw (entry_earlier r before m q, parent_at) (k.since m s q))
            (rw (entry_last r before, parent_at) inside);
        latest = λ high. each_next (number_of_first outer) (λ j. j ≤ o.kind) (λ e. absurd (omega arith)) (k.latest high);
      }

  pub open_next : {n l : ℕ} {os : List Open} → number_of_first os ≤ r.parent → OpenRecords before n l os → OpenRecords (r ∷ before) n l os
  unfolding number_of_first
  open_next inside (none_open z) = none_open z
  open_next inside (innermost a b k h) =
      let f = first_number h in
      innermost a b (known_next inside f k) (open_next (omega arith) h)

  pub known_last : {up : List Open} → r.parent ≡ number_of_first up → (High up → r.kind ∈ pensions → ⊥)
      → (High up → Each before (number_of_first up) (λ j. j ≤ r.kind))
      → Known (r ∷ before) (record { number = suc (length before); kind = r.kind }) up
  unfolding entry_of
  known_last {up} parent no_pension least =
      record {
        line = (omega arith, omega arith);
        kind = ap (λ x. x.kind) (entry_last r before);
        parent = ap (λ x. x.parent) (entry_last r before) ∙ parent;
        no_pension = no_pension;
        since = λ m a b. absurd (omega arith);
        latest = λ high. each_next (number_of_first up) (λ j. j ≤ r.kind) (λ e. omega arith) (least high);
      }

module _ (e : Edition) (d k : ℕ) where
  -- the first of these, if there is one, may hold k
  abbrev pub Holder : List Open → Type 0
  Holder [] = Unit {0}
  Holder (o ∷ outer) = may_hold e d o.kind (kind_of_first outer) k ≡ true

  -- the place of k among open records: they are `up`, from its parent outwards
  pub record Placed (before : List Rec) (n : ℕ) (os : List Open) (q : Place) : Type 0 where
    pub known : OpenRecords before n (level k) q.up
    pub last : Last before q.last q.up
    pub holder : Holder q.up
    pub found : from (number_of_first q.up) os ≡ q.up

  module _ (sound : Sound e) where
    pub holder_parent : (h u : ℕ) → may_hold e d h u k ≡ true → h ∈ parents_of k
    unfolding may_hold
    holder_parent h u holds = sound.nested d h k (and_left (is_in k (lookup [] (e.below d) h)) _ holds)

    pub holders_parent : (up : List Open) → Holder up → 0 < length up → kind_of_first up ∈ parents_of k
    unfolding kind_of_first
    holders_parent [] holds one = absurd (omega arith)
    holders_parent (o ∷ outer) holds one = holder_parent o.kind (kind_of_first outer) holds

    pub placed_in : {before : List Rec} {n l : ℕ} {os : List Open} (c : Option Open) → Last before c os → OpenRecords before n l os
        → Placed before n os (place_in e d c os k)
    unfolding from number_of_first place_in
    placed_in c last (none_open z) = record { known = none_open z; last = last; holder = tt; found = refl }
    placed_in {before} {n} c last (innermost {o = o} {outer = outer} a b known h) =
        if_cases (Placed before n (o ∷ outer)) (may_hold e d o.kind (kind_of_first outer) k)
        (λ holds.
        record {
          known = innermost a (parent_deeper o.kind k (holder_parent o.kind (kind_of_first outer) holds)) known h;
          last = last;
          holder = holds;
          found = rw (eq-eqb o.number o.number refl);
        })
        (λ _.
        let q = placed_in (some o) known h in
        let f : number_of_first (place_in e d (some o) outer k).up < o.number = first_number q.known in
        record {
          known = wider (omega arith) q.known;
          last = q.last;
          holder = q.holder;
          found = rw (ne_eqb (number_of_first (place_in e d (some o) outer k).up) o.number (λ e. omega arith)) q.found;
        })
