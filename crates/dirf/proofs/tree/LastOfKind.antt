-- To know the record before it of the same kind under the same parent, it is enough to remember the last record of each kind: where a
-- record may stand, the last of its kind is the one that is looked for, or there is none.
use Rattle.std.specs.Prelude.{if◌then◌else◌}
use Prim.Native.Nat.{ℕ, suc, ◌-◌, ◌≤◌, ◌<◌}
use mathlib.Core.Path.{◌≡◌, refl, sym, ◌∙◌, subst}
use mathlib.Core.Bool.{Bool, true, false, ◌&&◌, true≢false}
use mathlib.Core.List.{List, [], ◌∷◌}
use mathlib.Core.Option.{Option, none, some}
use native.Mathlib.Omega.{arith}
use lib.Dec.{eqb}
use lib.ListN.{length}
use borrow.Author.Tests.{eqb-true, eqb-false, eq-eqb, ne_eqb}
use Rattle.dirf.specs.Kinds.{declarants}
use Rattle.dirf.specs.Edition.{Edition}
use Rattle.dirf.specs.Tree.{Rec, Open, declarant, kind_of_first, number_of_first, place, parent_of, in_order, may_stand}
use Rattle.dirf.specs.Keys.{last_under}
use Rattle.dirf.specs.Check.{Entry, entry_of, table_of}
use Rattle.dirf.specs.Theorems.Plain.{◌∈◌}
use Rattle.dirf.specs.Theorems.Belongs.{parents_of, group_of, level}
use Rattle.dirf.specs.Theorems.Sound.{Sound}
use Rattle.dirf.specs.Theorems.Whose.{kind_at, parent_at}
use Rattle.dirf.proofs.tests.Bools.{by_answer}
use Rattle.dirf.proofs.tests.Says.{below_or}
use Rattle.dirf.proofs.tree.Belongs.{parents_apart, idrec_high, idrec_apart, later_block}
use Rattle.dirf.proofs.tree.Parents.{has_parent}
use Rattle.dirf.proofs.tree.History.{History, table_length, entry_last, entry_earlier}
use Rattle.dirf.proofs.tree.OpenRecords.{Known, Last, OpenRecords, innermost, last_least, Holder, holder_parent}
use Rattle.dirf.proofs.tree.Opened.{open_now, placed}
use Rattle.dirf.proofs.tree.Held.{has_holder, in_group, third, block_third}

-- the last record of kind k
unfoldable pub last_of : List Rec → ℕ → Option Rec
last_of [] k = none
last_of (r ∷ rs) k = if eqb r.kind k then some r else last_of rs k

-- it, if its parent is line p
unfoldable pub if_under : ℕ → Option Rec → Option Rec
if_under p none = none
if_under p (some r) = if eqb r.parent p then some r else none

-- the last of kind k tells what stood last under line p
abbrev Tells : List Rec → ℕ → ℕ → Type 0
Tells rs p k = last_under rs p k ≡ if_under p (last_of rs k)

-- it does, unless the last record is of the kind and stands elsewhere
tells_on : (r : Rec) (rs : List Rec) (p k : ℕ) → (r.kind ≡ k → r.parent ≡ p) → ((r.kind ≡ k → ⊥) → Tells rs p k) → Tells (r ∷ rs) p k
unfolding last_under last_of if_under
tells_on r rs p k here other = go (eqb r.parent p) (eqb r.kind k) refl refl
  where
    go : (a b : Bool) → eqb r.parent p ≡ a → eqb r.kind k ≡ b
        → (if a && b then some r else last_under rs p k) ≡ if_under p (if b then some r else last_of rs k)
    go true true x y = rw x
    go false true x y = absurd (true≢false (sym (eq-eqb r.parent p (here (eqb-true r.kind k y))) ∙ x))
    go true false x y = other (eqb-false r.kind k y)
    go false false x y = other (eqb-false r.kind k y)

-- and where no line stands under line p yet
abbrev NoLine : List Rec → ℕ → Type 0
NoLine rs p = (m : ℕ) → m ≤ length rs → parent_at (table_of rs) m ≡ p → ⊥

none_tells : (rs : List Rec) (p k : ℕ) → NoLine rs p → (last_under rs p k ≡ none) × (if_under p (last_of rs k) ≡ none)
unfolding last_under last_of if_under entry_of
none_tells [] p k nowhere = (refl, refl)
none_tells (r ∷ rs) p k nowhere =
    let this = rw (entry_last r rs, parent_at) at (nowhere (suc (length rs)) (omega arith)) in
    go (eqb r.kind k) (ne_eqb r.parent p this)
    (none_tells rs p k (λ m h. rw (entry_earlier r rs m h, parent_at) at (nowhere m (omega arith))))
  where
    go : (b : Bool) → eqb r.parent p ≡ false → (last_under rs p k ≡ none) × (if_under p (last_of rs k) ≡ none)
        → ((if eqb r.parent p && b then some r else last_under rs p k) ≡ none) × (if_under p (if b then some r else last_of rs k) ≡ none)
    go true x earlier = rw x (earlier.0, refl)
    go false x earlier = rw x earlier

-- so it does where every line of the kind since line p stands under p
since_tells : (before : List Rec) (p k : ℕ) → ((m : ℕ) → m ≤ length before → parent_at (table_of before) m ≤ m - 1) → 0 < p
    → ((m : ℕ) → p < m → m ≤ length before → kind_at (table_of before) m ≡ k → parent_at (table_of before) m ≡ p) → Tells before p k
unfolding entry_of last_under last_of if_under
since_tells [] p k parents z under = refl
since_tells (r ∷ rs) p k parents z under =
    below_or (suc (length rs)) p
    (λ more.
    let this = rw (entry_last r rs, kind_at, parent_at) at (under (suc (length rs)) (omega arith) (omega arith)) in
    tells_on r rs p k this
    (λ _.
    since_tells rs p k (λ m h. rw (entry_earlier r rs m h, parent_at) at (parents m (omega arith))) z
    (λ m a h. rw (entry_earlier r rs m h, kind_at, parent_at) at (under m a (omega arith)))))
    (λ few. let n = none_tells (r ∷ rs) p k (λ m h at. omega (arith, parents m h, at)) in n.0 ∙ sym n.1)

module _ (e : Edition) (sound : Sound e) where
  -- every line of a kind since the record that is to hold one more of it stands directly under that record
  under_one : {before : List Rec} → History e before → (k : ℕ) (c : Option Open) (o : Open) (outer : List Open) → Known before o outer
      → Last before c (o ∷ outer) → in_order c k ≡ true → o.kind ∈ parents_of k
      → (m : ℕ) → o.number < m → m ≤ length before → kind_at (table_of before) m ≡ k → parent_at (table_of before) m ≡ o.number
  unfolding number_of_first kind_of_first
  under_one {before} hist k c o outer known last ordered to m over few kind =
      by_answer (eqb q o.number) (eqb-true q o.number)
      (λ x.
      let s = has_holder e sound hist m (omega arith, omega (arith, size)) (omega (arith, known.since m over few)) in
      let further : o.number < q = omega (arith, known.since m over few, eqb-false q o.number x) in
      let inside : kind_at t q ∈ group_of o.kind =
      subst (λ j. kind_at t q ∈ group_of j) known.kind
      (in_group e sound hist known.line.0 (omega (arith, size)) inner q further (omega (arith, s.above.1))) in
      let to' : kind_at t q ∈ parents_of k = subst (λ j. kind_at t q ∈ parents_of j) kind s.to in
      let idrec = parents_apart o.kind k (kind_at t q) to to' inside in
      let a = idrec_apart o.kind (kind_at t q) k idrec to to' inside in
      let three : o.number ≡ 3 =
      third e sound hist o.number (known.line.0, omega (arith, size, known.line.1))
      (subst (λ j. j ∈ declarants) (sym known.kind) a.0) in
      let l : (1 ≤ q) × (q ≤ length t) = (omega arith, omega (arith, size, s.above.1)) in
      let below = last_least before c (o ∷ outer) k (λ _. ordered) last (known.line.0, idrec_high o.kind k idrec to)
      q (omega (arith, s.above.1)) ((block_third e sound hist q l a.1).1 ∙ sym three) in
      absurd (omega (arith, below, later_block a.1, idrec)))
    where
      t : List Entry
      t = table_of before

      q : ℕ
      q = parent_at t m

      size : length t ≡ length before
      size = table_length before

      inner : (m : ℕ) → o.number < m → m < suc (length before) → o.number ≤ parent_at t m
      inner m a b = known.since m a (omega arith)

  -- where a record may stand, the last of its kind tells what stood last of that kind under its parent
  pub last_by_kind : {before : List Rec} → History e before → (k : ℕ) → may_stand e before k ≡ true → 0 < level k
      → last_under before (parent_of e before k) k ≡ if_under (parent_of e before k) (last_of before k)
  unfolding parent_of number_of_first
  last_by_kind {before} hist k stands deep =
      let q = placed e sound hist k in
      let p = has_parent e before k deep stands in
      go (place e before k).up q.known q.last q.holder p.1 p.2
    where
      c : Option Open
      c = (place e before k).last

      go : (up : List Open) → OpenRecords before (suc (length before)) (level k) up → Last before c up → Holder e (declarant before) k up
          → 0 < length up → in_order c k ≡ true → Tells before (number_of_first up) k
      go [] known last holds one ordered = absurd (omega arith)
      go (o ∷ outer) (innermost a b known rest) last holds one ordered =
          since_tells before o.number k (open_now e sound hist).parents known.line.0
          (under_one hist k c o outer known last ordered (holder_parent e (declarant before) k sound o.kind (kind_of_first outer) holds))
