-- What callers of the tables need: what any table does, what tables say of an edition, and that an edition's own tables say it.
use Prim.Native.Nat.{ℕ, ◌+◌, ◌*◌, ◌≤◌, ◌<◌}
use mathlib.Core.Path.{◌≡◌, refl, sym, ap, ◌∙◌}
use mathlib.Core.Bool.{Bool, true, false, and-false}
use mathlib.Core.List.{List, [], ◌++◌}
use native.Mathlib.Nat.{add-zero, zero-add, min-le_left, lt_of_lt_of_le, not-suc-le-zero}
use native.Mathlib.Omega.{arith}
use lib.Dec.{eqb, ltb}
use lib.ListN.{length, get_or, drop}
use lib.Seq.{get_or-drop}
use borrow.Author.Tests.{ltb-true, lt-ltb, le-ltb}
use Rattle.dirf.specs.Bytes.{Text, every, some, is_in, lookup}
use Rattle.dirf.specs.Row.{Row}
use Rattle.dirf.specs.Edition.{Edition, kind_of, name_of, rows_of, is_base}
use Rattle.dirf.specs.Tree.{may_hold}
use Rattle.dirf.proofs.tests.Bools.{if_cases}
use Rattle.dirf.proofs.tests.Says.{below_or}
use Rattle.dirf.proofs.tables.Tables.{in_table, in_names}
use Rattle.fields.specs.Places.{most_fields}
use Rattle.kinds.specs.Kinds.{kinds}
use Rattle.layout.specs.Tables.{holders, columns, name_in, base_in, name_table, row_bytes, record_bytes, row_in, rows_in, count_in}
use Rattle.layout.specs.Tables.{byte_in, row_table, record_of, yes, yes_in, holds_in, below_table}
use Rattle.layout.specs.LaidOut.{Say, SayRows, SayBelow, is_kind, is_column, LaidOut}
use Rattle.layout.specs.Codes.{row_codes, row_said}
use Rattle.kinds.proofs.Past.{by_kind, some_past, is_in_past, lookup_past, rows_past}
use Rattle.kinds.proofs.Tab.{tab_at, tab_length, tab_same, tab_each, tab2_at}
use Rattle.layout.proofs.Concat.{concat_drop}

-- any table
pub row_said_lem : (t : List ℕ) (k i : ℕ) → i < count_in t k → row_said (row_codes t k i) ≡ row_in t k i
unfolding row_said row_codes row_in count_in
row_said_lem t k i =
    by_kind k (λ a. rw (lt-ltb k kinds a) (λ h. rw (lt-ltb i most_fields (lt_of_lt_of_le h (min-le_left most_fields _)))))
    (λ a. rw (le-ltb k kinds a) (λ h. absurd (not-suc-le-zero h)))

pub rows_length : (t : List ℕ) (k : ℕ) → length (rows_in t k) ≡ count_in t k
unfolding rows_in
rows_length t k = tab_length (row_in t k) (count_in t k) 0

pub rows_at : (t : List ℕ) (k i : ℕ) (d : Row) → i < count_in t k → get_or (rows_in t k) i d ≡ row_in t k i
unfolding rows_in
rows_at t k i d h = tab_at (row_in t k) d (count_in t k) i h

pub count_bound : (t : List ℕ) (k : ℕ) → count_in t k ≤ most_fields
unfolding count_in
count_bound t k = if_cases (λ n. n ≤ most_fields) (ltb k kinds) (λ _. min-le_left most_fields _) (λ _. omega arith)

-- what a table of rows says of an edition holds of the edition: no kind has more than fifteen fields
module _ {e : Edition} {rows : List ℕ} (say : SayRows e rows) where
  pub count_is : (k : ℕ) → count_in rows k ≡ length (rows_of e k)
  count_is k = sym (rows_length rows k) ∙ ap length (say.fields k)

  pub few_rows : (k : ℕ) → length (rows_of e k) ≤ most_fields
  few_rows k = omega (arith, count_is k, count_bound rows k)

-- a record's line of rows reads the same alone, so that the computed test over all records counts no further than a line
module _ (t : List ℕ) (k : ℕ) where
  byte_alone : (i j : ℕ) → byte_in t k i j ≡ byte_in (drop (k * record_bytes) t) 0 i j
  unfolding byte_in
  byte_alone i j =
      let e : k * record_bytes + 1 + i * row_bytes + j ≡ k * record_bytes + (1 + i * row_bytes + j) = omega arith in
      ap (λ x. get_or t x 0) e ∙ sym (get_or-drop (k * record_bytes) t (1 + i * row_bytes + j) 0)

  row_alone : (i : ℕ) → row_in t k i ≡ row_in (drop (k * record_bytes) t) 0 i
  unfolding row_in
  row_alone i = simp byte_alone

  count_alone : k < kinds → count_in t k ≡ count_in (drop (k * record_bytes) t) 0
  unfolding count_in
  count_alone h = rw (lt-ltb k kinds h, get_or-drop (k * record_bytes) t 0 0, add-zero (k * record_bytes))

  rows_alone : k < kinds → rows_in t k ≡ rows_in (drop (k * record_bytes) t) 0
  unfolding rows_in
  rows_alone h =
      let line = drop (k * record_bytes) t in
      rw (count_alone h) (tab_same (row_in t k) (row_in line 0) row_alone 0 (count_in line 0))

yes_says : (b : Bool) → eqb (yes b) 89 ≡ b
unfolding yes
yes_says true = refl
yes_says false = refl

-- an edition that is laid out in tables is what its own tables say
module _ (e : Edition) (l : LaidOut e) where
  abbrev record_at : ℕ → List ℕ
  record_at k = record_of (rows_of e k)

  rows_there : (k : ℕ) → k < kinds → rows_in (row_table e) k ≡ rows_of e k
  unfolding row_table
  rows_there k h =
      let r = concat_drop record_at record_bytes 0 kinds k l.widths h in
      rows_alone (row_table e) k h ∙ ap (λ l. rows_in l 0) r.1 ∙ ap (λ x. rows_in (record_at x ++ r.0) 0) (zero-add k)
      ∙ tab_each (λ k. rows_in (record_at k ++ r.0) 0) (rows_of e) kinds (l.records r.0) k h

  no_rows : (t : List ℕ) (k : ℕ) → kinds ≤ k → rows_in t k ≡ rows_of e k
  unfolding rows_in count_in rows_of
  no_rows t k h = rw (le-ltb k kinds h) (sym (rows_past kinds k h e.layout l.laid_kinds))

  no_name : (t : List ℕ) (k : ℕ) → kinds ≤ k → name_in t k ≡ name_of e k
  unfolding name_in name_of
  no_name t k h = rw (le-ltb k kinds h, lookup_past kinds k h [] e.names l.named_kinds)

  no_base : (t : List ℕ) (k : ℕ) → kinds ≤ k → base_in t k ≡ is_base e k
  unfolding name_in base_in is_base
  no_base t k h = rw (le-ltb k kinds h, some_past kinds k h (λ n. n.0) e.names l.named_kinds)

  -- every kind that an identifier names is a number of the tables
  pub kind_small : (s : Text) → kind_of e s < kinds
  unfolding kind_of
  kind_small s = ltb-true (kind_of e s) kinds (in_names is_kind refl e.names l.named_kinds s)

  pub says_rows : SayRows e (row_table e)
  says_rows = record { fields = λ k. by_kind k (rows_there k) (no_rows (row_table e) k) }

  pub says : Say e (name_table e) (row_table e)
  says =
      record {
        name = λ k. by_kind k (tab_each (name_in (name_table e)) (name_of e) kinds l.name k) (no_name (name_table e) k);
        base = λ k. by_kind k (tab_each (base_in (name_table e)) (is_base e) kinds l.base k) (no_base (name_table e) k);
        all_rows = says_rows;
      }

  module _ (d h k : ℕ) where
    yes_there : h < holders → k < columns → eqb (get_or (get_or (below_table e d) h []) k 0) 89 ≡ is_in k (lookup [] (e.below d) h)
    unfolding below_table
    yes_there a b =
        ap (λ x. eqb x 89) (tab2_at (λ h k. yes (is_in k (lookup [] (e.below d) h))) 0 holders columns h k a b)
        ∙ yes_says (is_in k (lookup [] (e.below d) h))

    yes_below : yes_in (below_table e d) h k ≡ is_in k (lookup [] (e.below d) h)
    unfolding yes_in is_in some every
    yes_below =
        below_or holders h
        (λ a.
        below_or columns k
        (λ b. rw (lt-ltb h holders a, lt-ltb k columns b) (yes_there a b))
        (λ b.
        let all = in_table (λ h. every is_column) [] (λ h. refl) (e.below d) (l.held d) h in
        simp (le-ltb k columns b, and-false, is_in_past columns k b (lookup [] (e.below d) h) all)))
        (λ a. rw (le-ltb h holders a, lookup_past holders h a [] (e.below d) (l.holds d)))

  pub says_below : (d : ℕ) → SayBelow e d (below_table e d)
  unfolding holds_in may_hold
  says_below d h u k = rw (yes_below d h k)
