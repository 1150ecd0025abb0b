-- The last line of a group: what it says of parents, that the lines up to it are the group's, and what one more line changes.
use Rattle.std.specs.Prelude.{if◌then◌else◌}
use Prim.Native.Nat.{ℕ, zero, suc, ◌+◌, ◌-◌, ◌≤◌, ◌<◌}
use mathlib.Core.Path.{◌≡◌, refl, sym, ap, ◌∙◌, subst}
use mathlib.Core.Bool.{true, not, true≢false}
use mathlib.Core.Logic.{⊎_elim}
use mathlib.Core.List.{List, [], ◌∷◌, map}
use native.Mathlib.Omega.{arith}
use lib.Dec.{eqb, leb}
use lib.ListN.{length, get_or, drop, length-drop, drop_of_length-le}
use lib.Seq.{get_or-drop}
use borrow.Author.Tests.{eqb-true, eqb-false, leb-true, leb-false, not-true}
use Rattle.dirf.specs.Bytes.{is_in, bytes_opens}
use Rattle.dirf.specs.Kinds.{Dirf, RESPO, FIMDirf, alone, kinds_opens}
use Rattle.dirf.specs.Edition.{edition_opens}
use Rattle.dirf.specs.Tree.{Rec, Open, number_of_first}
use Rattle.dirf.specs.Check.{Entry, entry_of, table_of, following, last_at}
use Rattle.dirf.specs.Theorems.Plain.{◌∈◌}
use Rattle.dirf.specs.Theorems.Belongs.{parents_of, belongs_opens}
use Rattle.dirf.specs.Theorems.Whose.{no_entry, kind_at, parent_at, IsLine, BelongsTo, Owned}
use Rattle.dirf.specs.Theorems.Groups.{InGroup, itself, below, Grouped}
use Rattle.dirf.proofs.tests.Bools.{if_cases, by_answer, or_cases}
use Rattle.dirf.proofs.tests.Says.{is_in_says, below_or}
use Rattle.dirf.proofs.tree.Belongs.{of_parents, parent_deeper}
use Rattle.dirf.proofs.tree.Levels.{alone_level}
use Rattle.dirf.proofs.tree.History.{table_length, entry_last, entry_earlier, line_cases}
use Rattle.dirf.proofs.tree.OpenRecords.{OpenRecords, none_open, innermost, first_number}

-- of the entries behind a line, those that stand in its group have parents that are not above it, and the next one has not
module _ (n : ℕ) where
  following_few : (ts : List Entry) → following n ts ≤ length ts
  unfolding following
  following_few [] = omega arith
  following_few (x ∷ ts) =
      if_cases (λ c. c ≤ suc (length ts)) (leb n x.parent) (λ _. omega (arith, following_few ts)) (λ _. omega arith)

  following_all : (ts : List Entry) (i : ℕ) → i < following n ts → n ≤ (get_or ts i no_entry).parent
  unfolding following
  following_all [] i = λ h. absurd (omega arith)
  following_all (x ∷ ts) zero =
      if_cases (λ c. 0 < c → n ≤ x.parent) (leb n x.parent) (λ q _. leb-true n x.parent q) (λ _ h. absurd (omega arith))
  following_all (x ∷ ts) (suc i) =
      if_cases (λ c. suc i < c → n ≤ (get_or ts i no_entry).parent) (leb n x.parent) (λ _ h. following_all ts i (omega arith))
      (λ _ h. absurd (omega arith))

  following_most : (ts : List Entry) (c : ℕ) → c ≤ length ts → ((i : ℕ) → i < c → n ≤ (get_or ts i no_entry).parent) → c ≤ following n ts
  unfolding following
  following_most ts zero few all = omega arith
  following_most [] (suc c) few all = absurd (omega arith)
  following_most (x ∷ ts) (suc c) few all =
      if_cases (λ f. suc c ≤ f) (leb n x.parent)
      (λ _. omega (arith, following_most ts c (omega arith) (λ i h. all (suc i) (omega arith))))
      (λ q. absurd (omega (arith, leb-false n x.parent q, all 0 (omega arith))))

module _ (t : List Entry) (n : ℕ) where
  -- the parent of a line behind line n
  behind : (i : ℕ) → (get_or (drop n t) i no_entry).parent ≡ parent_at t (suc (n + i))
  behind i = ap (λ (x : Entry). x.parent) (get_or-drop n t i no_entry)

  pub last_few : n ≤ length t → last_at t n ≤ length t
  unfolding last_at
  last_few l = omega (arith, following_few n (drop n t), length-drop n t)

  -- nothing stands behind the last entry
  pub last_none : length t ≤ n → last_at t n ≡ n
  unfolding last_at following
  last_none past = rw (drop_of_length-le t past) (omega arith)

  -- up to the last line no parent stands above line n,
  pub within_group : (m : ℕ) → m ≤ last_at t n → (j : ℕ) → n < j → j ≤ m → n ≤ parent_at t j
  unfolding last_at
  within_group m h j over under =
      let i = j - suc n in
      let at : suc (n + i) ≡ j = omega arith in
      subst (λ j. n ≤ parent_at t j) at (rw (← behind i) (following_all n (drop n t) i (omega arith)))

  -- and a line up to which none does is not behind it
  pub group_within : (m : ℕ) → n ≤ m → m ≤ length t → ((j : ℕ) → n < j → j ≤ m → n ≤ parent_at t j) → m ≤ last_at t n
  unfolding last_at
  group_within m over few all =
      let c = m - n in
      let most = following_most n (drop n t) c (omega (arith, length-drop n t))
      (λ i h. rw (behind i) (all (suc (n + i)) (omega arith) (omega arith))) in
      omega (arith, most)

-- no line has a parent among these
no_parent : (h k : ℕ) → h ∈ parents_of k → h ∈ Dirf ∷ RESPO ∷ FIMDirf ∷ [] → ⊥
unfolding bytes_opens kinds_opens edition_opens belongs_opens
no_parent h k m i =
    let ks = Dirf ∷ RESPO ∷ FIMDirf ∷ [] in
    true≢false (sym ((is_in_says h ks).1 i) ∙ not-true (is_in h ks)
    (of_parents (λ k h. not (is_in h (Dirf ∷ RESPO ∷ FIMDirf ∷ []))) refl h k m))

-- of a table whose groups are unbroken
module _ {t : List Entry} (owned : Owned t) where
  -- a line with a parent belongs to it
  pub belongs : (m : ℕ) → IsLine t m → 1 ≤ parent_at t m → BelongsTo t m (parent_at t m)
  belongs m l h = ⊎_elim (λ nobodys. absurd (omega (arith, nobodys.parent))) (λ b. b) (owned.line m l)

  no_line : {n m : ℕ} → InGroup t n m → m ≡ 0 → n ≡ 0
  no_line itself z = z
  no_line {n} (below {m} g) z = no_line g (ap (parent_at t) z)

  -- every line of a group comes no later than the group's last
  in_lines : {n m : ℕ} → 1 ≤ n → InGroup t n m → IsLine t m → (n ≤ m) × (m ≤ last_at t n)
  unfolding last_at
  in_lines one itself l = (omega arith, omega arith)
  in_lines {n} one (below {m} g) l =
      let some : 1 ≤ parent_at t m = below_or 1 (parent_at t m) (λ h. absurd (omega (arith, no_line g (omega arith)))) (λ h. h) in
      let b = belongs m l some in
      let up = in_lines one g (some, omega (arith, b.above.1, l.1)) in (
        omega (arith, up.0, b.above.1),
        group_within t n m (omega (arith, up.0, b.above.1)) l.1
            (λ j over under.
            below_or (suc (parent_at t m)) j
            (λ between. within_group t n (parent_at t m) up.1 j over (omega arith))
            (λ behind.
            by_answer (eqb j m) (λ q. subst (λ j. n ≤ parent_at t j) (sym (eqb-true j m q)) up.0)
            (λ q. omega (arith, up.0, b.unbroken j behind (omega (arith, eqb-false j m q)))))),
      )

  -- and every line up to that is the group's
  in_group : (f n m : ℕ) → m < f → 1 ≤ n → IsLine t m → (n ≤ m) × (m ≤ last_at t n) → InGroup t n m
  in_group zero n m low one l h = absurd (omega arith)
  in_group (suc f) n m low one l h =
      by_answer (eqb m n) (λ q. subst (InGroup t n) (sym (eqb-true m n q)) itself)
      (λ q.
      let held = within_group t n m h.1 m (omega (arith, h.0, eqb-false m n q)) (omega arith) in
      let b = belongs m l (omega arith) in
      below
      (in_group f n (parent_at t m) (omega (arith, b.above.1)) one (b.above.0, omega (arith, b.above.1, l.1))
      (held, omega (arith, b.above.1, h.1))))

  -- a line whose group goes on is the parent of the next
  next_below : (n : ℕ) → IsLine t n → n < last_at t n → BelongsTo t (suc n) n
  next_below n l more =
      let few = last_few t n l.1 in
      let held = within_group t n (suc n) more (suc n) (omega arith) (omega arith) in
      let b = belongs (suc n) (omega arith, omega arith) (omega (arith, l.0)) in
      let p : parent_at t (suc n) ≡ n = omega (arith, b.above.1) in
      subst (BelongsTo t (suc n)) p b

  pub grouped : Grouped t
  unfolding last_at
  grouped =
      record {
        lines = λ n m l k. (λ g. in_lines l.0 g k, in_group (suc m) n m (omega arith) l.0 k);
        last = λ n l. (omega arith, last_few t n l.1);
        of_one = λ n l i.
            below_or (suc n) (last_at t n) (λ h. omega arith)
            (λ more. absurd (no_parent (kind_at t n) (kind_at t (suc n)) (next_below n l more).to i));
        no_other = λ n m l k a g. alone_in l.0 k a g;
      }
    where
      alone_in : {n m : ℕ} → 1 ≤ n → IsLine t m → kind_at t m ∈ alone → InGroup t n m → n ≡ m
      alone_in one l a itself = refl
      alone_in {n} one l a (below {m} g) =
          ⊎_elim (λ nobodys. absurd (omega (arith, no_line g nobodys.parent)))
          (λ b. absurd (omega (arith, parent_deeper (kind_at t (parent_at t m)) (kind_at t m) b.to, alone_level a))) (owned.line m l)

-- What one more line changes: it becomes the last one of every record above it.
module _ (before : List Rec) where
  abbrev t : List Entry
  t = table_of before

  -- from line n on no line has a parent above it
  abbrev Since : ℕ → Type 0
  Since n = (j : ℕ) → n < j → j ≤ length before → n ≤ parent_at t j

  -- the open records of which this is so are those from the innermost outwards
  open_since : (n : ℕ) {k l : ℕ} {os : List Open} → OpenRecords before k l os → is_in n (map (λ o. o.number) os) ≡ true
      → (n ≤ number_of_first os) × Since n
  unfolding number_of_first bytes_opens
  open_since n (none_open z) i = absurd (true≢false (sym i))
  open_since n (innermost {o = o} {outer = outer} a b known rest) i =
      ⊎_elim
      (λ q. let e = eqb-true n o.number q in
      (omega arith, λ j. subst (λ n. n < j → j ≤ length before → n ≤ parent_at t j) (sym e) (known.since j)))
      (λ q. let s = open_since n rest q in (omega (arith, s.0, first_number rest), s.1))
      (or_cases (eqb n o.number) (is_in n (map (λ o. o.number) outer)) i)

  since_open : (n : ℕ) {k l : ℕ} {os : List Open} → OpenRecords before k l os → 1 ≤ n → n ≤ number_of_first os → Since n
      → is_in n (map (λ o. o.number) os) ≡ true
  unfolding number_of_first bytes_opens
  since_open n (none_open z) one h since = absurd (omega arith)
  since_open n (innermost {o = o} {outer = outer} a b known rest) one h since =
      by_answer (eqb n o.number) (λ q. rw q)
      (λ q.
      let held = since o.number (omega (arith, eqb-false n o.number q)) known.line.1 in
      rw q (since_open n rest one (omega (arith, held, known.parent)) since))

  module _ (r : Rec) {k l : ℕ} {up : List Open} (known : OpenRecords before k l up) (parent : r.parent ≡ number_of_first up) where
    abbrev t' : List Entry
    t' = table_of (r ∷ before)

    abbrev own : ℕ
    own = suc (length before)

    earlier : (j : ℕ) → j ≤ length before → parent_at t' j ≡ parent_at t j
    earlier j h = ap (λ (x : Entry). x.parent) (entry_earlier r before j h)

    its_own_lem : parent_at t' own ≡ number_of_first up
    unfolding entry_of
    its_own_lem = ap (λ (x : Entry). x.parent) (entry_last r before) ∙ parent

    -- where the group of a line does not go on to the new one, it ends where it did
    last_same : (n : ℕ) → n ≤ length before → last_at t' n < own → last_at t' n ≡ last_at t n
    unfolding last_at
    last_same n few ends =
        let less = group_within t n (last_at t' n) (omega arith) (omega (arith, table_length before))
        (λ j over under. rw (← earlier j (omega arith)) (within_group t' n (last_at t' n) (omega arith) j over under)) in
        let all = last_few t n (omega (arith, table_length before)) in
        let more = group_within t' n (last_at t n) (omega arith) (omega (arith, table_length before, table_length (r ∷ before)))
        (λ j over under.
        rw (earlier j (omega (arith, table_length before))) (within_group t n (last_at t n) (omega arith) j over under)) in
        omega arith

    last_earlier : (n : ℕ) → 1 ≤ n → n ≤ length before
        → last_at t' n ≡ (if is_in n (map (λ o. o.number) up) then own else last_at t n)
    last_earlier n one few =
        let size = table_length (r ∷ before) in
        let most = last_few t' n (omega arith) in
        by_answer (is_in n (map (λ o. o.number) up))
        (λ q.
        let s = open_since n known q in
        let reach = group_within t' n own (omega arith) (omega arith)
        (λ j over.
        line_cases (λ j. n ≤ parent_at t' j) (length before) j (λ h. rw (earlier j h) (s.1 j over h)) (rw its_own_lem s.0)) in
        rw q (omega arith))
        (λ q.
        below_or own (last_at t' n) (λ ends. rw q (last_same n few ends))
        (λ goes.
        let held = rw its_own_lem at (within_group t' n own goes own (omega arith) (omega arith)) in
        absurd
        (true≢false
        (sym
        (since_open n known one held
        (λ j over h. rw (← earlier j h) (within_group t' n own goes j over (omega arith))))
        ∙ q))))

    -- the new line is the last of its own group
    pub last_next : k ≤ own → (n : ℕ) → 1 ≤ n → n ≤ own → last_at t' n ≡ (if is_in n (map (λ o. o.number) up) then own else last_at t n)
    last_next high n one =
        line_cases (λ n. last_at t' n ≡ (if is_in n (map (λ o. o.number) up) then own else last_at t n)) (length before) n
        (last_earlier n one)
        (by_answer (is_in own (map (λ o. o.number) up))
        (λ q. absurd (omega (arith, (open_since own known q).0, first_number known)))
        (λ q.
        rw q
        (last_none t' own (omega (arith, table_length (r ∷ before)))
        ∙ sym (last_none t own (omega (arith, table_length before))))))
