-- Each line of a history's table, and the record that holds it: a line is nobody's, or stands in the unbroken group of its parent.
use Prim.Native.Nat.{ℕ, zero, suc, ◌≤◌, ◌<◌}
use mathlib.Core.Path.{◌≡◌, refl, sym, ap, ap₂, ◌∙◌, subst}
use mathlib.Core.Bool.{Bool, true, not, true≢false}
use mathlib.Core.Logic.{◌⊎◌, inl, inr, ⊎_elim}
use mathlib.Core.List.{List, [], ◌∷◌}
use mathlib.Core.Option.{Option}
use native.Mathlib.Omega.{arith}
use lib.Dec.{eqb, ltb}
use lib.ListN.{length, get_or}
use borrow.Author.Tests.{eqb-true, eqb-false, eq-eqb, ltb-true, ltb-false, not-true}
use Rattle.dirf.specs.Bytes.{every, is_in, lookup, bytes_opens}
use Rattle.dirf.specs.Kinds.{Dirf, RESPO, IDREC, BPFDEC, INFPA, ESPA, FIMDirf, declarants, alone, blocks, kinds_opens}
use Rattle.dirf.specs.Edition.{Edition}
use Rattle.dirf.specs.Tree.{Rec, Open, opening, declarant, block_of, suits, may_hold, kind_of_first, number_of_first, place, parent_of}
use Rattle.dirf.specs.Tree.{in_order, is_placed, may_stand}
use Rattle.dirf.specs.Check.{Entry, entry_of, table_of}
use Rattle.dirf.specs.Theorems.Plain.{◌∈◌}
use Rattle.dirf.specs.Theorems.Belongs.{parents_of, group_of, level}
use Rattle.dirf.specs.Theorems.Sound.{Sound}
use Rattle.dirf.specs.Theorems.Whose.{entry_at, kind_at, parent_at, IsLine, Nobodys}
use Rattle.dirf.proofs.tests.Bools.{and_left, and_right, or_cases, if_cases, by_answer}
use Rattle.dirf.proofs.tests.Says.{Says, says, is_in_says}
use Rattle.dirf.proofs.tests.Lists.{every_in, every_at}
use Rattle.dirf.proofs.tree.Belongs.{parent_group, group_within, block_deep, block_parent}
use Rattle.dirf.proofs.tree.Levels.{level_in}
use Rattle.dirf.proofs.tree.Parents.{has_parent}
use Rattle.dirf.proofs.tree.History.{History, start, next, table_length, entry_last, entry_earlier, line_cases, declarant_line}
use Rattle.dirf.proofs.tree.OpenRecords.{Known, Last, OpenRecords, innermost, first_number, first_kind, Holder, holder_parent}
use Rattle.dirf.proofs.tree.Opened.{placed, unheld}

-- what the second question of the tree says of what holds a record
module _ (e : Edition) (d h u k : ℕ) (holds : may_hold e d h u k ≡ true) where
  both : (h ≡ IDREC → block_of d k ≡ u) × ((h ≡ INFPA) × (k ≡ ESPA) → u ≡ BPFDEC)
  unfolding may_hold suits
  both =
      let asked : Says (suits d h u k) ((h ≡ IDREC → block_of d k ≡ u) × ((h ≡ INFPA) × (k ≡ ESPA) → u ≡ BPFDEC)) = search says depth 12 in
      asked.0 (and_right (is_in k (lookup [] (e.below d) h)) (suits d h u k) holds)

  of_block : h ≡ IDREC → u ≡ block_of d k
  of_block i = sym (both.0 i)

  of_person : h ≡ INFPA → k ≡ ESPA → u ≡ BPFDEC
  of_person i a = both.1 (i, a)

module _ (e : Edition) (sound : Sound e) where
  -- a record that stands alone is one of the opening lines, or FIMDirf
  abbrev Opens : List Rec → ℕ → Type 0
  Opens before k = (length before < 3) × (is_in k (get_or opening (length before) []) ≡ true)

  stands_opening : {before : List Rec} → History e before → (k : ℕ) → level k ≡ 0 → may_stand e before k ≡ true
      → Opens before k ⊎ (k ≡ FIMDirf)
  unfolding opening may_stand is_placed
  stands_opening {before} h k flat =
      if_cases (λ t. t ≡ true → Opens before k ⊎ (k ≡ FIMDirf)) (ltb (length before) 3)
      (λ few i. inl (ltb-true (length before) 3 few, i))
      (λ _ i.
      ⊎_elim (λ f. inr (eqb-true k FIMDirf f))
      (λ p.
      let held = ltb-true 0 (length (place e before k).up) (and_left _ (in_order (place e before k).last k) p) in
      absurd (omega (arith, ap length (unheld e sound h k (λ z. omega arith)), held)))
      (or_cases (eqb k FIMDirf) (is_placed (place e before k) k) i))

  -- the declarant is read as line 3
  stands_third : {before : List Rec} → History e before → (k : ℕ) → k ∈ declarants → may_stand e before k ≡ true → length before ≡ 2
  unfolding opening bytes_opens kinds_opens level
  stands_third {before} h k m stands =
      ⊎_elim (λ o. go (length before) refl o.0 o.1) (λ f. absurd (no (λ k. eqb k FIMDirf) refl (eq-eqb k FIMDirf f)))
      (stands_opening h k (level_in 0 refl m) stands)
    where
      no : (test : ℕ → Bool) → every (λ k. not (test k)) declarants ≡ true → test k ≡ true → ⊥
      no test all q = true≢false (sym q ∙ not-true (test k) (every_in (λ k. not (test k)) m all))

      go : (n : ℕ) → length before ≡ n → n < 3 → is_in k (get_or opening n []) ≡ true → length before ≡ 2
      go zero q few i = absurd (no (λ k. is_in k (Dirf ∷ [])) refl i)
      go (suc zero) q few i = absurd (no (λ k. is_in k (RESPO ∷ [])) refl i)
      go (suc (suc zero)) q few i = q
      go (suc (suc (suc n))) q few i = absurd (omega arith)

  -- the table t has a line for each record of a history
  module _ {all : List Rec} (h : History e all) where
    abbrev t : List Entry
    t = table_of all

    -- the table begins with the entries of these records
    abbrev Begins : List Rec → Type 0
    Begins before = (m : ℕ) → m ≤ length before → entry_at t m ≡ entry_at (table_of before) m

    -- line n was read after some records, and may stand there
    pub record Read (n : ℕ) : Type 0 where
      pub before : List Rec
      pub this : Rec
      pub number : n ≡ suc (length before)
      pub history : History e before
      pub stands : may_stand e before this.kind ≡ true
      pub parent : this.parent ≡ parent_of e before this.kind
      pub earlier : Begins before
      pub entry : entry_at t n ≡ entry_of this before

    read : {before : List Rec} → History e before → Begins before → (n : ℕ) → n ≤ length before → 1 ≤ n → Read n
    read start same n = λ b a. absurd (omega arith)
    read (next {r = r} {before = before} stands parent hist) same n =
        let same' : Begins before = λ m x. same m (omega arith) ∙ entry_earlier r before m x in
        line_cases (λ n. 1 ≤ n → Read n) (length before) n (read hist same' n)
        (λ _.
        record {
          before = before;
          this = r;
          number = refl;
          history = hist;
          stands = stands;
          parent = parent;
          earlier = same';
          entry = same (suc (length before)) (omega arith) ∙ entry_last r before;
        })

    pub line : (n : ℕ) → IsLine t n → Read n
    line n l = read h (λ m x. refl) n (omega (arith, table_length all, l.1)) l.0

    -- what holds line n: the innermost of the open records that may, o; and what was read last below it, if that is open
    pub record Held (n : ℕ) : Type 0 where
      pub read : Read n
      pub o : Open
      pub outer : List Open
      pub last : Option Open
      pub parent : parent_at t n ≡ o.number
      pub above : o.number < n
      pub after : 3 ≤ length read.before
      pub known : Known read.before o outer
      pub rest : OpenRecords read.before o.number (level o.kind) outer
      pub holds : may_hold e (declarant read.before) o.kind (kind_of_first outer) read.this.kind ≡ true
      pub known_last : Last read.before last (o ∷ outer)
      pub ordered : in_order last read.this.kind ≡ true

    pub held : (n : ℕ) → IsLine t n → 0 < level (kind_at t n) → Held n
    unfolding entry_of parent_of number_of_first
    held n l deep =
        let up = has_parent e before k (rw (x.entry, kind_at) at deep) x.stands in
        let q = placed e sound x.history k in
        go (place e before k).up refl q.known q.holder q.last up
      where
        x : Read n
        x = line n l

        before : List Rec
        before = x.before

        k : ℕ
        k = x.this.kind

        c : Option Open
        c = (place e before k).last

        go : (up : List Open) → (place e before k).up ≡ up → OpenRecords before (suc (length before)) (level k) up
            → Holder e (declarant before) k up → Last before c up
            → (3 ≤ length before) × (0 < length up) × (in_order c k ≡ true) → Held n
        go [] u known holds last h = absurd (omega (arith, h.1))
        go (o ∷ outer) u (innermost a b known rest) holds last h =
            record {
              read = x;
              o = o;
              outer = outer;
              last = c;
              parent = ap (λ y. y.parent) x.entry ∙ x.parent ∙ ap number_of_first u;
              above = omega (arith, x.number);
              after = h.0;
              known = known;
              rest = rest;
              holds = holds;
              known_last = last;
              ordered = h.2;
            }

    -- Line n stands below line p: every line between them belongs to p or to one between, and what p belongs to suits n.
    pub record Below (n p : ℕ) : Type 0 where
      pub above : (1 ≤ p) × (p < n)
      pub to : kind_at t p ∈ parents_of (kind_at t n)
      pub unbroken : (m : ℕ) → p < m → m < n → p ≤ parent_at t m
      pub own_block : kind_at t p ≡ IDREC → kind_at t (parent_at t p) ≡ block_of (kind_at t 3) (kind_at t n)
      pub own_person : kind_at t p ≡ INFPA → kind_at t n ≡ ESPA → kind_at t (parent_at t p) ≡ BPFDEC

    pub below : (n : ℕ) → IsLine t n → 0 < level (kind_at t n) → Below n (parent_at t n)
    unfolding entry_of
    below n l deep =
        let y = held n l deep in
        let x = y.read in
        let o = y.o in
        let d = declarant x.before in
        let k = x.this.kind in
        let kind = ap (λ z. z.kind) x.entry in
        let first = x.earlier o.number (omega (arith, x.number, y.above)) in
        let kind' : kind_at t o.number ≡ o.kind = ap (λ z. z.kind) first ∙ y.known.kind in
        let outer : kind_at t (parent_at t o.number) ≡ kind_of_first y.outer =
        ap (kind_at t) (ap (λ z. z.parent) first ∙ y.known.parent)
        ∙ ap (λ z. z.kind) (x.earlier (number_of_first y.outer) (omega (arith, first_number y.rest, x.number, y.above)))
        ∙ first_kind y.rest in
        rw y.parent
        (record {
          above = (omega (arith, first_number y.rest), y.above);
          to = rw (kind', kind) (holder_parent e d k sound o.kind (kind_of_first y.outer) y.holds);
          unbroken = λ m v w. rw (x.earlier m (omega (arith, x.number)), parent_at) (y.known.since m v (omega (arith, x.number)));
          own_block = λ i.
              outer ∙ of_block e d o.kind (kind_of_first y.outer) k y.holds (sym kind' ∙ i)
              ∙ sym (ap₂ block_of (ap (λ z. z.kind) (x.earlier 3 y.after) ∙ declarant_line x.before y.after) kind);
          own_person = λ i a.
              outer ∙ of_person e d o.kind (kind_of_first y.outer) k y.holds (sym kind' ∙ i) (sym kind ∙ a);
        })

    -- what stands no deeper than the declarant stands alone, and is nobody's
    nobodys : (n : ℕ) → IsLine t n → level (kind_at t n) ≡ 0 → Nobodys t n
    unfolding entry_of parent_of number_of_first opening bytes_opens
    nobodys n l flat =
        let x = line n l in
        let k = x.this.kind in
        let kind : kind_at t n ≡ k = ap (λ y. y.kind) x.entry in
        let flat' : level k ≡ 0 = ap level (sym kind) ∙ flat in
        let opens : is_in k (get_or opening (length x.before) []) ≡ true → is_in k alone ≡ true = λ i.
        every_in (λ k. is_in k alone) ((is_in_says k (get_or opening (length x.before) [])).0 i)
        (every_at (every (λ k. is_in k alone)) opening (length x.before) [] refl refl) in
        record {
          kind = rw kind
              ((is_in_says k alone).0
              (⊎_elim (λ o. opens o.1) (ap (λ k. is_in k alone)) (stands_opening x.history k flat' x.stands)));
          parent = ap (λ y. y.parent) x.entry ∙ x.parent ∙ ap number_of_first (unheld e sound x.history k (λ z. omega arith));
        }

    -- each line is nobody's or stands below its parent
    pub whose_line : (n : ℕ) → IsLine t n → Nobodys t n ⊎ Below n (parent_at t n)
    whose_line n l =
        by_answer (ltb 0 (level (kind_at t n)))
        (λ q. inr (below n l (ltb-true 0 (level (kind_at t n)) q)))
        (λ q. inl (nobodys n l (omega (arith, ltb-false 0 (level (kind_at t n)) q))))

    pub has_holder : (n : ℕ) → IsLine t n → 0 < parent_at t n → Below n (parent_at t n)
    has_holder n l held = ⊎_elim (λ x. absurd (omega (arith, x.parent))) (λ b. b) (whose_line n l)

    pub above_is_line : {n p : ℕ} → IsLine t n → (1 ≤ p) × (p < n) → IsLine t p
    above_is_line l a = (a.0, omega (arith, a.1, l.1))

    -- what stands in the unbroken group of a line, up to line n, is of a kind that stands in such groups
    module _ {n p : ℕ} (first : 1 ≤ p) (few : n ≤ suc (length t)) (unbroken : (m : ℕ) → p < m → m < n → p ≤ parent_at t m) where
      grouped : (f m : ℕ) → m < f → p < m → m < n → kind_at t m ∈ group_of (kind_at t p)
      grouped zero m low over under = absurd (omega arith)
      grouped (suc f) m low over under =
          let s = has_holder m (omega arith, omega arith) (omega (arith, unbroken m over under)) in
          let inside : kind_at t m ∈ group_of (kind_at t (parent_at t m)) = parent_group (kind_at t (parent_at t m)) (kind_at t m) s.to in
          by_answer (eqb (parent_at t m) p)
          (λ q. subst (λ x. kind_at t m ∈ group_of (kind_at t x)) (eqb-true (parent_at t m) p q) inside)
          (λ q.
          let further : p < parent_at t m = omega (arith, unbroken m over under, eqb-false (parent_at t m) p q) in
          group_within (kind_at t p) (kind_at t (parent_at t m)) (kind_at t m)
          (grouped f (parent_at t m) (omega (arith, s.above.1)) further (omega (arith, s.above.1))) inside)

      pub in_group : (m : ℕ) → p < m → m < n → kind_at t m ∈ group_of (kind_at t p)
      in_group m = grouped (suc m) m (omega arith)

    -- a declarant is line 3
    pub third : (n : ℕ) → IsLine t n → kind_at t n ∈ declarants → n ≡ 3
    unfolding entry_of
    third n l m =
        let x = line n l in
        let kind = ap (λ y. y.kind) x.entry in
        x.number ∙ ap suc (stands_third x.history x.this.kind (subst (λ k. k ∈ declarants) kind m) x.stands)

    -- a block belongs to it
    pub block_third : (n : ℕ) → IsLine t n → kind_at t n ∈ blocks → (3 < n) × (parent_at t n ≡ 3)
    block_third n l m =
        let s = below n l (block_deep m) in
        let q = third (parent_at t n) (above_is_line l s.above) (block_parent (kind_at t (parent_at t n)) (kind_at t n) m s.to) in
        (omega (arith, q, s.above.1), q)
