-- What the search finds is what reading every line finds.
use Rattle.std.specs.Prelude.{if◌then◌else◌}
use Prim.Native.Nat.{ℕ, zero, suc, ◌+◌, ◌*◌, ◌≤◌, ◌<◌}
use mathlib.Core.Path.{◌≡◌, refl, sym, ap, ◌∙◌, subst}
use mathlib.Core.Bool.{true, false, ◌&&◌, not, true≢false}
use mathlib.Core.List.{List}
use native.Mathlib.Omega.{arith}
use native.Mathlib.Numerals.{add-one}
use lib.Dec.{eqb, ltb}
use lib.ListN.{length, take, drop, length-take, length-drop}
use borrow.Author.Tests.{eqb-true, eqb-false, eq-eqb, le-leb, lt-ltb, le-ltb, not-true}
use Rattle.dirf.specs.Bytes.{Text, is_in, same, less}
use Rattle.dirf.specs.Limits.{numbers_an_entry}
use Rattle.dirf.specs.Kinds.{IDREC, beneficiaries, companies, is_beneficiary}
use Rattle.dirf.specs.Check.{Entry, last_at, numbers_of}
use Rattle.dirf.specs.Search.{entries_in, kind_in, is_within, key_in, stops_at, stops_by, search_from, is_idrec, search_in}
use Rattle.dirf.specs.Theorems.Plain.{◌∈◌}
use Rattle.dirf.specs.Theorems.Whose.{kind_at, parent_at, IsLine, Owned}
use Rattle.dirf.specs.Theorems.Groups.{InGroup, itself, below}
use Rattle.dirf.specs.Theorems.Entries.{start_at, length_at, Pointed}
use Rattle.dirf.specs.Theorems.Found.{how_many, Beneficiary, Person, cpf_at, is_below, is_smaller, Found}
use Rattle.dirf.proofs.tests.Bools.{and_left, and_right, by_answer}
use Rattle.dirf.proofs.tests.Says.{is_in_says, same_says, below_or}
use Rattle.dirf.proofs.tree.Groups.{last_few, within_group, group_within, belongs, grouped}
use Rattle.dirf.proofs.back.KeyOrder.{texts_ordered}
use Rattle.dirf.proofs.found.Steps.{ended, company, stopped, goes}
use Rattle.dirf.proofs.found.Numbers.{entries_few, kind_in_lem, start_in_lem, length_in_lem, last_in_lem}
use Rattle.dirf.proofs.found.Counted.{none_more, one_more, no_fewer}

-- what is known of a table and of the beneficiaries below the IDREC of line n
pub record Tidy (file : Text) (t : List Entry) (n : ℕ) : Type 0 where
  pub owned : Owned t
  pub pointed : Pointed file t
  pub line : IsLine t n
  pub idrec : kind_at t n ≡ IDREC
  pub kinds : (m : ℕ) → IsLine t m → parent_at t m ≡ n → kind_at t m ∈ beneficiaries
  pub last : (a b : ℕ) → Beneficiary file t n a → Beneficiary file t n b → a < b → kind_at t a ∈ companies → kind_at t b ∈ companies
  pub grow : (a b : ℕ) → Person file t n a → Person file t n b → a < b → less (cpf_at file t n a) (cpf_at file t n b) ≡ true

module _ {file : Text} {t : List Entry} {n : ℕ} (tidy : Tidy file t n) (key : Text) where
  -- the last line of the IDREC
  abbrev end : ℕ
  end = last_at t n

  end_few : end ≤ length t
  end_few = last_few t n tidy.line.1

  -- lines by the tests that count them
  below_says : (m : ℕ) → IsLine t m → is_below file t n m ≡ true → Beneficiary file t n m
  unfolding is_below
  below_says m l q =
      let p = eqb-true (parent_at t m) n (and_left (eqb (parent_at t m) n) (is_beneficiary (kind_at t m)) q) in
      record { line = l; below = p; kind = tidy.kinds m l p }

  says_below : (m : ℕ) → Beneficiary file t n m → is_below file t n m ≡ true
  unfolding is_below is_beneficiary
  says_below m b = rw (eq-eqb (parent_at t m) n b.below, (is_in_says (kind_at t m) beneficiaries).1 b.kind)

  person_says : (m : ℕ) → Person file t n m → is_smaller file t n key m ≡ less (cpf_at file t n m) key
  unfolding is_smaller
  person_says m p =
      rw (
        says_below m p.beneficiary,
        by_answer (is_in (kind_at t m) companies) (λ q. absurd (p.no_company ((is_in_says (kind_at t m) companies).0 q))) (λ q. q),
      )

  smaller_says : (m : ℕ) → IsLine t m → is_smaller file t n key m ≡ true → Person file t n m × (less (cpf_at file t n m) key ≡ true)
  unfolding is_smaller
  smaller_says m l q =
      let both = and_left (is_below file t n m && not (is_in (kind_at t m) companies)) (less (cpf_at file t n m) key) q in
      let no = not-true (is_in (kind_at t m) companies) (and_right (is_below file t n m) (not (is_in (kind_at t m) companies)) both) in (
        record {
          beneficiary = below_says m l (and_left (is_below file t n m) (not (is_in (kind_at t m) companies)) both);
          no_company = λ c. true≢false (sym ((is_in_says (kind_at t m) companies).1 c) ∙ no);
        },
        and_right (is_below file t n m && not (is_in (kind_at t m) companies)) (less (cpf_at file t n m) key) q,
      )

  -- a beneficiary below the IDREC stands behind it and within its group
  inside : (m : ℕ) → Beneficiary file t n m → (n < m) × (m ≤ end)
  inside m b =
      let s = belongs tidy.owned m b.line (omega (arith, b.below, tidy.line.0)) in
      let g = ((grouped tidy.owned).lines n m tidy.line b.line).0 (below (subst (λ p. InGroup t n p) (sym b.below) itself)) in
      (omega (arith, s.above.1, b.below), g.1)

  -- The lines up to `at` are done: they end with a group, each beneficiary among them is a person with a smaller CPF, and so many were
  -- looked at.
  record Done (at looked : ℕ) : Type 0 where
    low : n ≤ at
    high : at ≤ end
    closed : (j : ℕ) → n < j → j ≤ at → last_at t j ≤ at
    smaller : (j : ℕ) → Beneficiary file t n j → j ≤ at → is_smaller file t n key j ≡ true
    by_cpf : how_many (is_smaller file t n key) at ≡ looked
    by_line : how_many (is_below file t n) at ≡ looked

  -- a line that is no beneficiary's below the IDREC is counted by neither test
  counts_not : (j : ℕ) → IsLine t j → (Beneficiary file t n j → ⊥) → (is_below file t n j ≡ false) × (is_smaller file t n key j ≡ false)
  counts_not j l none = (
    by_answer (is_below file t n j) (λ q. absurd (none (below_says j l q))) (λ q. q),
    by_answer (is_smaller file t n key j) (λ q. absurd (none (smaller_says j l q).0.beneficiary)) (λ q. q),
  )

  begin : Done n 0
  unfolding how_many
  begin =
      let none : (j : ℕ) → 0 < j → j ≤ n → (is_below file t n j ≡ false) × (is_smaller file t n key j ≡ false) = λ j one h.
      counts_not j (one, omega (arith, tidy.line.1)) (λ b. omega (arith, (inside j b).0)) in
      record {
        low = omega arith;
        high = ((grouped tidy.owned).last n tidy.line).0;
        closed = λ j a b. absurd (omega arith);
        smaller = λ j b h. absurd (omega (arith, (inside j b).0));
        by_cpf = none_more (is_smaller file t n key) 0 n (omega arith) (λ j a b. (none j a b).1);
        by_line = none_more (is_below file t n) 0 n (omega arith) (λ j a b. (none j a b).0);
      }

  module _ {at looked : ℕ} (done : Done at looked) where
    -- where lines are left, the next one stands directly below the IDREC
    next_line : at < end → Beneficiary file t n (at + 1)
    next_line more =
        let m = at + 1 in
        let l : IsLine t m = (omega arith, omega (arith, end_few)) in
        let held = within_group t n end (omega arith) m (omega (arith, done.low)) (omega arith) in
        let s = belongs tidy.owned m l (omega (arith, tidy.line.0)) in
        let p = parent_at t m in
        let direct : p ≡ n =
        by_answer (eqb p n) (eqb-true p n)
        (λ q.
        let ends = done.closed p (omega (arith, eqb-false p n q)) (omega (arith, s.above.1)) in
        let goes = group_within t p m (omega (arith, s.above.1)) l.1
        (λ j over under.
        by_answer (eqb j m) (λ q. rw (eqb-true j m q) (omega arith))
        (λ q. s.unbroken j over (omega (arith, eqb-false j m q)))) in
        absurd (omega arith)) in
        record { line = l; below = direct; kind = tidy.kinds m l direct }

    -- a person with the key is not among the lines that are done
    not_yet : (m : ℕ) → Person file t n m → cpf_at file t n m ≡ key → at < m
    not_yet m p q =
        below_or (suc at) m
        (λ h.
        let yes = sym (person_says m p) ∙ done.smaller m p.beneficiary (omega arith) in
        absurd (true≢false (sym yes ∙ ap (λ s. less s key) q ∙ texts_ordered.irreflexive key)))
        (λ h. h)

    -- where no person with a smaller CPF is left, it is they that were looked at
    no_smaller : ((j : ℕ) → Person file t n j → at < j → less (cpf_at file t n j) key ≡ false)
        → how_many (is_smaller file t n key) (length t) ≡ looked
    no_smaller none =
        none_more (is_smaller file t n key) at (length t) (omega (arith, done.high, end_few))
        (λ j a b.
        by_answer (is_smaller file t n key j)
        (λ q.
        let s = smaller_says j (omega arith, b) q in
        absurd (true≢false (sym s.1 ∙ none j s.0 a)))
        (λ q. q))
        ∙ done.by_cpf

    -- all lines are done
    at_the_end : end ≤ at → Found file t n key (stops_at 0 looked)
    at_the_end over =
        let gone : (m : ℕ) → Beneficiary file t n m → at < m → ⊥ = λ m b h. omega (arith, (inside m b).1) in
        let lines = none_more (is_below file t n) at (length t) (omega (arith, done.high, end_few))
        (λ j a b. (counts_not j (omega arith, b) (λ x. gone j x a)).0) ∙ done.by_line in
        let cpfs = no_smaller (λ j p h. absurd (gone j p.beneficiary h)) in
        record {
          number = refl;
          sought = λ some. absurd (some refl);
          found = λ m p q. absurd (gone m p.beneficiary (not_yet m p q));
          count = rw (cpfs, lines, le-ltb looked looked (omega arith));
        }

    module _ (more : at < end) where
      -- one more is looked at than persons with a smaller CPF
      one_looked : ((j : ℕ) → Person file t n j → at < j → less (cpf_at file t n j) key ≡ false)
          → let smaller = how_many (is_smaller file t n key) (length t) in
          looked + 1 ≡ (if ltb smaller (how_many (is_below file t n) (length t)) then smaller + 1 else smaller)
      one_looked none =
          let next = next_line more in
          let here : is_below file t n (suc at) ≡ true = subst (λ m. is_below file t n m ≡ true) (add-one at) (says_below (at + 1) next) in
          let lines = one_more (is_below file t n) at here in
          let all = no_fewer (is_below file t n) (suc at) (length t) (omega (arith, end_few)) in
          rw (no_smaller none, lt-ltb looked (how_many (is_below file t n) (length t)) (omega (arith, done.by_line)))

      -- a company: persons stand before it
      at_a_company : kind_at t (at + 1) ∈ companies → Found file t n key (stops_at 0 (looked + 1))
      at_a_company c =
          let gone : (m : ℕ) → Person file t n m → at < m → ⊥ = λ m p h.
          by_answer (eqb m (at + 1)) (λ q. p.no_company (subst (λ m. kind_at t m ∈ companies) (sym (eqb-true m (at + 1) q)) c))
          (λ q. p.no_company (tidy.last (at + 1) m (next_line more) p.beneficiary (omega (arith, eqb-false m (at + 1) q)) c)) in
          record {
            number = refl;
            sought = λ some. absurd (some refl);
            found = λ m p q. absurd (gone m p (not_yet m p q));
            count = one_looked (λ j p h. absurd (gone j p h));
          }

      module _ (person : Person file t n (at + 1)) where
        abbrev cpf : Text
        cpf = cpf_at file t n (at + 1)

        -- a CPF that is not smaller: those behind it are greater
        module _ (not-less : less cpf key ≡ false) where
          no_later : (m : ℕ) → Person file t n m → at + 1 < m → less cpf (cpf_at file t n m) ≡ true
          no_later m p h = tidy.grow (at + 1) m person p h

          none_smaller : (j : ℕ) → Person file t n j → at < j → less (cpf_at file t n j) key ≡ false
          none_smaller j p h =
              by_answer (less (cpf_at file t n j) key)
              (λ x.
              absurd
              (true≢false
              (sym
              (by_answer (eqb j (at + 1)) (λ q. subst (λ m. less (cpf_at file t n m) key ≡ true) (eqb-true j (at + 1) q) x)
              (λ q. texts_ordered.transitive cpf (cpf_at file t n j) key (no_later j p (omega (arith, eqb-false j (at + 1) q))) x))
              ∙ not-less)))
              (λ x. x)

          this_one : (m : ℕ) → Person file t n m → cpf_at file t n m ≡ key → m ≡ at + 1
          this_one m p q =
              by_answer (eqb m (at + 1)) (eqb-true m (at + 1))
              (λ x.
              let later = no_later m p (omega (arith, not_yet m p q, eqb-false m (at + 1) x)) in
              absurd (true≢false (sym later ∙ ap (less cpf) q ∙ not-less)))

          at_a_key : Found file t n key (stops_by (at + 1) cpf key (looked + 1))
          unfolding stops_by
          at_a_key =
              record {
                number = refl;
                sought = by_answer (same cpf key) (λ q. rw q (λ _. (person, (same_says cpf key).0 q)))
                    (λ q. rw q (λ some. absurd (some refl)));
                found = λ m p q.
                    let is = this_one m p q in
                    rw ((same_says cpf key).1 (ap (cpf_at file t n) (sym is) ∙ q)) (sym is);
                count = one_looked none_smaller;
              }

        -- a smaller one: its group is done too
        abbrev its_end : ℕ
        its_end = last_at t (at + 1)

        its_group : (j : ℕ) → at + 1 < j → j ≤ its_end → at + 1 ≤ parent_at t j
        its_group j over under = within_group t (at + 1) its_end (omega arith) j over under

        its_last : (at + 1 ≤ its_end) × (its_end ≤ length t)
        its_last = (grouped tidy.owned).last (at + 1) person.beneficiary.line

        its_closed : (j : ℕ) → n < j → j ≤ its_end → last_at t j ≤ its_end
        its_closed j over under =
            let line : IsLine t j = (omega arith, omega (arith, its_last.1)) in
            below_or (at + 1) j
            (λ h. omega (arith, done.closed j over (omega arith), its_last.0))
            (λ h.
            by_answer (eqb j (at + 1)) (λ q. rw (eqb-true j (at + 1) q) (omega arith))
            (λ q.
            let behind : at + 1 < j = omega (arith, eqb-false j (at + 1) q) in
            group_within t (at + 1) (last_at t j) (omega (arith, ((grouped tidy.owned).last j line).0)) (last_few t j line.1)
            (λ i a b.
            below_or (suc j) i (λ x. its_group i a (omega arith))
            (λ x. omega (arith, within_group t j (last_at t j) (omega arith) i x b)))))

        -- and no other beneficiary stands in it
        its_own_lem : (j : ℕ) → Beneficiary file t n j → at + 1 < j → j ≤ its_end → ⊥
        its_own_lem j b over under = omega (arith, its_group j over under, b.below, done.low)

        goes_past : less cpf key ≡ true → Done its_end (looked + 1)
        goes_past is =
            let here : is_smaller file t n key (at + 1) ≡ true = person_says (at + 1) person ∙ is in
            let past : (j : ℕ) → suc at < j → j ≤ its_end → (is_below file t n j ≡ false) × (is_smaller file t n key j ≡ false) = λ j a b.
            counts_not j (omega arith, omega (arith, its_last.1)) (λ x. its_own_lem j x (omega arith) b) in
            record {
              low = omega (arith, done.low, its_last.0);
              high = group_within t n its_end (omega (arith, done.low, its_last.0)) its_last.1
                  (λ j over under.
                  below_or (suc (at + 1)) j (λ h. within_group t n end (omega arith) j over (omega arith))
                  (λ h. omega (arith, its_group j h under, done.low)));
              closed = its_closed;
              smaller = λ j b h.
                  below_or (at + 1) j (λ x. done.smaller j b (omega arith))
                  (λ x.
                  by_answer (eqb j (at + 1)) (λ q. subst (λ m. is_smaller file t n key m ≡ true) (sym (eqb-true j (at + 1) q)) here)
                  (λ q. absurd (its_own_lem j b (omega (arith, eqb-false j (at + 1) q)) h)));
              by_cpf = none_more (is_smaller file t n key) (suc at) its_end (omega (arith, its_last.0)) (λ j a b. (past j a b).1)
                  ∙ one_more (is_smaller file t n key) at (subst (λ m. is_smaller file t n key m ≡ true) (add-one at) here)
                  ∙ ap (λ c. c + 1) done.by_cpf;
              by_line = none_more (is_below file t n) (suc at) its_end (omega (arith, its_last.0)) (λ j a b. (past j a b).0)
                  ∙ one_more (is_below file t n) at
                  (subst (λ m. is_below file t n m ≡ true) (add-one at) (says_below (at + 1) person.beneficiary))
                  ∙ ap (λ c. c + 1) done.by_line;
            }

  -- the search, with any table that begins with the entries
  module _ (numbers : List ℕ) (own : take (numbers_an_entry * length t) numbers ≡ numbers_of t) where
    is_within_lem : (m : ℕ) → IsLine t m → is_within file numbers m ≡ true
    unfolding is_within
    is_within_lem m l =
        let last = (grouped tidy.owned).last m l in
        let text : Text = drop (start_at t m + length_at t m) file in
        let fits : start_at t m + length_at t m ≤ length file =
        omega (arith, ap length (tidy.pointed.line_end_lem m l), length-take 2 text, length-drop (start_at t m + length_at t m) file) in
        rw (
          start_in_lem t numbers own m l,
          length_in_lem t numbers own m l,
          last_in_lem t numbers own m l,
          le-leb (start_at t m + length_at t m) (length file) fits,
          le-leb m (last_at t m) last.0,
          le-leb (last_at t m) (entries_in numbers) (omega (arith, last.1, entries_few t numbers own)),
        )

    key_same : (m : ℕ) → IsLine t m → key_in file numbers m ≡ cpf_at file t n m
    unfolding key_in cpf_at
    key_same m l = rw (start_in_lem t numbers own m l, length_in_lem t numbers own m l)

    run : (steps at looked : ℕ) → Done at looked → end ≤ at + steps
        → Found file t n key (search_from file numbers key end steps (at + 1) looked)
    unfolding is_beneficiary
    run zero at looked done few =
        subst (Found file t n key) (sym (ended file numbers key end at looked zero (omega arith))) (at_the_end done (omega arith))
    run (suc steps) at looked done few =
        below_or end at
        (λ more.
        let m = at + 1 in
        let next = next_line done more in
        let l = next.line in
        let kind = kind_in_lem t numbers own m l in
        let reached : (is_beneficiary (kind_in numbers m) && is_within file numbers m) ≡ true =
        rw (kind, (is_in_says (kind_at t m) beneficiaries).1 next.kind, is_within_lem m l) in
        by_answer (is_in (kind_at t m) companies)
        (λ c.
        subst (Found file t n key) (sym (company file numbers key end at looked more reached (suc steps) few (rw kind c)))
        (at_a_company done more ((is_in_says (kind_at t m) companies).0 c)))
        (λ c.
        let person : Person file t n m =
        record { beneficiary = next; no_company = λ x. true≢false (sym ((is_in_says (kind_at t m) companies).1 x) ∙ c) } in
        by_answer (less (cpf_at file t n m) key)
        (λ q.
        subst (Found file t n key)
        (sym
        (goes file numbers key end at looked more reached steps (rw kind c) (rw (key_same m l) q)
        ∙ ap (λ x. search_from file numbers key end steps (x + 1) (looked + 1)) (last_in_lem t numbers own m l)))
        (run steps (last_at t m) (looked + 1) (goes_past done more person q)
        (omega (arith, ((grouped tidy.owned).last m l).0))))
        (λ q.
        subst (Found file t n key)
        (sym
        (stopped file numbers key end at looked more reached (suc steps) few (rw kind c) (rw (key_same m l) q)
        ∙ ap (λ s. stops_by m s key (looked + 1)) (key_same m l)))
        (at_a_key done more person q))))
        (λ over. subst (Found file t n key) (sym (ended file numbers key end at looked (suc steps) over)) (at_the_end done over))

    pub finds : Found file t n key (search_in file numbers n key)
    unfolding search_in is_idrec
    finds =
        let l = tidy.line in
        rw (
          le-leb 1 n l.0,
          le-leb n (entries_in numbers) (omega (arith, l.1, entries_few t numbers own)),
          kind_in_lem t numbers own n l,
          eq-eqb (kind_at t n) IDREC tidy.idrec,
          is_within_lem n l,
          last_in_lem t numbers own n l,
        )
        (run (entries_in numbers) n 0 begin (omega (arith, end_few, entries_few t numbers own)))
