-- What a line adds to the total of its kind.
use Prim.Native.Nat.{ℕ, zero, suc, ◌+◌, ◌-◌, ◌≤◌, ◌<◌}
use mathlib.Core.Path.{◌≡◌, refl, sym, ap, ap₂, ◌∙◌, subst}
use mathlib.Core.Bool.{true, false, ◌&&◌, ◌||◌, not, and-false}
use mathlib.Core.List.{List, [], ◌∷◌, map}
use native.Mathlib.Omega.{arith}
use lib.Dec.{eqb}
use lib.ListN.{length, get_or, take, drop, length-take, length-drop}
use lib.Seq.{take_all, get_or-drop}
use borrow.Author.Tests.{eqb-true, eq-eqb, le-leb}
use Rattle.dirf.specs.Bytes.{bytes_opens, Text, every, is_in, is_digit}
use Rattle.dirf.specs.Limits.{bar, amounts_a_line}
use Rattle.dirf.specs.Kinds.{reimbursements, is_value, kinds_opens}
use Rattle.dirf.specs.Layout.{monthly2025}
use Rattle.dirf.specs.Edition.{Edition, kind_of, name_of, rows_of}
use Rattle.dirf.specs.Lines.{more, fields, field}
use Rattle.dirf.specs.Numbers.{value_of}
use Rattle.dirf.specs.Fields.{field_order}
use Rattle.dirf.specs.Rules.{keeps, ask_fields}
use Rattle.dirf.specs.Order.{kind_of_line}
use Rattle.dirf.specs.FieldReader.{field_there, width_of, field_start}
use Rattle.dirf.specs.LineWriter.{sum}
use Rattle.dirf.specs.Totals.{added}
use Rattle.dirf.specs.Tables.{yearly, first_amount, amount_count, from_amounts, amount_rows, AmountsRight}
use Rattle.dirf.specs.Theorems.Sound.{Sound}
use Rattle.dirf.specs.Theorems.Totals.{largest_line}
use Rattle.dirf.proofs.tests.Bools.{if_cases, by_answer, and_left, and_right}
use Rattle.dirf.proofs.tests.Says.{below_or}
use Rattle.dirf.proofs.tests.Lists.{outside}
use Rattle.dirf.proofs.tables.Tables.{in_names}
use Rattle.dirf.proofs.totals.Values.{Money}
use Rattle.dirf.proofs.totals.Row.{worth, worth_bound, there, reach, all_money, first_is, in_row}

-- the fields of what is left of a line behind its first j fields
abbrev Behind : ℕ → Text → List Text → Type 0
Behind j line cs = fields (drop (width_of (take j cs)) line) ≡ drop j cs

byte_more : (j b : ℕ) (s : Text) (cs : List Text) → suc j ≤ length (more b cs) → (suc j ≤ length cs → Behind (suc j) s cs)
    → Behind (suc j) (b ∷ s) (more b cs)
unfolding more width_of
byte_more j b s [] h rest = absurd (omega arith)
byte_more j b s (c ∷ cs) h rest =
    let w = width_of (take j cs) in
    let z : suc (length c) + 1 + w ≡ suc (length c + 1 + w) = omega arith in
    ap (λ x. fields (drop x (b ∷ s))) z ∙ rest h

fields_behind : (j : ℕ) (line : Text) → j ≤ length (fields line) → Behind j line (fields line)
unfolding fields width_of
fields_behind zero line h = refl
fields_behind (suc j) [] h = absurd (omega arith)
fields_behind (suc j) (b ∷ s) h =
    by_answer (eqb b bar)
    (λ q.
    let w = width_of (take j (fields s)) in
    let z : 0 + 1 + w ≡ suc w = omega arith in
    let few : suc j ≤ suc (length (fields s)) = rw q at h in
    rw q (ap (λ x. fields (drop x (b ∷ s))) z ∙ fields_behind j s (omega arith)))
    (λ q. rw q (byte_more j b s (fields s) (rw q at h) (fields_behind (suc j) s)))

amounts_behind : (k : ℕ) (line : Text) → first_amount k ≤ length (fields line)
    → fields (from_amounts k line) ≡ drop (first_amount k - 1) (fields line)
unfolding field_start field_there
amounts_behind k line h =
    rw (le-leb 1 (first_amount k) (omega (arith, first_is k)), le-leb (first_amount k) (length (fields line)) h)
    (fields_behind (first_amount k - 1) line (omega arith))

-- what is no value record has no amounts
none_counted : (k : ℕ) → is_value k ≡ false → amount_count k ≡ 0
unfolding amount_count bytes_opens kinds_opens
none_counted k other =
    rw (outside is_value monthly2025 refl k other, outside is_value yearly refl k other, outside is_value reimbursements refl k other)

few_counted : (k : ℕ) → amount_count k ≤ amounts_a_line
unfolding amount_count
few_counted k =
    if_cases (λ n. n ≤ amounts_a_line) (is_in k monthly2025) (λ _. omega arith) (λ _.
    if_cases (λ n. n ≤ amounts_a_line) (is_in k yearly) (λ _. omega arith) (λ _.
    if_cases (λ n. n ≤ amounts_a_line) (is_in k reimbursements) (λ _. omega arith) (λ _. omega arith)))

-- the values of digits, added up
abbrev pub valued : List Text → ℕ
valued cs = sum (map value_of cs)

worth_digits : (n : ℕ) (cs : List Text) → ((i : ℕ) → i < n → i < length cs → Money (get_or cs i [])) → worth (take n cs)
    ≡ valued (take n cs)
unfolding sum
worth_digits zero cs m = refl
worth_digits (suc n) [] m = refl
worth_digits (suc n) (c ∷ cs) m =
    ap₂ (λ x y. x + y) (m 0 (omega arith) (omega arith)).value (worth_digits n cs (λ i h l. m (suc i) (omega arith) (omega arith)))

-- a line that keeps 11 and the rules of its fields
pub record Kept (e : Edition) (line : Text) : Type 0 where
  pub count : length (fields line) ≡ length (rows_of e (kind_of_line e line))
  pub contents : let k = kind_of_line e line in ask_fields 1 field_order (name_of e k) (rows_of e k) (fields line) ≡ keeps

-- it has its amounts from the first one on, in digits, and adds what these are worth to the total of kind k
pub record Adds (e : Edition) (k : ℕ) (line : Text) : Type 0 where
  pub many : amount_count k ≤ length (fields (from_amounts k line))
  pub digits : (i : ℕ) → i < amount_count k → every is_digit (get_or (fields (from_amounts k line)) i []) ≡ true
  pub worth : valued (take (amount_count k) (fields (from_amounts k line))) ≡ added e k line

-- a line adds to the total of its own kind alone, and only a value record does
pub only_its_own : (e : Edition) (k : ℕ) (line : Text) → 0 < added e k line → (is_value k ≡ true) × (kind_of_line e line ≡ k)
unfolding added
only_its_own e k line some =
    by_answer (is_value k)
    (λ v.
    by_answer (eqb (kind_of_line e line) k) (λ q. (v, eqb-true (kind_of_line e line) k q))
    (λ q. let none : 0 < 0 = rw (q, and-false (is_value k)) at some in absurd (omega arith)))
    (λ v. let none : 0 < 0 = rw v at some in absurd (omega arith))

module _ (e : Edition) (sound : Sound e) (right : AmountsRight e) where
  -- what the rows of the kind that an identifier names say
  pub named_rows : (s : Text) → let k = kind_of e s in is_value k ≡ true → amount_rows k 1 (rows_of e k) ≡ true
  unfolding kind_of bytes_opens kinds_opens
  named_rows s v =
      rw v at (in_names (λ k. not (is_value k) || amount_rows k 1 (rows_of e k)) refl e.names right.amounts s)

  rows_say : (line : Text) → let k = kind_of_line e line in is_value k ≡ true → amount_rows k 1 (rows_of e k) ≡ true
  unfolding kind_of_line
  rows_say line = named_rows (field 1 (fields line))

  pub added_bound : (k : ℕ) (line : Text) → added e k line ≤ largest_line
  unfolding added
  added_bound k line =
      if_cases (λ x. x ≤ largest_line) (is_value k && eqb (kind_of_line e line) k)
      (λ q.
      let v = and_left (is_value k) _ q in
      let same : kind_of_line e line ≡ k = eqb-true (kind_of_line e line) k (and_right (is_value k) _ q) in
      let says = subst (λ k. is_value k ≡ true → amount_rows k 1 (rows_of e k) ≡ true) same (rows_say line) v in
      let cs = drop (first_amount k - 1) (take (length (rows_of e k)) (fields line)) in
      rw (in_row k (rows_of e k) (fields line) says)
      (omega (arith, worth_bound (take (amount_count k) cs), length-take (amount_count k) cs, few_counted k)))
      (λ _. omega arith)

  module _ (line : Text) where
    abbrev k : ℕ
    k = kind_of_line e line

    abbrev n : ℕ
    n = amount_count k

    -- its amounts, as the rows have them
    abbrev run : List Text
    run = drop (first_amount k - 1) (fields line)

    value_adds : Kept e line → is_value k ≡ true → added e k line ≡ worth (take n run)
    unfolding added
    value_adds kept v =
        rw (v, eq-eqb k k refl)
        (in_row k (rows_of e k) (fields line) (rows_say line v)
        ∙ ap (λ cs. worth (take n (drop (first_amount k - 1) cs)))
        (take_all (length (rows_of e k)) (fields line) (omega (arith, kept.count))))

    -- a kind without amounts adds nothing
    none_adds : Kept e line → n ≡ 0 → 0 ≡ added e k line
    unfolding added sum
    none_adds kept z =
        by_answer (is_value k) (λ v. sym (value_adds kept v ∙ ap (λ n. worth (take n run)) z)) (λ v. rw v)

    amount_adds : Kept e line → is_value k ≡ true → 1 ≤ n → Adds e k line
    amount_adds kept v one =
        let says = rows_say line v in
        let far = reach k 1 (rows_of e k) says in
        let d = first_amount k - 1 in
        let cut : fields (from_amounts k line) ≡ run = amounts_behind k line (omega (arith, kept.count, far)) in
        let each : (i : ℕ) → i < n → Money (get_or run i []) = λ i h.
        rw (get_or-drop d (fields line) i [])
        (all_money k 1 (name_of e k) (rows_of e k) (fields line) says (sound.rows.held k) kept.contents (d + i)
        (omega (arith, far, first_is k)) (omega (arith, far, first_is k, kept.count))
        (there k (1 + (d + i)) (omega (arith, first_is k)) (omega (arith, first_is k)))) in
        record {
          many = rw cut (omega (arith, length-drop d (fields line), kept.count, far, first_is k));
          digits = λ i h. rw cut (each i h).digits;
          worth = rw cut (sym (worth_digits n run (λ i h _. each i h)) ∙ sym (value_adds kept v));
        }

    pub adds : Kept e line → Adds e k line
    unfolding sum
    adds kept =
        below_or 1 n
        (λ l. let z : n ≡ 0 = omega arith in
        record {
          many = omega arith;
          digits = λ i h. absurd (omega arith);
          worth = ap (λ n. valued (take n (fields (from_amounts k line)))) z ∙ none_adds kept z;
        })
        (λ l. by_answer (is_value k) (λ v. amount_adds kept v l) (λ v. absurd (omega (arith, l, none_counted k v))))
