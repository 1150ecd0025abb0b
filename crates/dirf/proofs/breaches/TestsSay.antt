-- Every row of document 01's table: the test of the rule says what the table says in plain mathematics, and the list has them all.
use Prim.Native.Nat.{ℕ, suc, ◌≤◌, ◌<◌}
use mathlib.Core.Path.{◌≡◌, refl, sym, ap, ◌∙◌, subst, subst₂}
use mathlib.Core.Bool.{Bool, true, false, not}
use mathlib.Core.Logic.{◌≢◌, ◌⊎◌, inl, inr, ⊎_elim}
use mathlib.Core.List.Memᴰ
use mathlib.Core.List.{List, [], ◌∷◌, ◌++◌, nil≢cons, head-eq_of_cons-eq}
use native.Mathlib.Omega.{arith}
use lib.Dec.{eqb}
use lib.ListN.{length, length-append}
use borrow.Author.Tests.{not-true}
use Rattle.dirf.specs.Bytes.{Text, every, same, ends_with}
use Rattle.dirf.specs.Limits.{bar, line_limit, lines_limit}
use Rattle.dirf.specs.Kinds.{DECPF, PROC, RRA, FIMDirf, later, values, is_later, stands_once}
use Rattle.dirf.specs.Row.{Row}
use Rattle.dirf.specs.Edition.{Edition, kind_in, kind_of}
use Rattle.dirf.specs.Lines.{clean, unclean, fields, field}
use Rattle.dirf.specs.Fields.{FieldTest, FieldRule, field_order, obligatory_field_empty, byte_of_the_wrong_kind, wrong_size, zero_in_front}
use Rattle.dirf.specs.Fields.{no_such_date, not_a_valid_value, wrong_check_digits}
use Rattle.dirf.specs.Conditions.{Condition, Lawyer, person, firm, nobody, lawyers, lawyers_number_wrong, lawyers_name_too_long}
use Rattle.dirf.specs.Conditions.{condition_order, event_date_missing, event_type_missing, death_not_stated}
use Rattle.dirf.specs.Conditions.{estate_stated}
use Rattle.dirf.specs.Rules.{Rule, gives, field_by_field, conditions}
use Rattle.dirf.specs.Tree.{Rec}
use Rattle.dirf.specs.Keys.{key_fields, key_of}
use Rattle.dirf.specs.Order.{Here, here, kind_of_line, contents_of, line_number, closed, bytes_follow_FIMDirf, too_many_lines}
use Rattle.dirf.specs.Order.{line_too_long}
use Rattle.dirf.specs.Order.{input_ends, stray_line_end, no_bar_at_the_end, identifier_unknown, left_for_later, may_not_stand_here}
use Rattle.dirf.specs.Order.{wrong_number_of_fields, value_record_repeated, key_not_greater, no_room, order}
use Rattle.dirf.specs.Theorems.Plain.{◌∈◌, Nth, NoLineEnd, SmallerKey}
use Rattle.dirf.specs.Theorems.Breach.{Stands, FieldIs, Breach, follows, line_65537, long, ends, ends_after_CR, stray, no_bar}
use Rattle.dirf.specs.Theorems.Breach.{unknown, for_later, misplaced, count, missing, byte, size, a_zero_in_front, no_day, invalid}
use Rattle.dirf.specs.Theorems.Breach.{LawyerIs, not_a_cpf, persons_name, not_a_cnpj, firms_name, nobodys_number, nobodys_name}
use Rattle.dirf.specs.Theorems.Breach.{wrong_digits, no_event_date, no_event_type, no_death, estate, again, not_greater, full}
use Rattle.dirf.specs.Theorems.Sound.{Sound}
use Rattle.dirf.specs.Theorems.Answered.{Closed, Given, by_test, by_field, by_condition, TestsSay}
use Rattle.dirf.proofs.tests.Says.{Says, never, says_and, says_not, says_by, denies, says, eqb_says, ltb_says, is_in_says, same_says}
use Rattle.dirf.proofs.tests.Says.{ends_says, it, on, some_length, alone, either_of, of_either}
use Rattle.dirf.proofs.tests.Lists.{listed, Each, none, ◌also◌, of_each}
use Rattle.dirf.proofs.tests.Bools.{and_left, and_right, if_cases}
use Rattle.dirf.proofs.breaches.CleanLaws.{clean_none, clean_unclean, clean_front, cut_says, stray_says}
use Rattle.dirf.proofs.breaches.FieldLaws.{says_13, says_14, says_15, says_16, says_17, says_18, says_26}
use Rattle.dirf.proofs.breaches.ConditionLaws.{number_says, name_says, date_missing_says, type_missing_says, death_says, estate_says}
use Rattle.dirf.proofs.breaches.TreeLaws.{stands_says}
use Rattle.dirf.proofs.breaches.KeysSay.{Under, LastOne, repeated_says, not_after_says, has_key_says}

-- an identifier is unknown exactly when no name of the edition is it
unknown_says : (names : List (ℕ × Text)) → every (λ n. not (eqb n.0 0)) names ≡ true → (s : Text)
    → Says (eqb (kind_in names s) 0) ((n : ℕ × Text) → n ∈ names → n.1 ≡ s → ⊥)
unfolding kind_in every
unknown_says [] e s = (λ q n m. absurd (Memᴰ.not-nil m), λ h. refl)
unknown_says (x ∷ names) e s =
    let some-kind = (says_not (eqb x.0 0) (eqb_says x.0 0)).0 (and_left (not (eqb x.0 0)) _ e) in
    if_cases (λ k. Says (eqb k 0) ((n : ℕ × Text) → n ∈ (x ∷ names) → n.1 ≡ s → ⊥)) (same x.1 s)
    (λ q. (λ z. absurd (some-kind ((eqb_says x.0 0).0 z)), λ h. absurd (h x it ((same_says x.1 s).0 q))))
    (λ q.
    let other = (denies (same x.1 s) (same_says x.1 s)).0 q in
    says_by (λ h n m i. ⊎_elim (λ e. other (ap (λ (y : ℕ × Text). y.1) (sym e) ∙ i)) (λ m. h n m i) (Memᴰ.cases_cons m))
    (λ h n m. h n (on m)) (unknown_says names (and_right (not (eqb x.0 0)) _ e) s))

-- FIMDirf was read
pub closed_says : (before : List Rec) → Says (closed before) (Closed before)
unfolding closed
closed_says [] = never (λ q. nil≢cons q.2)
closed_says (r ∷ rs) =
    says_by (λ e. (r, rs, refl, e)) (λ q. ap (λ (x : Rec). x.kind) (head-eq_of_cons-eq q.2) ∙ q.3) (eqb_says r.kind FIMDirf)

ended_says : (t : Bool) → Says (not t) (t ≡ false)
ended_says t = (not-true t, λ e. rw e)

module _ (h : Here) where
  -- 2
  says_2 : Says (bytes_follow_FIMDirf h) (Closed h.before)
  unfolding bytes_follow_FIMDirf
  says_2 = closed_says h.before

  -- 3
  says_3 : Says (too_many_lines h) (lines_limit ≤ length h.before)
  unfolding too_many_lines line_number
  says_3 = says_by (λ e. omega arith) (λ e. omega arith) (ltb_says lines_limit (suc (length h.before)))

  -- 4
  says_4 : Says (line_too_long h) ((a : Text) × (b : Text) × (h.piece.body ≡ a ++ b) × NoLineEnd a × (line_limit < length a))
  unfolding line_too_long
  says_4 =
      says_by
      (λ e. (clean h.piece.body, unclean h.piece.body, clean_unclean h.piece.body, clean_none h.piece.body, e))
      (λ q. rw (q.2, clean_front q.0 q.1 q.3, length-append) (omega (arith, q.4)))
      (ltb_says line_limit (length (clean h.piece.body)))

  -- 5
  says_5 : Says (input_ends h)
      ((h.piece.ended ≡ false) × (NoLineEnd h.piece.body ⊎ ((a : Text) × (h.piece.body ≡ a ++ (13 ∷ [])) × NoLineEnd a)))
  unfolding input_ends
  says_5 = search (says_and, ended_says, cut_says)

  -- 6
  says_6 : Says (stray_line_end h) ((b : ℕ) × (b ∈ h.piece.body) × ((b ≡ 13) ⊎ (b ≡ 10)))
  unfolding stray_line_end
  says_6 = stray_says h.piece.body

  -- 8
  says_8 : Says (no_bar_at_the_end h) ((s : Text) → h.piece.body ≡ s ++ (124 ∷ []) → ⊥)
  unfolding no_bar_at_the_end
  says_8 =
      says_by (λ n s e. n (s, e)) (λ n q. n q.0 q.1) (says_not (ends_with bar h.piece.body) (ends_says bar h.piece.body))

  -- 10
  says_10 : Says (left_for_later h) (h.contents.kind ∈ later)
  unfolding left_for_later is_later
  says_10 = is_in_says h.contents.kind later

  -- 12
  says_12 : Says (may_not_stand_here h) (Stands h.edition h.before h.contents.kind → ⊥)
  unfolding may_not_stand_here
  says_12 = search (says, stands_says)

  -- 11
  says_11 : Says (wrong_number_of_fields h.contents) (length h.contents.cells ≢ length h.contents.rows)
  unfolding wrong_number_of_fields
  says_11 = search says

  -- 21
  says_21 : Says (value_record_repeated h)
      ((h.contents.kind ∈ values) × ((r : Rec) × (r ∈ h.before) × Under h.parent h.contents.kind r))
  unfolding value_record_repeated stands_once
  says_21 = search (says, repeated_says)

  -- 20
  says_20 : Says (key_not_greater h)
      ((key_fields h.contents.kind ≢ [])
      × ((r : Rec) × LastOne h.before h.parent h.contents.kind r
      × (SmallerKey (key_of h.contents.kind (fields r.line)) (key_of h.contents.kind h.contents.cells) → ⊥)))
  unfolding key_not_greater
  says_20 = search (says, has_key_says, not_after_says)

  -- 7
  says_7 : Says (no_room h) (h.room < suc (length h.before))
  unfolding no_room line_number
  says_7 = ltb_says h.room (suc (length h.before))

-- what a rule of a line gives is a breach
abbrev Means : Here → Rule Here → Type 0
Means h r = (n f : ℕ) → Given h n f r → Breach h n f

-- 9 asks that the kind is the one that the identifier names, and that no kind has number 0
pub record Named (h : Here) : Type 0 where
  pub numbered : every (λ n. not (eqb n.0 0)) h.edition.names ≡ true
  pub kinded : h.contents.kind ≡ kind_in h.edition.names (field 1 h.contents.cells)

module _ (h : Here) (named : Named h) where
  abbrev name : Text
  name = h.contents.name

  abbrev cells : List Text
  cells = h.contents.cells

  -- 9
  says_9 : Says (identifier_unknown h) ((n : ℕ × Text) → n ∈ h.edition.names → n.1 ≡ field 1 cells → ⊥)
  unfolding identifier_unknown
  says_9 = rw named.kinded (unknown_says h.edition.names named.numbered (field 1 cells))

  -- what each rule of a field gives is a breach
  fields_mean : Each
      (λ (x : FieldRule). (f : ℕ) (r : Row) (s : Text) → FieldIs h f r s → x.1 name r s ≡ true → Breach h x.0 f) field_order
  unfolding field_order
  fields_mean =
      (λ f r s i t. let q = (says_13 name r s).0 t in missing f r (i.0, subst (Nth cells f) q.1 i.1) q.0)
      also (λ f r s i t. let q = (says_14 name r s).0 t in byte f r s i q.0 q.1 q.2)
      also (λ f r s i t. let q = (says_15 name r s).0 t in size f r s i q.0 q.1)
      also (λ f r s i t. let q = (says_16 name r s).0 t in
      a_zero_in_front f r q.1.0 (i.0, subst (Nth cells f) q.1.1 i.1) q.0)
      also (λ f r s i t. let q = (says_17 name r s).0 t in no_day f r s i q.0.0 q.0.1 q.1)
      also (λ f r s i t. let q = (says_18 name r s).0 t in invalid f r s i q.0 q.1)
      also (λ f r s i t. let q = (says_26 name r s).0 t in wrong_digits f r s i q.0 q.1)
      also none

  -- and each condition; of a lawyer's, each row of the table
  numbers_mean : Each
      (λ (l : Lawyer). LawyerIs h l.kind → field 5 cells ≢ [] → length (field 5 cells) ≢ l.digits → Breach h 19 5) lawyers
  unfolding lawyers
  numbers_mean = not_a_cpf also not_a_cnpj also (λ i e q. nobodys_number i e) also none

  names_mean : Each (λ (l : Lawyer). LawyerIs h l.kind → l.name < length (field 6 cells) → Breach h 19 6) lawyers
  unfolding lawyers
  names_mean = persons_name also firms_name also (λ i q. nobodys_name i ((some_length (field 6 cells)).0 q)) also none

  conditions_mean : Each
      (λ (x : Condition). h.contents.kind ∈ x.kinds → x.broken cells ≡ true → Breach h 19 x.field) condition_order
  unfolding condition_order
  conditions_mean =
      (λ m t. let q = (number_says cells).0 t in
      of_each numbers_mean q.0 q.1 (either_of m, q.2.0) q.2.1.0 q.2.1.1)
      also (λ m t. let q = (name_says cells).0 t in of_each names_mean q.0 q.1 (either_of m, q.2.0) q.2.1)
      also (λ m t. let q = (date_missing_says cells).0 t in no_event_date (alone m) q.0 q.1)
      also (λ m t. let q = (type_missing_says cells).0 t in no_event_type (alone m) q.0 q.1)
      also (λ m t. let q = (death_says cells).0 t in no_death (alone m) q.0.0 q.0.1 q.1)
      also (λ m t. let q = (estate_says cells).0 t in estate (alone m) q.0 q.1)
      also none

  all_fields_mean : Means h (field_by_field field_order (λ h. h.contents))
  all_fields_mean n f (by_field x r s l e a b t) = subst (λ m. Breach h m f) e (of_each fields_mean x l f r s (a, b) t)

  all_conditions_mean : Means h (conditions 19 condition_order (λ h. h.contents))
  all_conditions_mean n f (by_condition x m l e a t) = subst₂ (Breach h) m e (of_each conditions_mean x l a t)

  -- a rule with one number and one field
  means : {m g : ℕ} {test : Here → Bool} → (test h ≡ true → Breach h m g) → Means h (gives m g test)
  means f n i (by_test e q t) = subst₂ (Breach h) e q (f t)

  order_means : Each (Means h) order
  unfolding order
  order_means =
      means (λ t. let q = (says_2 h).0 t in follows q.0 q.1 q.2 q.3)
      also means (λ t. line_65537 ((says_3 h).0 t))
      also means (λ t. let q = (says_4 h).0 t in long q.0 q.1 q.2 q.3 q.4)
      also means (λ t. let q = (says_5 h).0 t in
      ⊎_elim (λ n. ends q.0 n) (λ c. ends_after_CR c.0 q.0 c.1 c.2) q.1)
      also means (λ t. let q = (says_6 h).0 t in stray q.0 q.1 q.2)
      also means (λ t. no_bar ((says_8 h).0 t))
      also means (λ t. unknown (says_9.0 t))
      also means (λ t. for_later ((says_10 h).0 t))
      also means (λ t. misplaced ((says_12 h).0 t))
      also means (λ t. count ((says_11 h).0 t))
      also all_fields_mean
      also all_conditions_mean
      also means (λ t. let q = (says_21 h).0 t in again q.0 q.1.0 q.1.1 (q.1.2.1, q.1.2.0))
      also means (λ t. let q = (says_20 h).0 t in let l = q.1.1 in
      not_greater q.0 l.since q.1.0 l.earlier l.split (l.under.1, l.under.0)
      (λ x m u. l.none_since x m (u.1, u.0)) q.1.2)
      also means (λ t. full ((says_7 h).0 t))
      also none

  -- some rule of the list gives n at f
  abbrev GivenSome : ℕ → ℕ → Type 0
  GivenSome n f = (r : Rule Here) × (r ∈ order) × Given h n f r

  by_rule : {n f : ℕ} (test : Here → Bool) → gives n f test ∈ order → test h ≡ true → GivenSome n f
  by_rule {n} {f} test m t = (gives n f test, m, by_test refl refl t)

  by_field_rule : {n f : ℕ} {r : Row} {s : Text} (test : FieldTest) → (n, test) ∈ field_order → FieldIs h f r s
      → test name r s ≡ true → GivenSome n f
  unfolding order
  by_field_rule {n} {r = r} {s = s} test m i t =
      (field_by_field field_order (λ h. h.contents), search listed depth 40, by_field (n, test) r s m refl i.0 i.1 t)

  by_condition_rule : {f : ℕ} (ks : List ℕ) (test : List Text → Bool) → record { kinds = ks; field = f; broken = test } ∈ condition_order
      → h.contents.kind ∈ ks → test cells ≡ true → GivenSome 19 f
  unfolding order
  by_condition_rule ks test m e t =
      (conditions 19 condition_order (λ h. h.contents), search listed depth 40, by_condition _ refl m refl e t)

  by_number : (l : Lawyer) → l ∈ lawyers → LawyerIs h l.kind → field 5 cells ≢ [] → length (field 5 cells) ≢ l.digits → GivenSome 19 5
  unfolding condition_order
  by_number l m i e q =
      by_condition_rule (PROC ∷ RRA ∷ []) lawyers_number_wrong (search listed) (of_either i.0)
      ((number_says cells).1 (l, m, (i.1, (e, q))))

  by_name : (l : Lawyer) → l ∈ lawyers → LawyerIs h l.kind → l.name < length (field 6 cells) → GivenSome 19 6
  unfolding condition_order
  by_name l m i q =
      by_condition_rule (PROC ∷ RRA ∷ []) lawyers_name_too_long (search listed) (of_either i.0)
      ((name_says cells).1 (l, m, (i.1, q)))

  breach_given : {n f : ℕ} → Breach h n f → GivenSome n f
  unfolding order field_order condition_order lawyers
  breach_given (follows r rs e q) = by_rule bytes_follow_FIMDirf (search listed depth 40) ((says_2 h).1 (r, rs, e, q))
  breach_given (line_65537 q) = by_rule too_many_lines (search listed depth 40) ((says_3 h).1 q)
  breach_given (long a b e n q) = by_rule line_too_long (search listed depth 40) ((says_4 h).1 (a, b, e, n, q))
  breach_given (ends e n) = by_rule input_ends (search listed depth 40) ((says_5 h).1 (e, inl n))
  breach_given (ends_after_CR a e q n) = by_rule input_ends (search listed depth 40) ((says_5 h).1 (e, inr (a, q, n)))
  breach_given (stray b m q) = by_rule stray_line_end (search listed depth 40) ((says_6 h).1 (b, m, q))
  breach_given (no_bar q) = by_rule no_bar_at_the_end (search listed depth 40) ((says_8 h).1 q)
  breach_given (unknown q) = by_rule identifier_unknown (search listed depth 40) (says_9.1 q)
  breach_given (for_later q) = by_rule left_for_later (search listed depth 40) ((says_10 h).1 q)
  breach_given (misplaced q) = by_rule may_not_stand_here (search listed depth 40) ((says_12 h).1 q)
  breach_given (count q) = by_rule (λ h. wrong_number_of_fields h.contents) (search listed depth 40) ((says_11 h).1 q)
  breach_given (missing f r i e) = by_field_rule obligatory_field_empty (search listed) i ((says_13 name r []).1 (e, refl))
  breach_given (byte f r s i b m q) = by_field_rule byte_of_the_wrong_kind (search listed) i ((says_14 name r s).1 (b, m, q))
  breach_given (size f r s i e q) = by_field_rule wrong_size (search listed) i ((says_15 name r s).1 (e, q))
  breach_given (a_zero_in_front f r s i z) = by_field_rule zero_in_front (search listed) i ((says_16 name r (48 ∷ s)).1 (z, (s, refl)))
  breach_given (no_day f r s i e d q) = by_field_rule no_such_date (search listed depth 20) i ((says_17 name r s).1 ((e, d), q))
  breach_given (invalid f r s i e q) = by_field_rule not_a_valid_value (search listed depth 20) i ((says_18 name r s).1 (e, q))
  breach_given (wrong_digits f r s i e q) = by_field_rule wrong_check_digits (search listed depth 20) i ((says_26 name r s).1 (e, q))
  breach_given (not_a_cpf i e q) = by_number person (search listed) i e q
  breach_given (persons_name i q) = by_name person (search listed) i q
  breach_given (not_a_cnpj i e q) = by_number firm (search listed) i e q
  breach_given (firms_name i q) = by_name firm (search listed) i q
  breach_given (nobodys_number i e) =
      by_number nobody (search listed) i e (λ z. omega (arith, (some_length (field 5 cells)).1 e, z))
  breach_given (nobodys_name i e) = by_name nobody (search listed) i ((some_length (field 6 cells)).1 e)
  breach_given (no_event_date e s q) =
      by_condition_rule (DECPF ∷ []) event_date_missing (search listed) (Memᴰ.head e) ((date_missing_says cells).1 (s, q))
  breach_given (no_event_type e s q) =
      by_condition_rule (DECPF ∷ []) event_type_missing (search listed) (Memᴰ.head e) ((type_missing_says cells).1 (s, q))
  breach_given (no_death e s t q) =
      by_condition_rule (DECPF ∷ []) death_not_stated (search listed) (Memᴰ.head e) ((death_says cells).1 ((s, t), q))
  breach_given (estate e s q) =
      by_condition_rule (DECPF ∷ []) estate_stated (search listed depth 20) (Memᴰ.head e) ((estate_says cells).1 (s, q))
  breach_given (again v r m u) = by_rule value_record_repeated (search listed depth 40) ((says_21 h).1 (v, (r, m, (u.1, u.0))))
  breach_given (not_greater q since r earlier e u n l) =
      let last : LastOne h.before h.parent h.contents.kind r =
      record { since = since; earlier = earlier; split = e; under = (u.1, u.0); none_since = λ x m w. n x m (w.1, w.0) } in
      by_rule key_not_greater (search listed depth 40) ((says_20 h).1 (q, (r, last, l)))
  breach_given (full q) = by_rule no_room (search listed depth 40) ((says_7 h).1 q)

pub tests_say : (e : Edition) → Sound e → TestsSay e
unfolding here contents_of kind_of_line kind_of
tests_say e sound room before p n f =
    let named : Named (here e room before p) = record { numbered = sound.numbered; kinded = refl } in
    (breach_given (here e room before p) named, λ g. of_each (order_means (here e room before p) named) g.0 g.1 n f g.2)
