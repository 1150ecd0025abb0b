-- The invariant of the loop: the state, the table with those entries of the lines before that it holds whole, and their totals.
use Prim.Native.Nat.{ℕ, suc, ◌+◌, ◌/◌, ◌≤◌, ◌<◌}
use mathlib.Core.Path.{◌≡◌, refl, sym, ap, ap₂, ◌∙◌, subst}
use mathlib.Core.Logic.{◌≢◌}
use mathlib.Core.Bool.{Bool, true, false, and-false}
use mathlib.Core.List.{List, [], ◌∷◌, ◌++◌}
use native.Mathlib.Omega.{arith}
use native.Mathlib.Numerals.{add-one}
use native.Mathlib.Nat.{add-zero}
use lib.ListN.{length, get_or, take, length-append}
use lib.Seq.{take-nil, take-append_seam}
use lib.Dec.{ltb}
use borrow.Author.Tests.{ne_eqb, lt-ltb}
use Rattle.dirf.specs.Bytes.{Text}
use Rattle.dirf.specs.Limits.{numbers_an_entry}
use Rattle.dirf.specs.Kinds.{is_value}
use Rattle.dirf.specs.Edition.{Edition}
use Rattle.dirf.specs.Rules.{Found, keeps, given, first}
use Rattle.dirf.specs.Tree.{Rec, Open}
use Rattle.dirf.specs.Order.{kind_of_line}
use Rattle.dirf.specs.Check.{entry_of as entry_after, table_of}
use Rattle.dirf.specs.Check.{last_at, verdict, entry_numbers, numbers_from}
use Rattle.dirf.specs.Totals.{added, total, lines_read, total_by}
use Rattle.dirf.specs.Tables.{AmountsRight}
use Rattle.dirf.specs.Theorems.Sound.{Sound}
use Rattle.dirf.specs.Theorems.Totals.{largest_line}
use Rattle.dirf.proofs.tests.Says.{below_or}
use Rattle.dirf.proofs.rules.Asked.{Passes, or_else_passes, nothing_found}
use Rattle.dirf.proofs.tree.History.{table_length}
use Rattle.dirf.proofs.tree.OpenRecords.{OpenRecords, none_open, innermost}
use Rattle.dirf.proofs.tree.Groups.{last_none, last_next}
use Rattle.dirf.proofs.totals.Line.{Adds, adds, added_bound}
use Rattle.dirf.proofs.totals.Totals.{total_next, total_bound}
use Rattle.fields.specs.Places.{part_of}
use Rattle.rules.specs.Findings.{number_of}
use Rattle.std.specs.Prelude.{Ok}
use Rattle.checker.specs.State.{no_open, start_state, start_past, last_in, look_found, above, past_after, state_after}
use Rattle.checker.specs.Turn.{Stepped, Fits, looked_found, entry_of, turn_of}
use Rattle.checker.specs.Totals.{totals_in, add_at, sum_of, line_sum, Addable}
use Rattle.checker.specs.Answers.{entry_of_code, SayAll, with_numbers, numbers_in, table_within, put_entry, put_lasts, Judged}
use Rattle.checker.specs.declared.Answer.{Answer}
use Rattle.checker.specs.State.{Past}
use Rattle.checker.specs.declared.state.State.{State}
use Rattle.checker.specs.declared.turn.Record.{Record}
use Rattle.checker.proofs.Table.{held_length, put_next, put_above}
use Rattle.checker.proofs.state.Sums.{Stack}
use Rattle.checker.proofs.Lent.{totals_length, totals_least, totals_over, totals_same, totals_more}
use Rattle.checker.proofs.Reading.{lines_of, Reading, reading_start, Stops, Goes, On, Step, step}

-- a table with those entries of the lines before in front that it holds whole
abbrev entries_in : List ℕ → List Rec → List ℕ
entries_in first before = with_numbers (numbers_in (table_of before) first) first

lines_length : (before : List Rec) → length (lines_of before) ≡ length before
lines_length [] = refl
lines_length (r ∷ rs) = length-append (lines_of rs) (r.line ∷ []) ∙ omega (arith, lines_length rs)

-- the total of each kind over the lines before
abbrev totals_of : Edition → List Rec → ℕ → ℕ
totals_of e before k = total e k (lines_of before)

given_numbered : (n f : ℕ) (t : Bool) → Passes (ltb 0) (given (suc n) f t)
unfolding given
given_numbered n f true = lt-ltb 0 (suc n) (omega arith)
given_numbered n f false = tt

pub record Held (e : Edition) (below : List (List ℕ)) (file : Text) (room : ℕ) (first t lent ts : List ℕ) (st : State) (past : Past)
    : Type 0 where
  pub before : List Rec
  pub reading : Reading e below file room st past before
  pub table : t ≡ entries_in first before
  pub totals : ts ≡ totals_in (totals_of e before) lent
  pub right : AmountsRight e

pub held_start : {e : Edition} {below : List (List ℕ)} {file : Text} {room : ℕ} {first ts : List ℕ} {st : State} {past : Past}
    (lent : List ℕ) → Sound e → AmountsRight e → ts ≡ totals_in (λ k. 0) lent → st ≡ start_state → past ≡ start_past
    → Held e below file room first first ts ts st past
unfolding table_of with_numbers numbers_in numbers_from total
held_start {first} lent sound right z q p =
    rw (z, q, p) (record {
      before = [];
      reading = reading_start sound;
      table = rw (take-nil (length first / numbers_an_entry));
      totals = sym (totals_over (λ k. 0) (λ k. 0) lent);
      right = right;
    })

-- what the loop comes to: the answer with the table, and the totals
pub record Told (e : Edition) (file : Text) (room : ℕ) (before after first last : List ℕ) (a : Answer) : Type 0 where
  pub judged : Judged e file room before after a
  pub totals : last ≡ totals_in (total_by e file room) first

-- the totals that were lent, before they were cleared
pub as_lent : {e : Edition} {file : Text} {room : ℕ} {before after lent first last : List ℕ} {a : Answer} → first ≡ totals_in (λ k. 0) lent
    → Told e file room before after first last a → Told e file room before after lent last a
as_lent {lent} z j =
    record { judged = j.judged; totals = j.totals ∙ ap (totals_in _) z ∙ totals_over _ (λ k. 0) lent }

module _ {e : Edition} {below : List (List ℕ)} {file : Text} {room : ℕ} {first t lent ts : List ℕ} {st : State} {past : Past}
    (h : Held e below file room first t lent ts st past) where
  pub same_length : length t ≡ length first
  unfolding numbers_in
  same_length = ap length h.table ∙ held_length first _ (table_of h.before)

  pub same_totals : length ts ≡ length lent
  same_totals = ap length h.totals ∙ totals_length (totals_of e h.before) lent

  -- the lines before are those that the verdict has read
  lines_read_lem : (a : Answer) → Stops (verdict e file room) h.before a → lines_read file (verdict e file room) ≡ lines_of h.before
  unfolding lines_read
  lines_read_lem a w =
      ap₂ take (ap length w.table ∙ table_length h.before ∙ sym (lines_length h.before)) h.reading.lines
      ∙ take-append_seam (lines_of h.before) _

  -- where the turn stops, or what it has read is refused, the answer is the verdict, and the table and the totals are left as they are
  pub answered : (a : Answer) → Stops (verdict e file room) h.before a → Told e file room first t lent ts a
  unfolding table_within total_by
  answered a w =
      record {
        judged =
            record { answer = w.answer; entries = h.table ∙ ap (λ es. with_numbers (numbers_in es first) first) (sym w.table) };
        totals = h.totals ∙ totals_same _ _ lent (λ k. ap (total e k) (lines_read_lem a w));
      }

  pub turn_step : {rows : List ℕ} → SayAll e rows below file → (s : Stepped) → s ≡ turn_of e rows below file st → Step h.reading s
  turn_step all s q = subst (Step h.reading) (sym q) (step h.reading all)

  -- a turn that goes on has read a record
  pub read_on : {rows : List ℕ} → SayAll e rows below file → (r : Record) → Ok r ≡ turn_of e rows below file st → On h.reading r
  read_on all r q = turn_step all (Ok r) q

  -- which keeps 21 and 20 where looking back finds nothing: nothing is found by number 0
  pub looks_kept : (r : Record) (x : Found) → x ≡ looked_found file st r (last_in past r.kind) → number_of x ≡ 0
      → looked_found file st r (last_in past r.kind) ≡ keeps
  unfolding looked_found look_found number_of
  looks_kept r x q none =
      nothing_found number_of (λ n f. refl) _ (or_else_passes (ltb 0) _ _ (given_numbered 20 1 _) (given_numbered 19 2 _))
      (ap number_of (sym q) ∙ none)

  -- every open record is a line
  pub held_lines : (r : Record) → Goes h.reading r → (i : ℕ) → i < r.outer → 1 ≤ (get_or st.path.opened i no_open).line
  held_lines r g i few = go g.known g.stack (omega (arith, g.outer))
    where
      go : {k l : ℕ} {up : List Open} → OpenRecords h.before k l up → Stack st.path.opened up → i < length up
          → 1 ≤ (get_or st.path.opened i no_open).line
      go (none_open z) stack small = absurd (omega arith)
      go (innermost {outer = outer} a b known rest) stack small =
          below_or (length outer) i (go rest stack.1)
          (λ last. let same : length outer ≡ i = omega arith in
          subst (λ i. 1 ≤ (get_or st.path.opened i no_open).line) same (rw stack.0.number known.line.0))

  -- a line that is taken adds what the code reads of it, to the total of its kind alone
  module _ (r : Record) (g : Goes h.reading r) (f : Fits st r) where
    abbrev k : ℕ
    k = r.kind

    abbrev line : Text
    line = g.rec.line

    it_adds : Adds e k line
    it_adds = subst (λ k. Adds e k line) g.kind (adds e h.reading.sums.sound h.right line g.kept)

    line_adds : line_sum k line ≡ added e k line
    unfolding line_sum sum_of
    line_adds = it_adds.worth

    other_adds : (j : ℕ) → j ≢ k → added e j line ≡ 0
    unfolding added
    other_adds j d = rw (ne_eqb (kind_of_line e line) j (λ q. d (sym q ∙ g.kind)), and-false (is_value j))

    largest : line_sum k line ≤ largest_line
    largest = omega (arith, line_adds, added_bound e h.reading.sums.sound h.right k line)

    -- it fits, as the total of so many lines does
    line_fits : Addable ts k line
    unfolding line_sum
    line_fits =
        let so_far = totals_least (totals_of e h.before) lent k f.kind in
        let bound = total_bound e h.reading.sums.sound h.right k (lines_of h.before) in
        record {
          summable = record { many = it_adds.many; digits = it_adds.digits; fits = omega (arith, largest) };
          fits = omega (
            arith,
            largest,
            bound,
            lines_length h.before,
            h.reading.sums.count,
            f.safe.fewer,
            ap (λ t. get_or t k 0) h.totals,
            so_far,
          );
        }

    pub addable : Addable ts k (part_of file st.at r.len)
    addable = rw g.line line_fits

    held_totals : add_at ts k (line_sum k (part_of file st.at r.len)) ≡ totals_in (totals_of e (g.rec ∷ h.before)) lent
    held_totals =
        ap₂ (λ t c. add_at t k c) h.totals (ap (line_sum k) g.line ∙ line_adds)
        ∙ totals_more (totals_of e h.before) (totals_of e (g.rec ∷ h.before)) lent k (added e k line) f.kind
        (total_next e k (lines_of h.before) line)
        (λ j d. total_next e j (lines_of h.before) line ∙ ap (λ x. totals_of e h.before j + x) (other_adds j d) ∙ add-zero _)

  pub held_next : (r : Record) → Goes h.reading r → Fits st r
      → let own = st.count + 1 in
      Held e below file room first
      (put_lasts (put_entry t st.count (entry_numbers (entry_of_code (entry_of st r)) own)) st.path.opened r.outer own)
      lent (add_at ts r.kind (line_sum r.kind (part_of file st.at r.len)))
      (state_after st r.kind r.outer r.len) (past_after past r.kind (above st.path.opened r.outer).line st.at r.len)
  unfolding table_of numbers_in
  held_next r g f =
      let es = table_of h.before in
      let x = entry_after g.rec h.before in
      let n : st.count ≡ length es = h.reading.sums.count ∙ sym (table_length h.before) in
      let own : length es + 1 ≡ suc (length h.before) = omega (arith, table_length h.before) in
      record {
        before = g.rec ∷ h.before;
        reading = g.reading;
        totals = held_totals r g f;
        right = h.right;
        table =
            ap₂ (λ a (c : ℕ). put_lasts (put_entry a c (entry_numbers (entry_of_code (entry_of st r)) (c + 1)))
            st.path.opened r.outer (c + 1))
            h.table n
            ∙ ap₂ (λ y d. put_lasts (put_entry (entries_in first h.before) (length es) (entry_numbers y (length es + 1)))
            st.path.opened d (length es + 1))
            g.entry g.outer
            ∙ ap₂ (λ a b. put_lasts (put_entry (entries_in first h.before) (length es) (entry_numbers x a))
            st.path.opened (length g.up) b)
            (add-one (length es) ∙ sym (last_none es (suc (length es)) (omega arith))) own
            ∙ ap (λ a. put_lasts a st.path.opened (length g.up) (suc (length h.before))) (put_next first (last_at es) es x)
            ∙ put_above first (last_at es) (last_at (es ++ (x ∷ []))) (es ++ (x ∷ [])) (suc (length h.before)) st.path.opened
            g.known (omega (arith, length-append es (x ∷ []), table_length h.before)) g.stack
            (λ j one few.
            last_next h.before g.rec g.known g.parent (omega arith) j one
            (omega (arith, length-append es (x ∷ []), table_length h.before)));
      }
