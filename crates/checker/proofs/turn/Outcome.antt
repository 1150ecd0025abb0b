-- A turn over the state gives what document 01's rules give over the records, up to 21, 20 and 7: part by part, in their order.
use Rattle.std.specs.Prelude.{Ok, Err, if◌then◌else◌}
use Prim.Native.Nat.{ℕ, zero, suc, ◌≤◌, ◌<◌}
use mathlib.Core.Path.{◌≡◌, refl, sym, ap, ap₂, ◌∙◌, subst}
use mathlib.Core.Bool.{Bool, true, false, not, ◌&&◌}
use mathlib.Core.List.{List, ◌∷◌, ◌++◌}
use native.Mathlib.Omega.{arith}
use lib.Dec.{eqb, ltb, leb, leb-suc-suc}
use lib.ListN.{length, get_or, drop, length-drop}
use borrow.Author.Tests.{lt-leb, ltb-false, eqb-true, ne_eqb, not-false}
use Rattle.dirf.specs.Bytes.{Text, ends_with}
use Rattle.dirf.specs.Limits.{bar, lines_limit}
use Rattle.dirf.specs.Kinds.{is_later, stands_once}
use Rattle.dirf.specs.Edition.{Edition, kind_of, name_of, rows_of}
use Rattle.dirf.specs.Lines.{Piece, pieces, fields, field, clean}
use Rattle.dirf.specs.FieldReader.{field_of}
use Rattle.dirf.specs.Rules.{Found, keeps, breaks, given, or_else, Rule, ask, first, asked_of, over}
use Rattle.dirf.specs.Tree.{Rec, may_stand, parent_of}
use Rattle.dirf.specs.Keys.{has_key, last_under, is_some, not_after}
use Rattle.dirf.specs.Order.{Here, here, kind_of_line, closed, limits, line_ends, kind, place, field_count, contents, line_opens}
use Rattle.dirf.specs.Check.{refused}
use Rattle.dirf.proofs.tests.Bools.{by_answer}
use Rattle.dirf.proofs.tree.History.{table_length}
use Rattle.dirf.proofs.rules.Asked.{given_false, or_else_left, or_else_right}
use Rattle.dirf.proofs.rules.RulesPut.{or_assoc}
use Rattle.dirf.proofs.totals.Line.{Kept}
use Rattle.fields.specs.Places.{most_fields, no_place, part_of, places_of, cell_at, cells_at}
use Rattle.fields.proofs.PlaceLaws.{places_count, places_cells}
use Rattle.fields.proofs.Inside.{cell_is}
use Rattle.kinds.specs.Kinds.{kinds}
use Rattle.layout.specs.Tables.{rows_in, count_in}
use Rattle.layout.proofs.Laws.{count_is, few_rows}
use Rattle.rules.specs.Findings.{contents_found}
use Rattle.rules.proofs.Laws.{or_keeps}
use Rattle.checker.specs.Lines.{number_at}
use Rattle.checker.specs.State.{held_at, last_in, place_found, look_found}
use Rattle.checker.specs.Turn.{Stepped, refused_at, halt, found_step, looked_found, filled_found}
use Rattle.checker.specs.Turn.{read_step, record_of, record_step, line_step}
use Rattle.checker.specs.Turn.{turn_of}
use Rattle.checker.specs.Answers.{answer_of, SayAll}
use Rattle.checker.specs.State.{Past}
use Rattle.checker.specs.declared.state.State.{State}
use Rattle.checker.specs.declared.turn.Record.{Record}
use Rattle.checker.proofs.lines.NextLine.{scan_found, found_of, WholeLine, Read, read, line_is}
use Rattle.checker.proofs.state.Sums.{Sums, parent_same, stands_same}
use Rattle.checker.proofs.state.LookingBack.{look_same}

-- the order of numbers but for its last parts, look back and room
abbrev pub early : List (Rule Here)
early = limits ++ line_ends ++ kind ++ place ++ over (λ h. h.contents) (field_count ++ contents)

module _ (e : Edition) (before : List Rec) (line : Text) where
  abbrev k : ℕ
  k = kind_of_line e line

  -- 9, 10 and 12
  abbrev place_rule : Found
  place_rule = or_else (given 9 1 (eqb k 0)) (or_else (given 10 1 (is_later k)) (given 12 1 (not (may_stand e before k))))

  -- 11, then 13 to 19 and 26
  abbrev fill_rule : Found
  fill_rule =
      or_else (given 11 0 (not (eqb (length (fields line)) (length (rows_of e k))))) (contents_found k (name_of e k) (rows_of e k)
      (fields line))

  -- 21 and 20
  abbrev pub look_rule : Found
  look_rule =
      or_else (given 21 1 (stands_once k && is_some (last_under before (parent_of e before k) k)))
      (given 20 2 (has_key k && not_after k (fields line) (last_under before (parent_of e before k) k)))

  -- 8 and on, of a line that is whole
  abbrev late_rule : Found
  late_rule = or_else (given 8 0 (not (ends_with bar line))) (or_else place_rule fill_rule)

early_is : (e : Edition) (room : ℕ) (before : List Rec) (p : Piece)
    → first early (here e room before p)
    ≡ or_else (given 2 0 (closed before))
    (or_else (given 3 0 (ltb lines_limit (suc (length before)))) (or_else (scan_found p) (late_rule e before p.body)))
unfolding first ask asked_of over line_opens scan_found contents_found
early_is e room before p = simp (← or_assoc, or_keeps)

-- a line was refused
abbrev pub Gave : List Rec → Stepped → ℕ → ℕ → Type 0
Gave before s n f = s ≡ Err (answer_of (refused before n f))

module _ {e : Edition} {below : List (List ℕ)} {file : Text} {st : State} {past : Past} {before : List Rec}
    (h : Sums e below file st past before) where
  -- what is left of the file, its first line, and the kind that it names
  abbrev left : Text
  left = drop st.at file

  abbrev pub ln : Text
  ln = clean left

  abbrev pub kd : ℕ
  kd = kind_of_line e ln

  -- the record that the line is read as, by the code and by document 01
  abbrev pub read_as : Record
  read_as =
      record {
        kind = kd;
        outer = held_at below st kd;
        len = length ln;
        second = get_or (places_of ln).first 1 no_place;
        third = get_or (places_of ln).first 2 no_place;
      }

  abbrev pub rec : Rec
  rec = record { kind = kd; line = ln; parent = parent_of e before kd }

  -- a line was read as a record
  pub record Took (p : Piece) (rest : List Piece) (s : Stepped) : Type 0 where
    pub whole : WholeLine left ln p rest
    pub is_read : s ≡ Ok read_as
    pub fewer : length before < lines_limit
    pub stands : may_stand e before kd ≡ true
    pub kept : Kept e ln
    pub few : length (fields ln) ≤ most_fields

  abbrev pub Outcome : Piece → List Piece → Stepped → Found → Type 0
  Outcome p rest s keeps = Took p rest s
  Outcome p rest s (breaks n f) = Gave before s n f

  -- what one turn comes to where the file goes on
  pub record Turned (room : ℕ) (s : Stepped) : Type 0 where
    pub piece : Piece
    pub rest : List Piece
    pub first_piece : pieces left ≡ piece ∷ rest
    pub outcome : Outcome piece rest s (first early (here e room before piece))

  pub answer_is : (n f : ℕ) → refused_at st.count n f ≡ answer_of (refused before n f)
  unfolding answer_of refused
  answer_is n f =
      ap₂ (λ x y. record { number = n; line = x; field = f; entries = y }) (omega (arith, h.count)) (h.count ∙ sym (table_length before))

  gave : (n f : ℕ) → Gave before (halt st n f) n f
  gave n f = ap Err (answer_is n f)

  module _ (p : Piece) (rest : List Piece) where
    -- a rule that stops where its test holds, one that stops where it does not, and a part that stops where it finds something
    try : (n f : ℕ) (t u : Bool) (s : Stepped) (g : Found) → t ≡ u → (u ≡ false → Outcome p rest s g)
        → Outcome p rest (if t then halt st n f else s) (or_else (given n f u) g)
    unfolding given or_else
    try n f t true s g q o = rw q (gave n f)
    try n f t false s g q o = rw q (o refl)

    unless : (n f : ℕ) (t : Bool) (s : Stepped) (g : Found) → Outcome p rest s g
        → Outcome p rest (if t then s else halt st n f) (or_else (given n f (not t)) g)
    unfolding given or_else
    unless n f true s g o = o
    unless n f false s g o = gave n f

    found : (x y : Found) (s : Stepped) (g : Found) → x ≡ y → (y ≡ keeps → Outcome p rest s g)
        → Outcome p rest (found_step st x s) (or_else y g)
    unfolding found_step or_else
    found x keeps s g q o = subst (λ z. Outcome p rest (found_step st z s) g) (sym q) (o refl)
    found x (breaks n f) s g q o = subst (λ z. Gave before (found_step st z s) n f) (sym q) (gave n f)

  place_is : place_found st kd (held_at below st kd) ≡ place_rule e before ln
  unfolding place_found
  place_is = ap (λ t. or_else (given 9 1 (eqb kd 0)) (or_else (given 10 1 (is_later kd)) (given 12 1 (not t)))) (stands_same h kd)

  may : place_rule e before ln ≡ keeps → may_stand e before kd ≡ true
  may q = not-false (may_stand e before kd) (given_false 12 1 _ (or_else_right _ _ (or_else_right _ _ q)))

  -- 21 and 20 of the record that was read
  pub looked_is : kd < kinds → may_stand e before kd ≡ true → length (fields ln) ≤ most_fields
      → looked_found file st read_as (last_in past kd) ≡ look_rule e before ln
  unfolding looked_found cell_at
  looked_is small stands fits =
      let second : Text = cell_at ln (places_of ln) 1 in
      let third : Text = cell_at ln (places_of ln) 2 in
      rw (line_is file st.at)
      (ap (λ p. look_found file (last_in past kd) kd p second third) (parent_same h kd stands)
      ∙ look_same h kd stands small second third (fields ln) (cell_is ln 1 fits) (cell_is ln 2 fits))

  many : leb lines_limit st.count ≡ ltb lines_limit (suc (length before))
  many = ap (leb lines_limit) h.count ∙ sym (leb-suc-suc lines_limit (length before))

  kind_is : kind_of e (field_of 1 ln) ≡ kd
  unfolding kind_of_line field_of
  kind_is = refl

  -- a line that may stand has a kind
  known : place_rule e before ln ≡ keeps → eqb kd 0 ≡ false
  known q = given_false 9 1 _ (or_else_left _ _ q)

  -- 11, and 13 to 18 and 26, are kept
  fields_kept : fill_rule e before ln ≡ keeps → Kept e ln
  unfolding contents_found first ask
  fields_kept q =
      record {
        count = eqb-true (length (fields ln)) (length (rows_of e kd)) (not-false _ (given_false 11 0 _ (or_else_left _ _ q)));
        contents = or_else_left _ _ (or_else_right _ _ q);
      }

  module _ {rows : List ℕ} (all : SayAll e rows below file) where
    pub small : kd < kinds
    unfolding kind_of_line
    small = all.small (field 1 (fields ln))

    own : eqb kd 0 ≡ false → name_of e kd ≡ field 1 (fields ln)
    unfolding kind_of_line
    own = all.own (field 1 (fields ln))

    few_fields : Kept e ln → length (fields ln) ≤ most_fields
    few_fields k = omega (arith, few_rows all.say kd, k.count)

    fill_is : eqb kd 0 ≡ false → filled_found rows ln (places_of ln) kd ≡ fill_rule e before ln
    unfolding filled_found or_else given
    fill_is named =
        ap (λ n. or_else (given 11 0 (not (eqb n (count_in rows kd))))
        (contents_found kd (cell_at ln (places_of ln) 0) (rows_in rows kd) (cells_at ln (places_of ln)))) (places_count ln)
        ∙ rw (count_is all.say kd, all.say.fields kd, own named)
        (by_answer (eqb (length (fields ln)) (length (rows_of e kd)))
        (λ t.
        let n = eqb-true (length (fields ln)) (length (rows_of e kd)) t in
        let fits : length (fields ln) ≤ most_fields = omega (arith, few_rows all.say kd, n) in
        rw (places_cells ln fits, cell_is ln 0 fits))
        (λ t. rw t))

    -- a whole line
    whole_outcome : (p : Piece) (rest : List Piece) → WholeLine left ln p rest → length before < lines_limit
        → Outcome p rest (record_step e rows below (part_of left 0 (length ln)) st (places_of ln)) (late_rule e before ln)
    unfolding record_step read_step record_of
    whole_outcome p rest whole fewer =
        rw (line_is left 0, kind_is)
        (unless p rest 8 0 (ends_with bar ln) _ _
        (found p rest _ (place_rule e before ln) _ _ place_is (λ q.
        subst (Outcome p rest _) (or_keeps (fill_rule e before ln))
        (found p rest _ (fill_rule e before ln) _ keeps (fill_is (known q)) (λ f.
        let k = fields_kept f in
        record { whole = whole; is_read = refl; fewer = fewer; stands = may q; kept = k; few = few_fields k })))))

    -- a line as it is found
    line_outcome : (q : Read left ln (number_at left)) → length before < lines_limit
        → Outcome q.piece q.rest (line_step e rows below file st)
        (or_else (scan_found q.piece) (late_rule e before q.piece.body))
    unfolding or_else found_of line_step
    line_outcome q fewer = rw q.told (go (number_at left) refl)
      where
        whole : Stepped
        whole = record_step e rows below (part_of left 0 (length ln)) st (places_of ln)

        go : (n : ℕ) → number_at left ≡ n
            → Outcome q.piece q.rest (if eqb n 0 then whole else halt st n 0)
            (or_else (found_of n) (late_rule e before q.piece.body))
        go zero z =
            subst (λ p. Outcome q.piece q.rest whole (late_rule e before p.body)) (sym (q.whole z).is_piece)
            (whole_outcome q.piece q.rest (q.whole z) fewer)
        go (suc m) z = rw (ne_eqb (suc m) 0 (λ q. omega arith)) (gave (suc m) 0)

    pub turned : (room : ℕ) → st.at < length file → Turned room (turn_of e rows below file st)
    unfolding turn_of
    turned room l =
        let q : Read left ln (number_at left) = read left (omega (arith, length-drop st.at file)) in
        record {
          piece = q.piece;
          rest = q.rest;
          first_piece = q.first;
          outcome =
              rw (early_is e room before q.piece, lt-leb (length file) st.at l)
              (try q.piece q.rest 2 0 st.done (closed before) _ _ h.done (λ _.
              try q.piece q.rest 3 0 (leb lines_limit st.count) (ltb lines_limit (suc (length before)))
              (line_step e rows below file st) _ many (λ u. line_outcome q (ltb-false lines_limit (suc (length before)) u))));
        }
