-- What holds of the state between two lines, and what one turn makes of it: the verdict, or one record more.
use Rattle.std.specs.Prelude.{Ok, Err, if◌then◌else◌}
use Prim.Native.Nat.{ℕ, zero, suc, ◌+◌, ◌*◌, ◌≤◌, ◌<◌}
use mathlib.Core.Path.{◌≡◌, refl, sym, ap, ap₂, ◌∙◌, subst}
use mathlib.Core.Bool.{Bool, true, false}
use mathlib.Core.List.{List, [], ◌∷◌, ◌++◌, map, append_assoc}
use native.Mathlib.Omega.{arith}
use native.Mathlib.Numerals.{add-one}
use lib.Dec.{eqb, leb, ltb}
use lib.ListN.{length, drop, drop_of_length-le}
use lib.Seq.{drop-drop}
use borrow.Author.Tests.{leb-true, leb-false, lt-ltb, le-ltb, eqb-true, eqb-false}
use Rattle.dirf.specs.Bytes.{Text}
use Rattle.dirf.specs.Limits.{lines_limit}
use Rattle.dirf.specs.Edition.{Edition, kind_of}
use Rattle.dirf.specs.Lines.{Piece, pieces, clean, fields, field}
use Rattle.dirf.specs.FieldReader.{field_of}
use Rattle.dirf.specs.Rules.{Found, keeps, breaks, given, or_else, ask, first}
use Rattle.dirf.specs.Tree.{Rec, Open, opening, declarant, number_of_first, place, parent_of}
use Rattle.dirf.specs.Order.{here, kind_of_line, order, line_opens}
use Rattle.dirf.specs.Order as parts
use Rattle.dirf.specs.Check.{entry_of as entry_after, bytes_of, table_of, Verdict, refused, accepted, no_bytes_left, rec_of, breach}
use Rattle.dirf.specs.Check.{after_line}
use Rattle.dirf.specs.Check.{run, verdict}
use Rattle.dirf.specs.Theorems.Belongs.{level}
use Rattle.dirf.specs.Theorems.Sound.{Sound}
use Rattle.dirf.proofs.tests.Bools.{if_cases, by_answer}
use Rattle.dirf.proofs.rules.RulesPut.{first_append}
use Rattle.dirf.proofs.tree.History.{table_length}
use Rattle.dirf.proofs.tree.OpenRecords.{OpenRecords, open_depth}
use Rattle.dirf.proofs.tree.Opened.{open_records, placed}
use Rattle.dirf.proofs.totals.Line.{Kept}
use Rattle.fields.specs.Places.{part_of}
use Rattle.layout.specs.LaidOut.{SayBelow}
use Rattle.rules.proofs.Laws.{or_keeps}
use Rattle.checker.specs.Lines.{after_line as behind_line, third_kind}
use Rattle.checker.specs.State.{line_bytes, start_state, start_past, last_in, above, Near, past_after, state_after}
use Rattle.checker.specs.Turn.{Stepped, refused_at, halt, Fits, looked_found, entry_of, turn_of}
use Rattle.checker.specs.Answers.{answer_of, entry_of_code, SayAll}
use Rattle.checker.specs.declared.Answer.{Answer}
use Rattle.checker.specs.State.{Past}
use Rattle.checker.specs.declared.state.State.{State}
use Rattle.checker.specs.declared.turn.Record.{Record}
use Rattle.checker.proofs.state.Sums.{Stack, Sums, sums_start, held_same, parent_same, held_few}
use Rattle.checker.proofs.state.Next.{sums_next}
use Rattle.checker.proofs.lines.NextLine.{line_is}
use Rattle.checker.proofs.turn.Outcome.{early, look_rule, ln, kd, rec, read_as, Took, Outcome, Turned, answer_is, looked_is}
use Rattle.checker.proofs.turn.Outcome.{small, turned}

-- what stands behind n lines
unfoldable pub behind : ℕ → Text → Text
behind zero s = s
behind (suc n) s = behind_line (behind n s)

-- the lines of records, the first one first
abbrev pub lines_of : List Rec → List Text
lines_of [] = []
lines_of (r ∷ rs) = lines_of rs ++ (r.line ∷ [])

-- the lines of a text
abbrev pub bodies : Text → List Text
bodies s = map (λ p. p.body) (pieces s)

-- The state sums up the records read so far, and what the rest of the file comes to is what the file comes to. Line 3 is the one by
-- which the table below was chosen.
pub record Reading (e : Edition) (below : List (List ℕ)) (file : Text) (room : ℕ) (st : State) (past : Past) (before : List Rec)
    : Type 0 where
  pub sums : Sums e below file st past before
  pub rest : run e room before (pieces (drop st.at file)) ≡ verdict e file room
  pub few : st.count ≤ lines_limit
  pub close : st.at ≤ line_bytes * st.count
  pub came : drop st.at file ≡ behind st.count file
  pub lines : bodies file ≡ lines_of before ++ bodies (drop st.at file)

pub reading_start : {e : Edition} {below : List (List ℕ)} {file : Text} {room : ℕ} → Sound e
    → Reading e below file room start_state start_past []
unfolding start_state verdict behind
reading_start sound =
    record {
      sums = sums_start sound;
      rest = refl;
      few = omega arith;
      close = omega arith;
      came = refl;
      lines = refl;
    }

-- a verdict on the records before
pub record Stops (v : Verdict) (before : List Rec) (a : Answer) : Type 0 where
  pub answer : a ≡ answer_of v
  pub table : v.table ≡ table_of before

module _ (e : Edition) (room : ℕ) (before : List Rec) (p : Piece) where
  -- 7
  abbrev full_rule : Found
  full_rule = given 7 0 (ltb room (suc (length before)))

  -- 21 and 20, then 7, come last
  last_two : let h = here e room before p in (first parts.look_back h ≡ look_rule e before p.body) × (first parts.room h ≡ full_rule)
  unfolding first ask line_opens
  last_two = (simp or_keeps, simp or_keeps)

  last_parts : {f : Found} → first early (here e room before p) ≡ f
      → breach e room before p ≡ or_else (or_else f (look_rule e before p.body)) full_rule
  unfolding breach order
  last_parts q =
      let h = here e room before p in
      first_append (early ++ parts.look_back) parts.room h
      ∙ ap₂ or_else (first_append early parts.look_back h ∙ ap₂ or_else q last_two.0) last_two.1

module _ {e : Edition} {below : List (List ℕ)} {file : Text} {room : ℕ} {st : State} {past : Past} {before : List Rec}
    (h : Reading e below file room st past before) where
  pub near : Near st
  near =
      record {
        few = h.few;
        near = h.close;
        shallow = omega (arith, h.sums.path.depth, open_depth (open_records e h.sums.sound h.sums.history));
      }

  abbrev Stop : Answer → Type 0
  Stop = Stops (verdict e file room) before

  -- one record more
  pub record Goes (r : Record) : Type 0 where
    pub rec : Rec
    pub entry : entry_of_code (entry_of st r) ≡ entry_after rec before
    -- the open records above it are those that the code has found
    pub up : List Open
    pub known : OpenRecords before (suc (length before)) (level rec.kind) up
    pub parent : rec.parent ≡ number_of_first up
    pub outer : r.outer ≡ length up
    pub stack : Stack st.path.opened up
    -- its line is the one that was read, and keeps the rules of its fields
    pub line : part_of file st.at r.len ≡ rec.line
    pub kind : kind_of_line e rec.line ≡ r.kind
    pub kept : Kept e rec.line
    pub reading : Reading e below file room (state_after st r.kind r.outer r.len)
        (past_after past r.kind (above st.path.opened r.outer).line st.at r.len) (rec ∷ before)

  -- a record was read: what 21 and 20, and then 7, make of it
  pub record On (r : Record) : Type 0 where
    pub fits : Fits st r
    pub refuses : (n f : ℕ) → looked_found file st r (last_in past r.kind) ≡ breaks n f → Stop (refused_at st.count n f)
    pub full : looked_found file st r (last_in past r.kind) ≡ keeps → room ≤ st.count → Stop (refused_at st.count 7 0)
    pub goes : looked_found file st r (last_in past r.kind) ≡ keeps → st.count < room → Goes r

  abbrev pub Step : Stepped → Type 0
  Step (Ok r) = On r
  Step (Err a) = Stop a

  ends : (a : Answer) (v : Verdict) → a ≡ answer_of v → v.table ≡ table_of before → v ≡ verdict e file room → Stop a
  ends a v q t w = record { answer = q ∙ ap answer_of w; table = sym (ap (λ (v : Verdict). v.table) w) ∙ t }

  -- the file ends here
  end_is : length file ≤ st.at → {d : Bool} → st.done ≡ d → (if d then accepted before else refused before 1 0) ≡ verdict e file room
  unfolding run no_bytes_left pieces
  end_is l q =
      ap (λ t. if t then accepted before else refused before 1 0) (sym q ∙ h.sums.done)
      ∙ sym (ap (λ s. run e room before (pieces s)) (drop_of_length-le file l)) ∙ h.rest

  end_step : length file ≤ st.at → (d : Bool) → st.done ≡ d
      → Step (if d then Err (record { number = 0; line = st.count; field = 0; entries = st.count }) else halt st 1 0)
  unfolding accepted refused answer_of
  end_step l true q =
      let n = h.sums.count in
      ends _ (accepted before)
      (ap₂ (λ x y. record { number = 0; line = x; field = 0; entries = y }) n (n ∙ sym (table_length before)))
      refl (end_is l q)
  end_step l false q = ends _ (refused before 1 0) (answer_is h.sums 1 0) refl (end_is l q)

  module _ {rows : List ℕ} (all : SayAll e rows below file) where
    -- the declarant after one more line
    say_next : 3 ≤ suc (length before) → SayBelow e (declarant (rec h.sums ∷ before)) below
    unfolding declarant opening third_kind kind_of_line field_of behind
    say_next l =
        if_cases (λ d. SayBelow e d below) (eqb (suc (length before)) 3)
        (λ t.
        let two : 2 ≡ st.count = omega (arith, h.sums.count, eqb-true (suc (length before)) 3 t) in
        subst (λ d. SayBelow e d below)
        (ap (λ s. kind_of e (field 1 (fields (clean s)))) (ap (λ n. behind n file) two ∙ sym h.came))
        all.say_below)
        (λ t. h.sums.say_below (omega (arith, eqb-false (suc (length before)) 3 t)))

    module _ (s : Stepped) (t : Turned h.sums room s) where
      abbrev p : Piece
      p = t.piece

      abbrev later : Verdict
      later = run e room (rec_of e before p ∷ before) t.rest

      on : {f : Found} → breach e room before p ≡ f → after_line before f later ≡ verdict e file room
      unfolding run
      on b = sym (ap (λ f. after_line before f later) b) ∙ sym (ap (run e room before) t.first_piece) ∙ h.rest

      broken : (n f : ℕ) (a : Answer) → breach e room before p ≡ breaks n f → a ≡ answer_of (refused before n f) → Stop a
      unfolding after_line refused
      broken n f a b q = ends a (refused before n f) q refl (on b)

      module _ (kept : first early (here e room before p) ≡ keeps) (o : Took h.sums p t.rest s) where
        breach_is : {f : Found} → looked_found file st (read_as h.sums) (last_in past (kd h.sums)) ≡ f
            → breach e room before p ≡ or_else f (full_rule e room before p)
        unfolding or_else
        breach_is q =
            last_parts e room before p kept
            ∙ ap (λ (q : Piece). or_else (look_rule e before q.body) (full_rule e room before q)) o.whole.is_piece
            ∙ ap (λ f. or_else f (full_rule e room before p))
            (sym (looked_is h.sums (small h.sums all) o.stands o.few) ∙ q)

        more : breach e room before p ≡ keeps → Goes (read_as h.sums)
        unfolding after_line rec_of bytes_of entry_after entry_of behind state_after behind_line parent_of
        more b =
            let line : Text = ln h.sums in
            let r : Rec = rec h.sums in
            let sum : st.at + length line + 2 ≡ st.at + (length line + 2) = omega arith in
            let moved : drop (st.at + length line + 2) file ≡ drop (length line + 2) (drop st.at file) =
            ap (λ x. drop x file) sum ∙ sym (drop-drop (length line + 2) st.at file) in
            record {
              rec = r;
              entry = ap₂ (λ x y. record { kind = r.kind; start = x; length = length line; parent = y }) h.sums.at
                  (parent_same h.sums r.kind o.stands);
              up = (place e before r.kind).up;
              known = (placed e h.sums.sound h.sums.history r.kind).known;
              parent = refl;
              outer = (held_same h.sums r.kind o.stands).0;
              stack = (held_same h.sums r.kind o.stands).1;
              line = line_is file st.at;
              kind = refl;
              kept = o.kept;
              reading = record {
                sums = sums_next h.sums r.kind o.stands line (line_is file st.at) (small h.sums all) say_next;
                rest = ap (λ s. run e room (r ∷ before) (pieces s)) moved ∙ ap (run e room (r ∷ before)) (sym o.whole.is_rest)
                    ∙ ap (λ (q : Piece). run e room (rec_of e before q ∷ before) t.rest) (sym o.whole.is_piece) ∙ on b;
                few = omega (arith, h.sums.count, o.fewer);
                close = omega (arith, h.close, o.whole.short);
                came = moved ∙ sym (drop-drop 2 (length line) (drop st.at file)) ∙ ap behind_line h.came
                    ∙ ap (λ n. behind n file) (sym (add-one st.count));
                lines = h.lines ∙ ap (λ ps. lines_of before ++ map (λ q. q.body) ps) t.first_piece
                    ∙ ap (λ (q : Piece). lines_of before ++ (q.body ∷ map (λ q. q.body) t.rest)) o.whole.is_piece
                    ∙ sym (append_assoc (lines_of before) (line ∷ []) (map (λ q. q.body) t.rest))
                    ∙ ap (λ ps. lines_of (r ∷ before) ++ map (λ q. q.body) ps)
                    (o.whole.is_rest ∙ ap pieces (sym moved));
              };
            }

        went_on : On (read_as h.sums)
        unfolding or_else given
        went_on =
            record {
              fits = record {
                kind = small h.sums all;
                outer = held_few h.sums (kd h.sums) o.stands;
                short = o.whole.short;
                safe = record { fewer = omega (arith, o.fewer, h.sums.count); near = near };
              };
              refuses = λ n f q. broken n f _ (breach_is q) (answer_is h.sums n f);
              full = λ q l. broken 7 0 _
                  (breach_is q ∙ ap (given 7 0) (lt-ltb room (suc (length before)) (omega (arith, l, h.sums.count))))
                  (answer_is h.sums 7 0);
              goes = λ q l. more (breach_is q ∙ ap (given 7 0) (le-ltb room (suc (length before)) (omega (arith, l, h.sums.count))));
            }

      on_step : Step s
      unfolding or_else
      on_step = go (first early (here e room before p)) refl t.outcome
        where
          go : (f : Found) → first early (here e room before p) ≡ f → Outcome h.sums p t.rest s f → Step s
          go keeps q o = subst Step (sym o.is_read) (went_on q o)
          go (breaks n f) q o = subst Step (sym o) (broken n f _ (last_parts e room before p q) refl)

    pub step : Step (turn_of e rows below file st)
    unfolding turn_of
    step =
        by_answer (leb (length file) st.at)
        (λ q. rw q (end_step (leb-true (length file) st.at q) st.done refl))
        (λ q. on_step (turn_of e rows below file st) (turned h.sums all room (leb-false (length file) st.at q)))
