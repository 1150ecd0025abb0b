-- The line writer and the reading of a line undo each other.
use Prim.Native.Nat.{ℕ, ◌≤◌}
use mathlib.Core.Path.{◌≡◌, refl, sym, ap, ◌∙◌}
use mathlib.Core.Bool.{true, false, not, true≢false}
use mathlib.Core.Logic.{◌⊎◌, inl, inr, ⊎_elim}
use mathlib.Core.List.{List, [], ◌∷◌, map}
use native.Mathlib.Omega.{arith}
use lib.Dec.{ltb}
use lib.ListN.{length, length-append}
use lib.Seq.{take-append_seam, drop-append_seam}
use borrow.Author.Tests.{le-ltb, eq-eqb, eqb-true, not-false, not-true}
use Rattle.dirf.specs.Bytes.{Text, every, some, is_in, is_empty, ends_with}
use Rattle.dirf.specs.Limits.{bar, line_limit}
use Rattle.dirf.specs.Row.{Row, obligatory, optional, identifier}
use Rattle.dirf.specs.Edition.{Edition, name_of, rows_of, is_base}
use Rattle.dirf.specs.Lines.{Piece, pieces, clean, fields, field}
use Rattle.dirf.specs.Fields.{obligatory_field_empty, not_a_valid_value, field_order}
use Rattle.dirf.specs.Conditions.{condition_order}
use Rattle.dirf.specs.Rules.{keeps, Contents, Rule, gives, field_by_field, conditions, ask_field, ask_fields, ask_conditions, ask, first}
use Rattle.dirf.specs.Tree.{Rec}
use Rattle.dirf.specs.Order.{Here, contents_of, kind_of_line, here, line_too_long, input_ends, stray_line_end, no_bar_at_the_end}
use Rattle.dirf.specs.Order.{identifier_unknown, left_for_later, wrong_number_of_fields, order}
use Rattle.dirf.specs.FieldReader.{width_of}
use Rattle.dirf.specs.Written.{writes}
use Rattle.dirf.specs.Tables.{longest}
use Rattle.dirf.specs.LineWriter.{cut, sum, joined, line_of, Writing, writing, no_base_kind, lengths_do_not_add_up, output_too_small}
use Rattle.dirf.specs.LineWriter.{writer_order, write_line}
use Rattle.dirf.specs.Theorems.Plain.{◌∈◌, NoLineEnd, whole_line}
use Rattle.dirf.specs.Theorems.Sound.{first_of, Sound}
use Rattle.dirf.specs.Theorems.Answered.{TestsSay}
use Rattle.dirf.specs.Theorems.ThereAndBack.{of_the_line, Sound-line, ReadsBack, WriterReadsBack, together, ReaderWritesBack}
use Rattle.dirf.proofs.tests.Says.{is_in_says}
use Rattle.dirf.proofs.tests.Lists.{listed, Each, none, ◌also◌, of_each}
use Rattle.dirf.proofs.rules.Asked.{given_false, given_keeps, or_else_left, one_kept, all_kept, first_tries, rule_kept, field_kept}
use Rattle.dirf.proofs.rules.Asked.{numbers_pass, given_number, first_passes, nothing_found}
use Rattle.dirf.proofs.rules.Given.{keeps_gives_none, none_given_keeps}
use Rattle.dirf.proofs.tables.Base.{named_base, base_not_later, base_not_zero, base_named, base_identifier_first}
use Rattle.dirf.proofs.back.KeptFields.{own_name, fields_fit}
use Rattle.dirf.proofs.breaches.CleanLaws.{clean_whole, nothing_unclean}
use Rattle.dirf.proofs.files.WholeLaws.{line_piece}
use Rattle.dirf.proofs.back.Bars.{Cell, length_joined, joined_fields, ends_joined, fields_joined, joined_clean}

-- of each rule of the list: it has no number that a line can give by itself, or it finds nothing
abbrev LineKept : Here → Type 0
LineKept h = Each (λ r. (numbers_pass (λ n. not (is_in n of_the_line)) r ≡ true) ⊎ (ask r h ≡ keeps)) order

module _ (e : Edition) (tests : TestsSay e) (p : Piece) where
  kept_sound : ((room : ℕ) (before : List Rec) → LineKept (here e room before p)) → Sound-line e p
  kept_sound each room before n f i b =
      let g = (tests room before p n f).0 b in
      ⊎_elim
      (λ other.
      let no_own = given_number (λ m. not (is_in m of_the_line)) g.2 other in
      true≢false (sym ((is_in_says n of_the_line).1 i) ∙ not-true (is_in n of_the_line) no_own))
      (λ kept. keeps_gives_none kept g.2)
      (of_each (each room before) g.0 g.1)

  sound_kept : Sound-line e p → (room : ℕ) (before : List Rec) (r : Rule Here) → r ∈ order → numbers_pass (λ n. is_in n of_the_line) r
      ≡ true
      → ask r (here e room before p) ≡ keeps
  sound_kept right room before r m own =
      none_given_keeps (here e room before p) r
      λ n f g.
      let i = (is_in_says n of_the_line).0 (given_number (λ m. is_in m of_the_line) g own) in
      right room before n f i ((tests room before p n f).1 (r, m, g))

-- contents that keep the rules which the line writer and the check share
record Kept (c : Contents) : Type 0 where
  counted : wrong_number_of_fields c ≡ false
  asked : ask_fields 1 field_order c.name c.rows c.cells ≡ keeps
  conditioned : ask_conditions 19 condition_order c.kind c.cells ≡ keeps

writer_kept : (w : Writing) → first writer_order w ≡ keeps → Kept w.contents
unfolding writer_order ask
writer_kept w k =
    record {
      counted = rule_kept 11 0 (λ w. wrong_number_of_fields w.contents) w (search listed depth 30) k;
      asked = one_kept _ _ (first_tries w) {x = field_by_field field_order (λ w. w.contents)} (search listed depth 30) k;
      conditioned = one_kept _ _ (first_tries w) {x = conditions 19 condition_order (λ w. w.contents)} (search listed depth 30) k;
    }

writer_keeps : (w : Writing) → is_base w.edition w.contents.kind ≡ true → Kept w.contents → sum w.lengths ≡ length w.given
    → length (line_of w.contents.cells) ≤ w.room → first writer_order w ≡ keeps
unfolding writer_order ask no_base_kind lengths_do_not_add_up output_too_small
writer_keeps w base kept sums fits =
    let k22 : no_base_kind w ≡ false = rw base in
    let k23 : lengths_do_not_add_up w ≡ false = rw (eq-eqb _ _ sums) in
    let k24 : output_too_small w ≡ false = le-ltb _ _ fits in
    all_kept _ _ (first_tries w) writer_order (of_each (search (none, ◌also◌, given_keeps) depth 40))

-- the first field is the record's own identifier
named_first : (name : Text) (rs : List Row) (cs : List Text) → first_of rs ≡ (obligatory, identifier) → length cs ≡ length rs
    → ask_fields 1 field_order name rs cs ≡ keeps → (rest : List Text) × (cs ≡ name ∷ rest)
unfolding ask_fields field_order
named_first name [] cs p n e =
    let q : optional ≡ obligatory = ap (λ x. x.0) p in
    let z : ◌≡◌ {A = ℕ} 0 1 = cc in
    absurd (omega arith)
named_first name (r ∷ rs) [] p n e = absurd (omega arith)
named_first name (r ∷ rs) (c ∷ cs) p n e =
    let here = or_else_left (ask_field 1 field_order name r c) (ask_fields 2 field_order name rs cs) e in
    let filled = field_kept 1 name r c 13 obligatory_field_empty (search listed depth 30) here in
    let valid = field_kept 1 name r c 18 not_a_valid_value (search listed depth 30) here in
    (cs, ap (λ s. s ∷ cs) (own_name name r c (ap (λ x. x.0) p) (ap (λ x. x.1) p) filled valid))

-- cells of a kind of the base that keep those rules, joined: the line reads back as they are
module _ (e : Edition) (sound : Sound e) (tests : TestsSay e) (k : ℕ) (cells : List Text)
    (base : is_base e k ≡ true) (kept : Kept (contents_of e k cells)) where
  as_many : length cells ≡ length (rows_of e k)
  unfolding contents_of wrong_number_of_fields
  as_many = eqb-true _ _ (not-false _ kept.counted)

  fit : Each Cell cells × (width_of cells ≤ longest (rows_of e k))
  unfolding contents_of
  fit = fields_fit 1 (name_of e k) (rows_of e k) cells as_many kept.asked

  headed : (rest : List Text) × (cells ≡ name_of e k ∷ rest)
  unfolding contents_of
  headed = named_first (name_of e k) (rows_of e k) cells (base_identifier_first e k base sound) as_many kept.asked

  same_fields : fields (joined cells) ≡ cells
  same_fields = fields_joined fit.0

  same_kind : kind_of_line e (joined cells) ≡ k
  unfolding kind_of_line field
  same_kind = rw (same_fields, headed.1) (base_named e k base sound)

  line_clean : NoLineEnd (joined cells)
  line_clean = joined_clean fit.0

  line_kept : (room : ℕ) (before : List Rec) → LineKept (here e room before (whole_line (joined cells)))
  unfolding order here ask line_too_long input_ends stray_line_end no_bar_at_the_end identifier_unknown left_for_later contents_of is_in
      some is_empty
  line_kept room before =
      let h = here e room before (whole_line (joined cells)) in
      let whole = clean_whole (joined cells) line_clean in
      let short : length (clean (joined cells)) ≤ line_limit =
      rw (whole, length_joined cells) (omega (arith, fit.1, sound.rows.lines k)) in
      let k4 : line_too_long h ≡ false = le-ltb line_limit _ short in
      let k5 : input_ends h ≡ false = refl in
      let k6 : stray_line_end h ≡ false = rw ((nothing_unclean (joined cells)).1 line_clean) in
      let barred : ends_with bar (joined cells) ≡ true = rw headed.1 (ends_joined (name_of e k) headed.0) in
      let k8 : no_bar_at_the_end h ≡ false = rw barred in
      let k9 : identifier_unknown h ≡ false = rw same_kind (base_not_zero e k base sound) in
      let k10 : left_for_later h ≡ false = rw same_kind (base_not_later e k base) in
      let k11 : Kept h.contents = rw (same_kind, same_fields) kept in
      search (none, ◌also◌, inl, inr, given_keeps) depth 40

  line_reads_back : (text : Text) (lengths : List ℕ) → cells ≡ cut lengths text → ReadsBack e k text lengths (line_of cells)
  unfolding line_of pieces
  line_reads_back text lengths p =
      record {
        line = joined cells;
        one_line = line_piece (joined cells) [] line_clean;
        same_fields = same_fields ∙ p;
        same_kind = same_kind;
        sound = kept_sound e tests (whole_line (joined cells)) line_kept;
      }

pub writer_reads_back : (e : Edition) → Sound e → TestsSay e → WriterReadsBack e
unfolding write_line writing writes writer_order field_order every no_base_kind contents_of
writer_reads_back e sound tests k text lengths room answered =
    let w : Writing = writing e k text lengths room in
    let cells = cut lengths text in
    let passes = first_passes (ltb 0) writer_order w refl in
    let found = nothing_found (λ x. (writes x (line_of cells)).number) (λ n f. refl) (first writer_order w) passes answered in
    let base = not-false _ (rule_kept 22 0 no_base_kind w (search listed depth 30) found) in
    rw found (line_reads_back e sound tests k cells base (writer_kept w found) text lengths refl)

cut_together : (cs : List Text) → cut (map length cs) (together cs) ≡ cs
unfolding cut together
cut_together [] = refl
cut_together (c ∷ cs) = rw (take-append_seam c (together cs), drop-append_seam c (together cs), cut_together cs)

sum_together : (cs : List Text) → sum (map length cs) ≡ length (together cs)
unfolding sum together
sum_together [] = refl
sum_together (c ∷ cs) = rw (sum_together cs) (sym (length-append c (together cs)))

-- a line that breaks no rule of a line: it is its fields joined, its kind is of the base, and its contents keep the writer's rules
pub reader_writes_back : (e : Edition) → Sound e → TestsSay e → ReaderWritesBack e
unfolding write_line writing writes line_of contents_of kind_of_line order here ask no_bar_at_the_end identifier_unknown left_for_later
    every is_in some field_order
reader_writes_back e _ tests line room right fits =
    let Kept-here = sound_kept e tests (whole_line line) right 0 [] in
    let k8 = given_false 8 0 _ (Kept-here (gives 8 0 no_bar_at_the_end) (search listed depth 30) refl) in
    let k9 = given_false 9 1 _ (Kept-here (gives 9 1 identifier_unknown) (search listed depth 30) refl) in
    let k10 = given_false 10 1 _ (Kept-here (gives 10 1 left_for_later) (search listed depth 30) refl) in
    let cells = fields line in
    let c = contents_of e (kind_of_line e line) cells in
    let kept : Kept c =
    record {
      counted = given_false 11 0 _ (Kept-here (gives 11 0 (λ h. wrong_number_of_fields h.contents)) (search listed depth 30) refl);
      asked = Kept-here (field_by_field field_order (λ h. h.contents)) (search listed depth 30) refl;
      conditioned = Kept-here (conditions 19 condition_order (λ h. h.contents)) (search listed depth 30) refl;
    } in
    let w : Writing = record { edition = e; contents = c; lengths = map length cells; given = together cells; room = room } in
    let whole = joined_fields line (not-false _ k8) in
    let enough : length (line_of cells) ≤ room = rw (whole, length-append) fits in
    let found = writer_keeps w (named_base e (field 1 cells) k9 k10) kept (sum_together cells) enough in
    rw (cut_together cells, found, whole)
