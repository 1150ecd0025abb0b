-- The rules of a line: document 01's table of numbers, one definition a row, and the order in which they are tried.
use Rattle.std.specs.Prelude.{ℕ, suc, Bool, true, false, ◌&&◌, not, List, [], ◌∷◌, ◌++◌, eqb, ltb, length}
use Rattle.dirf.specs.Bytes.{Text, is_empty, ends_with}
use Rattle.dirf.specs.Limits.{line_limit, lines_limit, bar, CR}
use Rattle.dirf.specs.Kinds.{FIMDirf, is_later, stands_once}
use Rattle.dirf.specs.Edition.{Edition, kind_of, name_of, rows_of}
use Rattle.dirf.specs.Lines.{Piece, clean, unclean, fields, field}
use Rattle.dirf.specs.Fields.{field_order}
use Rattle.dirf.specs.Conditions.{condition_order}
use Rattle.dirf.specs.Rules.{Contents, Rule, gives, field_by_field, conditions, asked_of, over}
use Rattle.dirf.specs.Tree.{Rec, may_stand, parent_of}
use Rattle.dirf.specs.Keys.{has_key, last_under, is_some, not_after}

-- What the rules of a line are asked of: the edition, the room in the table, the records before it (last first) and its piece of
-- the file; and, worked out from these, what its fields hold and its parent.
pub record Here : Type 0 where
  pub edition : Edition
  pub room : ℕ
  pub before : List Rec
  pub piece : Piece
  pub contents : Contents
  pub parent : ℕ

-- what a line holds: the identifier, field 1, says its kind
unfoldable pub contents_of : Edition → ℕ → List Text → Contents
contents_of e k cells = record { kind = k; name = name_of e k; rows = rows_of e k; cells = cells }

unfoldable pub kind_of_line : Edition → Text → ℕ
kind_of_line e line = kind_of e (field 1 (fields line))

unfoldable pub here : Edition → ℕ → List Rec → Piece → Here
here e room before p =
    let k = kind_of_line e p.body in
    record {
      edition = e;
      room = room;
      before = before;
      piece = p;
      contents = contents_of e k (fields p.body);
      parent = parent_of e before k;
    }

-- n, the number of this line
unfoldable pub line_number : Here → ℕ
line_number h = suc (length h.before)

-- FIMDirf was read: it is the last record
unfoldable pub closed : List Rec → Bool
closed [] = false
closed (r ∷ rs) = eqb r.kind FIMDirf

-- 2 "bytes follow FIMDirf"
unfoldable pub bytes_follow_FIMDirf : Here → Bool
bytes_follow_FIMDirf h = closed h.before

-- 3 "line 65,537 would begin"
unfoldable pub too_many_lines : Here → Bool
too_many_lines h = ltb lines_limit (line_number h)

-- 4 "over 1,024 bytes before a CR, LF or the end"
unfoldable pub line_too_long : Here → Bool
line_too_long h = ltb line_limit (length (clean h.piece.body))

-- 5 "the input ends before any CR or LF, or right after the first CR"
unfoldable pub nothing_or_CR : Text → Bool
nothing_or_CR [] = true
nothing_or_CR (b ∷ []) = eqb b CR
nothing_or_CR (b ∷ c ∷ s) = false

unfoldable pub input_ends : Here → Bool
input_ends h = not h.piece.ended && nothing_or_CR (unclean h.piece.body)

-- 6 "a CR or LF that is not CR LF"
unfoldable pub stray_line_end : Here → Bool
stray_line_end h = not (is_empty (unclean h.piece.body))

-- 8 "the line is empty or its last byte is no bar"
unfoldable pub no_bar_at_the_end : Here → Bool
no_bar_at_the_end h = not (ends_with bar h.piece.body)

-- 9 "identifier unknown"
unfoldable pub identifier_unknown : Here → Bool
identifier_unknown h = eqb h.contents.kind 0

-- 10 "identifier known, left for later"
unfoldable pub left_for_later : Here → Bool
left_for_later h = is_later h.contents.kind

-- 12 "the record may not stand here"
unfoldable pub may_not_stand_here : Here → Bool
may_not_stand_here h = not (may_stand h.edition h.before h.contents.kind)

-- 11 "wrong number of fields"
unfoldable pub wrong_number_of_fields : Contents → Bool
wrong_number_of_fields c = not (eqb (length c.cells) (length c.rows))

-- 21 "a value record repeated", 02, A3: "under its own parent"
unfoldable pub value_record_repeated : Here → Bool
value_record_repeated h = stands_once h.contents.kind && is_some (last_under h.before h.parent h.contents.kind)

-- 20 "key not greater"
unfoldable pub key_not_greater : Here → Bool
key_not_greater h =
    has_key h.contents.kind
    && not_after h.contents.kind h.contents.cells (last_under h.before h.parent h.contents.kind)

-- 7 "the table holds fewer than n whole entries"
unfoldable pub no_room : Here → Bool
no_room h = ltb h.room (line_number h)

-- 01's table in parts, which the line writer's list is made of too: number, field, given exactly when.
abbrev pub limits : List (Rule Here)
limits = gives 2 0 bytes_follow_FIMDirf ∷ gives 3 0 too_many_lines ∷ []

abbrev pub line_ends : List (Rule Here)
line_ends = gives 4 0 line_too_long ∷ gives 5 0 input_ends ∷ gives 6 0 stray_line_end ∷ gives 8 0 no_bar_at_the_end ∷ []

abbrev pub kind : List (Rule Here)
kind = gives 9 1 identifier_unknown ∷ gives 10 1 left_for_later ∷ []

abbrev pub place : List (Rule Here)
place = gives 12 1 may_not_stand_here ∷ []

abbrev pub field_count : List (Rule Contents)
field_count = gives 11 0 wrong_number_of_fields ∷ []

abbrev pub contents : List (Rule Contents)
contents = field_by_field field_order (λ c. c) ∷ conditions 19 condition_order (λ c. c) ∷ []

abbrev pub look_back : List (Rule Here)
look_back = gives 21 1 value_record_repeated ∷ gives 20 2 key_not_greater ∷ []

abbrev pub room : List (Rule Here)
room = gives 7 0 no_room ∷ []

-- 01: "Tried for each line in this order"
unfoldable pub order : List (Rule Here)
unfolding over asked_of
order = limits ++ line_ends ++ kind ++ place ++ over (λ h. h.contents) (field_count ++ contents) ++ look_back ++ room

-- to compute with this file: `unfolding order_opens`; `line_opens` leaves shut what looks at the lines before
unfoldable pub line_opens : Unit {0}
unfolding contents_of kind_of_line here line_number bytes_follow_FIMDirf too_many_lines line_too_long nothing_or_CR input_ends
    stray_line_end
    no_bar_at_the_end identifier_unknown left_for_later may_not_stand_here wrong_number_of_fields value_record_repeated key_not_greater
    no_room order
line_opens = tt

unfoldable pub order_opens : Unit {0}
unfolding line_opens closed
order_opens = tt
