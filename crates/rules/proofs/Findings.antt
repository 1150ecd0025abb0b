-- What is found in a record's fields: what a finding is made of, field by field, and of a broken condition.
use Rattle.std.specs.Prelude.{Option, Some, None}
use Prim.Native.Nat.{ℕ, suc, ◌+◌, ◌≤◌, ◌<◌}
use mathlib.Core.Path.{◌≡◌, refl, sym, ◌∙◌}
use mathlib.Core.Bool.{Bool, true, false, ◌&&◌}
use mathlib.Core.List.{List, [], ◌∷◌}
use native.Mathlib.Omega.{arith}
use native.Mathlib.Numerals.{add-one}
use lib.ListN.{length, get_or, drop, drop_of_length-le}
use lib.Seq.{drop-cons}
use Rattle.dirf.specs.Bytes.{Text, is_in}
use Rattle.dirf.specs.Lines.{field}
use Rattle.dirf.specs.Row.{Row}
use Rattle.dirf.specs.Fields.{FieldRule, field_order}
use Rattle.dirf.specs.Conditions.{Condition}
use Rattle.dirf.specs.Rules.{Found, keeps, breaks, given, or_else, ask_field, ask_fields, ask_conditions}
use Rattle.conditions.specs.Broken.{field_of}
use Rattle.layout.specs.Tables.{count_in, rows_in}
use Rattle.layout.specs.Codes.{row_codes, row_said}
use Rattle.layout.proofs.Laws.{row_said_lem, rows_length, rows_at}
use Rattle.rules.specs.Findings.{number_of}
use Rattle.refusals.specs.declared.Refusal.{Refusal}
use Rattle.refusals.specs.Numbers.{number_for}
use Rattle.refusals.proofs.Numbers.{at_least_1}
use Rattle.rules.proofs.FieldOrder.{nothing}

-- a rule of field 0, named for another field
unfoldable pub placed : ℕ → Found → Found
placed f keeps = keeps
placed f (breaks number field) = breaks number f

given_placed : (n f : ℕ) (t : Bool) (x y : Found) → y ≡ placed f x → or_else (given n f t) y ≡ placed f (or_else (given n 0 t) x)
unfolding given or_else placed
given_placed n f true x y e = refl
given_placed n f false x y e = e

ask_placed : (f : ℕ) (xs : List FieldRule) (name : Text) (r : Row) (s : Text) → ask_field f xs name r s ≡ placed f (ask_field 0 xs name r s)
unfolding ask_field placed
ask_placed f [] name r s = refl
ask_placed f (x ∷ xs) name r s = given_placed x.0 f (x.1 name r s) _ _ (ask_placed f xs name r s)

placed_break : (f : ℕ) (x : Found) {n : ℕ} → n ≡ number_of x → (n ≡ 0 → ⊥) → placed f x ≡ breaks n f
unfolding placed number_of
placed_break f keeps e h = absurd (h e)
placed_break f (breaks n g) e h = rw e

module _ (xs : List FieldRule) (name : Text) where
  -- field by field, from field i on
  module _ (rows : List Row) (cells : List Text) (i : ℕ) where
    fields_on : (d : Row) → i < length rows → i < length cells
        → ask_fields (i + 1) xs name (drop i rows) (drop i cells)
        ≡ or_else (ask_field (i + 1) xs name (get_or rows i d) (get_or cells i []))
        (ask_fields (i + 1 + 1) xs name (drop (i + 1) rows) (drop (i + 1) cells))
    unfolding ask_fields
    fields_on d h k = rw (add-one i, add-one (suc i), drop-cons rows i d, drop-cons cells i [], ask_fields)

    pub fields_end : length cells ≤ i → ask_fields (i + 1) xs name (drop i rows) (drop i cells) ≡ keeps
    unfolding ask_fields
    fields_end h = rw (drop_of_length-le cells h) (none (drop i rows))
      where
        none : (rs : List Row) → ask_fields (i + 1) xs name rs [] ≡ keeps
        none [] = refl
        none (r ∷ rs) = refl

-- what is found from field i + 1 on, by the rows of a table
abbrev pub fields_from : List ℕ → ℕ → Text → List Text → ℕ → Found
fields_from t k name cells i = ask_fields (i + 1) field_order name (drop i (rows_in t k)) (drop i cells)

-- the codes of its row are asked
module _ (t : List ℕ) (k : ℕ) (name : Text) (cells : List Text) (i : ℕ) (h : i < count_in t k) (l : i < length cells) where
  abbrev row : Row
  row = row_said (row_codes t k i)

  here : fields_from t k name cells i
      ≡ or_else (placed (i + 1) (ask_field 0 field_order name row (get_or cells i []))) (fields_from t k name cells (i + 1))
  here =
      fields_on field_order name (rows_in t k) cells i row (omega (arith, rows_length t k)) l
      ∙ rw (rows_at t k i row h, ← row_said_lem t k i h, ask_placed (i + 1) field_order name row (get_or cells i []))

  -- a refusal is what is found, at field i + 1
  pub found_here : (r : Refusal) → number_for r ≡ number_of (ask_field 0 field_order name row (field (i + 1) cells))
      → breaks (number_for r) (i + 1) ≡ fields_from t k name cells i
  unfolding or_else placed field
  found_here r e =
      let e = rw add-one at e in
      sym (here ∙ rw (placed_break (i + 1) (ask_field 0 field_order name row (get_or cells i [])) e (λ z. omega (arith, at_least_1 r))))

  -- and none leaves it to the next field
  pub none_here : 0 ≡ number_of (ask_field 0 field_order name row (field (i + 1) cells))
      → fields_from t k name cells i ≡ fields_from t k name cells (i + 1)
  unfolding or_else placed field
  none_here e = let e = rw add-one at e in here ∙ rw (nothing name row (get_or cells i []) (sym e))

-- past the last row, and past the last cell, nothing is found
pub past_rows : (t : List ℕ) (k : ℕ) (name : Text) (cells : List Text) (i : ℕ) → count_in t k ≤ i → fields_from t k name cells i ≡ keeps
unfolding ask_fields
past_rows t k name cells i h = rw (drop_of_length-le (rows_in t k) {i = i} (omega (arith, rows_length t k, h)))

-- what conditions find is named 19, at the field of the first that is broken
unfoldable pub named : Option ℕ → Found
named None = keeps
named (Some f) = breaks 19 f

or_named : (f : ℕ) (t : Bool) {later : Found} → later ≡ named (field_of later)
    → or_else (given 19 f t) later ≡ named (field_of (or_else (given 19 f t) later))
unfolding given or_else named field_of
or_named f true e = refl
or_named f false e = e

pub at19 : (xs : List Condition) (k : ℕ) (cells : List Text)
    → ask_conditions 19 xs k cells ≡ named (field_of (ask_conditions 19 xs k cells))
unfolding ask_conditions named field_of
at19 [] k cells = refl
at19 (x ∷ xs) k cells = or_named x.field (is_in k x.kinds && x.broken cells) (at19 xs k cells)
