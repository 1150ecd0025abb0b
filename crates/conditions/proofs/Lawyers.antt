-- The field that the conditions of PROC and RRA name, by what field 4 says of the lawyer.
use Rattle.std.specs.Prelude.{Option, Some, None, if◌then◌else◌}
use Prim.Native.Nat.{ℕ}
use mathlib.Core.Path.{◌≡◌, refl, sym, ◌∙◌}
use mathlib.Core.Bool.{Bool, true, false, ◌&&◌, or-false}
use mathlib.Core.List.{List}
use Rattle.dirf.specs.Bytes.{Text, some, is_in, same}
use Rattle.dirf.specs.Kinds.{PROC}
use Rattle.dirf.specs.Lines.{field}
use Rattle.dirf.specs.Conditions.{Lawyer, person, firm, nobody, lawyers, of_lawyer, lawyers_number_wrong, lawyers_name_too_long}
use Rattle.dirf.specs.Conditions.{condition_order, lawyers_opens}
use Rattle.dirf.specs.Rules.{keeps, given, or_else, ask_conditions}
use Rattle.dirf.specs.Theorems.Plain.{◌∈◌}
use Rattle.dirf.proofs.tests.Says.{same_says}
use Rattle.dirf.proofs.tests.Lists.{Each, none, ◌also◌, of_each}
use Rattle.conditions.specs.Broken.{field_of, broken_field, other_digits, lawyers_field}
use Rattle.conditions.proofs.Fields.{no_byte}

two : (a b : Bool) → field_of (or_else (given 19 5 a) (or_else (given 19 6 b) keeps)) ≡ (if a then Some 5 else (if b then Some 6 else None))
unfolding given or_else field_of
two true b = refl
two false true = refl
two false false = refl

lawyer_field : (cells : List Text)
    → broken_field PROC cells ≡ (if lawyers_number_wrong cells then Some 5 else (if lawyers_name_too_long cells then Some 6 else None))
unfolding is_in some ask_conditions condition_order given or_else broken_field
lawyer_field cells = two (lawyers_number_wrong cells) (lawyers_name_too_long cells)

-- where field 4 says a kind, what that kind means is asked and nothing else
asked : (test : Lawyer → Bool) → Each (λ l. some (λ m. same l.kind m.kind && test m) lawyers ≡ test l) lawyers
unfolding some same lawyers
asked test = or-false (test _) also or-false (test _) also or-false (test _) also none

module _ (cells : List Text) (l : Lawyer) (m : l ∈ lawyers) where
  of_lawyer_lem : same (field 4 cells) l.kind ≡ true → (test : Lawyer → Bool) → of_lawyer test cells ≡ test l
  unfolding of_lawyer
  of_lawyer_lem e test = rw ((same_says (field 4 cells) l.kind).0 e) (of_each (asked test) l m)

  pub kind_means : {said : Bool} {r : Option ℕ} → said ≡ same (field 4 cells) l.kind → said ≡ true
      → r ≡ lawyers_field l.digits l.name cells → r ≡ broken_field PROC cells
  unfolding lawyers_number_wrong lawyers_name_too_long lawyers_field other_digits
  kind_means e t q = let s = of_lawyer_lem (sym e ∙ t) in q ∙ rw (lawyer_field cells, s, s, ← no_byte (field 5 cells))

-- and where it says none of them, nothing is
pub no_lawyers_kind : (cells : List Text) → same (field 4 cells) person.kind ≡ false → same (field 4 cells) firm.kind ≡ false
    → same (field 4 cells) nobody.kind ≡ false → broken_field PROC cells ≡ None
unfolding lawyers_opens some
no_lawyers_kind cells e f g = rw (lawyer_field cells, e, f, g)

-- to compute with the kinds of which a condition is asked: PROC and RRA have the same ones
unfoldable pub asked_opens : Unit {0}
unfolding is_in some ask_conditions condition_order given or_else field_of broken_field
asked_opens = tt
